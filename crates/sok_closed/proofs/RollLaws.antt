-- What a closed list shows of the position from which it starts.
use Rattle.std.proofs.Common.{ℕ, ◌≡◌, ◌≤◌, ◌+◌, ◌⊎◌, inl, inr, List, Some, true, false, Contains, arith}
use Rattle.std.proofs.lemmas.Bool.{cases_Bool}
use Rattle.std.proofs.lemmas.List.Elements.{All-contains}
use Rattle.sok_rules.specs.declared.cell.Dir.{Dir}
use Rattle.sok_rules.specs.Play.{Position, After, step, pushes, AllOnGoals}
use Rattle.sok_rules.specs.States.{Same}
use Rattle.sok_rules.proofs.Steps.{IsStanding, IsStanding-step}
use Rattle.sok_rules.proofs.Walking.{Same-step, Same-sym, Same-trans}
use Rattle.sok_board.specs.Area.{BoardView}
use Rattle.sok_closed.specs.Rolls.{IsClosedAt, IsRoll, Node, node_position}
use Rattle.sok_closed.proofs.KnownPositions.{AgreesBefore, AllAgree, LeadsOn, Rearranges, all-agree, solved-Same}

-- an entry at most so deep, of the state of a position
record IsListedAt {E : Type 0} (node : E → Node) (b : BoardView) (entries : List E) (depth : ℕ) (x : Position) : Type 0 where
  pub entry : E
  pub listed : Contains entries entry
  pub near : (node entry).depth ≤ depth
  pub same : Same b.rows (node_position b (node entry)) x
  pub standing : IsStanding b.rows x

-- what agrees at a depth agrees at a greater one
abbrev pub AgreesDeeper : (ℕ → ℕ → Type 0) → Type 0
AgreesDeeper Agrees = (near far n : ℕ) → near ≤ far → Agrees near n → Agrees far n

-- from each position of the state of an entry that is not expanded each list that solves agrees
abbrev pub AreBarred : {E : Type 0} → (E → Node) → BoardView → List E → (ℕ → ℕ → Type 0) → Type 0
AreBarred {E} node b entries Agrees =
    (e : E) → Contains entries e → (node e).expanded ≡ false → (x : Position) → Same b.rows (node_position b (node e)) x
    → AllAgree b.rows Agrees (node e).depth x

module _ {E : Type 0} (node : E → Node) (b : BoardView) (count : ℕ) (from : Position) (entries : List E) (roll : IsRoll node b count from entries)
    (Agrees : ℕ → ℕ → Type 0) (before : AgreesBefore Agrees) (deeper : AgreesDeeper Agrees) (barred : AreBarred node b entries Agrees) where
  module _ (depth : ℕ) (x : Position) (at : IsListedAt node b entries depth x) where
    -- a walk stays in the state
    walked : (d : Dir) (a : After) → step b.rows d x ≡ Some a → a.pushed ≡ false → IsListedAt node b entries depth a.position
    walked d a steps is = record {
      entry = at.entry;
      listed = at.listed;
      near = at.near;
      same = Same-trans b.rows (node_position b (node at.entry)) x a.position at.same (Same-step b.rows d x a steps is);
      standing = IsStanding-step b.rows d x a steps;
    }

    -- a push from an expanded one is followed
    pushed : (node at.entry).expanded ≡ true → (d : Dir) (a : After) → step b.rows d x ≡ Some a → a.pushed ≡ true
        → IsListedAt node b entries (depth + 1) a.position
    pushed expanded d a steps is =
        let e = at.entry in
        let (f, follower) = All-contains (IsClosedAt node b entries) entries e roll.followed at.listed expanded x d a at.same steps is in
        let near = at.near in
        let further = follower.near in
        let standing = IsStanding-step b.rows d x a steps in
        record {
          entry = f;
          listed = follower.listed;
          near = omega (arith, near, further);
          same = Same-sym b.rows a.position (node_position b (node f)) standing follower.same;
          standing = standing;
        }

    unsolved : (node at.entry).expanded ≡ true → AllOnGoals b.rows x → ⊥
    unsolved expanded solved =
        All-contains (λ e. (node e).expanded ≡ true → AllOnGoals b.rows (node_position b (node e)) → ⊥) entries at.entry roll.unsolved at.listed expanded
        (solved-Same b.rows (node_position b (node at.entry)) x at.same solved)

    listed_known : AllAgree b.rows Agrees depth x
        ⊎ (LeadsOn b.rows (IsListedAt node b entries) depth x ⊎ Rearranges b.rows (IsListedAt node b entries) depth x)
    listed_known = elim (cases_Bool (node at.entry).expanded) [
      | inr other ↦ inl (λ w solves.
          deeper (node at.entry).depth depth (pushes b.rows x w) at.near (barred at.entry at.listed other x at.same w solves))
      | inl expanded ↦ inr (inl (record { unsolved = unsolved expanded; walked = walked; pushed = pushed expanded }))
    ]

  -- the theorem
  pub roll-agrees : IsStanding b.rows from → AllAgree b.rows Agrees 0 from
  roll-agrees standing w solves =
      let (e, starter) = roll.starter in
      let first = starter.first in
      all-agree b.rows Agrees before (IsListedAt node b entries) listed_known w 0 from (record {
        entry = e;
        listed = starter.listed;
        near = omega (arith, first);
        same = Same-sym b.rows from (node_position b (node e)) standing starter.same;
        standing = standing;
      }) solves

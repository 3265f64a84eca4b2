-- A box on a known square stays there or is the one that is pushed; on a stuck square it never comes to a goal.
use Rattle.std.proofs.Common.{ℕ, ◌≡◌, ◌<◌, ◌+◌, ◌⊎◌, inl, inr, refl, sym, ap, ◌∙◌, List, [], ◌∷◌, true, false, Some, arith, length}
use Rattle.std.proofs.Common.{subst}
use Rattle.std.specs.Option.{option_and_then}
use Rattle.std.proofs.lemmas.Bool.{cases_Bool, cases_eq}
use Rattle.std.proofs.lemmas.Option.{same_Some}
use Rattle.sok_rules.specs.declared.cell.Dir.{Dir}
use Rattle.sok_rules.specs.Squares.{Rows, same_spot}
use Rattle.sok_rules.specs.Play.{Position, After, step, moved, SolvesFrom}
use Rattle.sok_rules.proofs.Moved.{moved-kept}
use Rattle.sok_rules.proofs.Runs.{solves_on}
use Rattle.sok_rules.proofs.Spots.{same_spot-is}
use Rattle.sok_rules.proofs.Steps.{IsPush, step_cases}
use Rattle.sok_rules.proofs.Backs.{moved-to}
use Rattle.sok_board.specs.Area.{BoardView, IsArea, InArea, spot_of, number_of}
use Rattle.sok_board.proofs.AreaLaws.{number_of-spot_of, InArea-next}
use Rattle.sok_board.proofs.Numbering.{Contains-goals_of}
use Rattle.sok_distance.specs.Pushing.{lone_push, lone_pushes, IsStuck}
use Rattle.sok_distance.proofs.PushingLaws.{IsLonePush, lone_push-push}

-- the box that a letter pushes stands on a known square
pub record MovesBox (b : BoardView) (d : Dir) (x : Position) (a : After) (s : ℕ) : Type 0 where
  pub push : IsPush b.rows d x a
  pub lone : IsLonePush b d x.man push.from push.to
  pub is : lone.from ≡ s

-- after a letter the man is in the area
pub InArea-step : (rows : Rows) (d : Dir) (x : Position) (a : After) → InArea rows x.man → step rows d x ≡ Some a → InArea rows a.position.man
InArea-step rows d x a inside stepped = elim (step_cases rows d x a stepped) [
  | inl walk ↦ subst (λ (y : After). InArea rows y.position.man) (sym walk.leads) (InArea-next rows d x.man walk.to inside walk.ahead walk.to_open)
  | inr push ↦ subst (λ (y : After). InArea rows y.position.man) (sym push.leads) (InArea-next rows d x.man push.from inside push.ahead push.from_open)
]

-- where a push leaves its box
pub box-moved : (b : BoardView) (d : Dir) (x : Position) (a : After) (s : ℕ) → (moves : MovesBox b d x a s) → a.position.boxes (spot_of b moves.lone.to) ≡ true
box-moved b d x a s moves =
    ap (λ (y : After). y.position.boxes (spot_of b moves.lone.to)) moves.push.leads ∙ ap (moved x.boxes moves.push.from moves.push.to) moves.lone.to_spot ∙
    moved-to x.boxes moves.push.from moves.push.to

-- a box stays on its square, or it is the one that is pushed
pub box_kept : (b : BoardView) → IsArea b.rows b.area → (d : Dir) (x : Position) (a : After) → InArea b.rows x.man → step b.rows d x ≡ Some a → (s : ℕ)
    → s < length b.area
    → x.boxes (spot_of b s) ≡ true → (a.position.boxes (spot_of b s) ≡ true) ⊎ MovesBox b d x a s
box_kept b area d x a inside stepped s within there = elim (step_cases b.rows d x a stepped) [
  | inl walk ↦ inl (ap (λ (y : After). y.position.boxes (spot_of b s)) walk.leads ∙ there)
  | inr push ↦
      let lone = lone_push-push b area d x.man push.from push.to inside push.ahead push.from_open push.beyond push.to_open in
      elim (cases_eq lone.from s) [
        | inl is ↦ inr (record { push = push; lone = lone; is = is })
        | inr other ↦
            let apart : same_spot (spot_of b s) push.from ≡ false = elim (cases_Bool (same_spot (spot_of b s) push.from)) [
              | inr off ↦ off
              | inl on ↦ absurd (other (sym (same_Some s lone.from
                  (sym (number_of-spot_of b area s within) ∙ ap (number_of b) (same_spot-is (spot_of b s) push.from on) ∙ lone.from_is))))
            ] in
            inl (ap (λ (y : After). y.position.boxes (spot_of b s)) push.leads ∙ moved-kept x.boxes push.from push.to (spot_of b s) apart there)
      ]
]

-- where a lone push from a stuck square leads is stuck
IsStuck-pushed : (b : BoardView) (d : Dir) (from to : ℕ) → lone_push b d from ≡ Some to → IsStuck b from → IsStuck b to
IsStuck-pushed b d from to goes stuck = λ g n goal (w, leads, long). stuck g (n + 1) goal
    (d ∷ w, ap (option_and_then (λ t. lone_pushes b t w)) goes ∙ leads, omega (arith, long))

-- nothing solves while a box stands on a stuck square
pub never_stuck : (b : BoardView) → IsArea b.rows b.area → (w : List Dir) (x : Position) (s : ℕ) → InArea b.rows x.man → s < length b.area
    → x.boxes (spot_of b s) ≡ true → IsStuck b s → SolvesFrom b.rows x w → ⊥
never_stuck b area [] x s inside within there stuck solves = stuck s 0 (Contains-goals_of b s within (solves (spot_of b s) there)) ([], refl, refl)
never_stuck b area (d ∷ w) x s inside within there stuck solves =
    solves_on b.rows d w x solves (λ a stepped on. elim (box_kept b area d x a inside stepped s within there) [
      | inl kept ↦ never_stuck b area w a.position s (InArea-step b.rows d x a inside stepped) within kept stuck on
      | inr moves ↦
          let left : IsStuck b moves.lone.from = subst (IsStuck b) (sym moves.is) stuck in
          never_stuck b area w a.position moves.lone.to (InArea-step b.rows d x a inside stepped) moves.lone.to_within (box-moved b d x a s moves)
          (IsStuck-pushed b d moves.lone.from moves.lone.to moves.lone.goes left) on
    ])

-- The least that open states need, which is no less than what the start needs.
use Rattle.std.proofs.Common.{ℕ, ◌≡◌, ◌<◌, ◌≤◌, ◌+◌, ◌∙◌, inl, inr, refl, sym, ap, subst, List, Some, min, arith, length, slice_get}
use Rattle.std.proofs.Math.Nat.{min-eq_left, min-eq_right, min-le_left, min-le_right}
use Rattle.std.proofs.lemmas.Bool.{cases_eq, cases_lt}
use Rattle.std.proofs.lemmas.Option.{same_Some}
use Rattle.std.specs.Map.{values_of}
use Rattle.sok_rules.specs.Play.{start}
use Rattle.sok_rules.proofs.Man.{IsStanding-start}
use Rattle.sok_rules.proofs.Runs.{IsStanding-run}
use Rattle.sok_rules.proofs.Walking.{Same-sym}
use Rattle.sok_board.specs.Area.{BoardView, IsAccepted, boxes_of}
use Rattle.sok_price.specs.Prices.{Priced}
use Rattle.sok_price.proofs.DualityLaws.{AtLeast-run}
use Rattle.sok_price.proofs.States.{stands_same, stands_start}
use Rattle.sok_cert.specs.Text.{number_limit}
use Rattle.sok_state.specs.Keys.{key_position}
use Rattle.sok_search.specs.declared.note.Note.{Note}
use Rattle.sok_search.specs.declared.note.Standing.TheVariants.{Open}
use Rattle.sok_search.specs.Halted.{IsLeastOfFirst, IsLeastOpen, IsOpenAt}
use Rattle.sok_search.specs.Searches.{IsSearch, Progress, Stands}
use Rattle.sok_search.proofs.Bounding.{placed-apart}
use Rattle.sok_search.proofs.Chains.{state-reached}
use Rattle.sok_search.proofs.StatesByIndex.{known-at}

same_bound : (a b : ℕ) → Open a ≡ Open b → a ≡ b
same_bound a b e = cc

-- what stands at an index needs one number of pushes
open-one : (p : Progress) (i m n : ℕ) → IsOpenAt p i m → IsOpenAt p i n → m ≡ n
open-one p i m n one other =
    let depths = same_Some one.depth other.depth (sym one.state.depth_is ∙ other.state.depth_is) in
    let notes : one.note ≡ other.note = same_Some one.note other.note (sym one.state.note_is ∙ other.state.note_is) in
    let bounds = same_bound one.bound other.bound (sym one.is_open ∙ ap (λ (note : Note). note.standing) notes ∙ other.is_open) in
    let first = one.needs in
    let second = other.needs in
    omega (arith, first, second, depths, bounds)

-- the note at an index tells whether the state is open
pub open-at : (b : BoardView) (limit : ℕ) (p : Progress) → IsSearch b limit p → (i depth bound : ℕ) (note : Note) → i < length p.table
    → slice_get (values_of p.table) i ≡ Some depth → slice_get p.notes i ≡ Some note → note.standing ≡ Open bound → IsOpenAt p i (depth + bound)
open-at b limit p search i depth bound note within depth_is note_is is =
    let (key, known) = known-at b limit p search i within in
    record {
      key = key;
      depth = depth;
      note = note;
      state = record { there = known.state.there; depth_is = depth_is; note_is = note_is };
      bound = bound;
      is_open = is;
      needs = refl;
    }

pub closed-at : (p : Progress) (i n : ℕ) (note : Note) → slice_get p.notes i ≡ Some note → ((bound : ℕ) → note.standing ≡ Open bound → ⊥)
    → IsOpenAt p i n → ⊥
closed-at p i n note note_is other at =
    let same : note ≡ at.note = same_Some note at.note (sym note_is ∙ at.state.note_is) in
    other at.bound (ap (λ (noted : Note). noted.standing) same ∙ at.is_open)

-- one state more, which is open
pub least-open : (p : Progress) (count least n : ℕ) → IsLeastOfFirst p count least → IsOpenAt p count n → IsLeastOfFirst p (count + 1) (min least n)
least-open p count least n first at = record {
  small = let near = min-le_left least n in let small = first.small in omega (arith, near, small);
  below = λ i m within other. elim (cases_eq i count) [
    | inl same ↦
        let equal = open-one p count n m at (subst (λ k. IsOpenAt p k m) same other) in
        let near = min-le_right least n in
        omega (arith, equal, near)
    | inr apart ↦
        let before = first.below i m (omega (arith, within, apart)) other in
        let near = min-le_left least n in
        omega (arith, before, near)
  ];
  reached = elim (cases_lt n least) [
    | inl less ↦ inr (count, subst (IsOpenAt p count) (sym (min-eq_right (omega (arith, less)))) at)
    | inr low ↦ elim first.reached [
      | inl greatest ↦ inl (min-eq_left low ∙ greatest)
      | inr (i, one) ↦ inr (i, subst (IsOpenAt p i) (sym (min-eq_left low)) one)
    ]
  ];
}

-- or is not
pub least-other : (p : Progress) (count least : ℕ) → IsLeastOfFirst p count least → ((n : ℕ) → IsOpenAt p count n → ⊥) → IsLeastOfFirst p (count + 1) least
least-other p count least first closed = record {
  small = first.small;
  below = λ i m within other. elim (cases_eq i count) [
    | inl same ↦ absurd (closed m (subst (λ k. IsOpenAt p k m) same other))
    | inr apart ↦ first.below i m (omega (arith, within, apart)) other
  ];
  reached = first.reached;
}

module _ (b : BoardView) (accepted : IsAccepted b) (limit : ℕ) (p : Progress) (search : IsSearch b limit p) where
  -- an open state needs no less than prices prove at the start: they fall by at most one with each push that leads to it
  open-covers : (i m : ℕ) → IsOpenAt p i m → (u v : List ℕ) (n : ℕ) → Priced b (boxes_of b) u v n → n ≤ m
  open-covers i m at u v n priced =
      let noted = search.noted i at.key at.depth at.note at.state in
      let stands : Stands b p i at.key at.depth (Open at.bound) = subst (Stands b p i at.key at.depth) at.is_open noted.stands in
      let bound = stands.0 in
      let (_, (goal_of, distances, assignment, cost_is)) = bound.price in
      let reached = state-reached b limit p search i at.key at.depth at.state.there at.state.depth_is in
      let standing = IsStanding-run b.rows reached.letters (start b.rows) reached.to (IsStanding-start b.rows accepted.proper) reached.leads in
      let there = stands_same b accepted.numbered at.key.least at.key.boxes (placed-apart b at.key.boxes at.key.least reached.is.placed) reached.to
      (Same-sym b.rows reached.to (key_position b at.key) standing reached.is.same) in
      let fall = AtLeast-run b accepted.numbered (start b.rows) reached.to (boxes_of b) u v n (stands_start b accepted.numbered) priced reached.letters
      reached.leads at.key.boxes goal_of distances there assignment in
      let few = reached.few in
      let less = bound.no_less in
      let needs = at.needs in
      omega (arith, fall, few, cost_is, less, needs)

  -- so the least covers the start
  pub least-covers : (least : ℕ) → IsLeastOpen p least → (u v : List ℕ) (n : ℕ) → Priced b (boxes_of b) u v n → n ≤ number_limit → n ≤ least
  least-covers least of_all u v n priced small = elim of_all.reached [
    | inl greatest ↦ omega (arith, small, greatest)
    | inr (i, at) ↦ open-covers i least at u v n priced
  ]

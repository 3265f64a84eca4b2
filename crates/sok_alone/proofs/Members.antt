-- Boxes of a list as members of it.
use Rattle.std.proofs.Common.{ℕ, ◌≡◌, ◌<◌, ◌+◌, ◌∙◌, inl, inr, sym, ap, subst, List, [], ◌∷◌, ◌++◌, Some, All, arith, get_or, length, slice_get, slice_index}
use Rattle.std.specs.List.Sorted.{IsStrictlyIncreasing}
use Rattle.std.proofs.lemmas.Bool.{cases_eq, cases_lt}
use Rattle.std.proofs.lemmas.List.{get_or-map, map-append}
use Rattle.std.proofs.lemmas.Option.{get_or_from_slice_get}
use Rattle.sok_board.specs.Area.{BoardView}
use Rattle.sok_entry.specs.declared.entry.Inner.{Inner}
use Rattle.sok_bar.specs.Patterns.{AreClosedAlone, IsPattern, squares_at}
use Rattle.sok_bar.proofs.Rising.{below_later}
use Rattle.sok_alone.specs.Finding.{AreMembersAt}

pub members-more : (boxes members : List ℕ) (place square : ℕ) → slice_get boxes place ≡ Some square
    → squares_at boxes (members ++ place ∷ []) ≡ squares_at boxes members ++ square ∷ []
members-more boxes members place square there =
    map-append (slice_index boxes) members (place ∷ []) ∙ ap (λ s. squares_at boxes members ++ s ∷ []) (get_or_from_slice_get boxes place square 0 there)

-- places of squares that rise do so too
pub members-at : (boxes squares members : List ℕ) → IsStrictlyIncreasing boxes → IsStrictlyIncreasing squares → length members ≡ length squares
    → All (λ k. k < length boxes) members → squares_at boxes members ≡ squares → AreMembersAt boxes squares members
members-at boxes squares members rising in_order as_many within are = record {
  listed = record {
    rising = λ k below.
        let i = get_or members k 0 in
        let j = get_or members (k + 1) 0 in
        let first : get_or squares k 0 ≡ get_or boxes i 0 = ap (λ s. get_or s k 0) (sym are) ∙ get_or-map (slice_index boxes) members k 0 0 (omega (arith, below)) in
        let second : get_or squares (k + 1) 0 ≡ get_or boxes j 0 = ap (λ s. get_or s (k + 1) 0) (sym are) ∙ get_or-map (slice_index boxes) members (k + 1) 0 0 below in
        let less = in_order k (omega (arith, below, as_many)) in
        elim (cases_lt i j) [
          | inl before ↦ before
          | inr past ↦ elim (cases_eq j i) [
            | inl same ↦ let equal = ap (λ n. get_or boxes n 0) same in absurd (omega (arith, equal, first, second, less))
            | inr apart ↦
                let above = below_later boxes j i rising (omega (arith, past, apart)) (within k 0 (omega (arith, below))) in
                absurd (omega (arith, above, first, second, less))
          ]
        ];
    within = within;
  };
  squares_are = are;
}

-- by equal lists
pub members-as : (boxes list squares others members : List ℕ) → list ≡ boxes → squares ≡ others → AreMembersAt list squares members
    → AreMembersAt boxes others members
members-as boxes list squares others members list_is squares_are at =
    subst (λ (s : List ℕ). AreMembersAt boxes s members) squares_are (subst (λ (bs : List ℕ). AreMembersAt bs squares members) list_is at)

-- what is closed of them alone is a pattern
pub pattern-of : (b : BoardView) (player : ℕ) (boxes squares members : List ℕ) (inner : List Inner) → AreMembersAt boxes squares members
    → AreClosedAlone b player squares inner → IsPattern b player boxes members inner
pattern-of b player boxes squares members inner at closed = record {
  listed = at.listed;
  closed = subst (λ s. AreClosedAlone b player s inner) (sym at.squares_are) closed;
}

-- Those of some boxes that stand on some squares.
use Rattle.std.proofs.Common.{ℕ, ◌≡◌, ◌∙◌, ◌==◌, List, Bool, true, arith, filter, Contains}
use Rattle.std.specs.List.{list_any}
use Rattle.std.specs.List.Sorted.{IsStrictlyIncreasing}
use Rattle.std.proofs.lemmas.Bool.Decides.{nat_tests}
use Rattle.std.proofs.lemmas.List.{get_or_default}
use Rattle.std.proofs.lemmas.List.Folds.{Any-from_list_any, list_any_at}
use Rattle.std.proofs.lemmas.List.Kept.{IsStrictlyIncreasing-filter}
use Rattle.sok_board.proofs.Lists.{Contains-filter, Contains-from_filter}
use Rattle.sok_alone.specs.Losses.{AreChosen}

-- the test by which they are chosen
abbrev pub is_one_of : List ℕ → ℕ → Bool
is_one_of squares n = list_any (λ y. y == n) squares

one-of : (squares : List ℕ) (n : ℕ) → is_one_of squares n ≡ true → Contains squares n
one-of squares n e =
    let (k, x, within, at, holds) = Any-from_list_any (λ y. y == n) squares e in
    let is : x ≡ n = grind (arith, nat_tests, holds) in
    (k, within, get_or_default squares k n x within ∙ at ∙ is)

is-one : (squares : List ℕ) (n : ℕ) → Contains squares n → is_one_of squares n ≡ true
is-one squares n (k, within, is) = list_any_at (λ y. y == n) squares k n within (grind (arith, nat_tests, is))

pub are-chosen : (boxes squares : List ℕ) → IsStrictlyIncreasing boxes → AreChosen boxes squares (filter (is_one_of squares) boxes)
are-chosen boxes squares rising = record {
  rising = IsStrictlyIncreasing-filter (is_one_of squares) boxes rising;
  exact = λ n. (
    λ there. let (among, passes) = Contains-from_filter (is_one_of squares) boxes n there in (among, one-of squares n passes),
    λ both. Contains-filter (is_one_of squares) boxes n both.0 (is-one squares n both.1),
  );
}

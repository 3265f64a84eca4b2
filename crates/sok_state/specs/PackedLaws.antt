-- Packed keys are compared by the numbers that they hold: they are equal exactly if they represent the same key.
use Rattle.std.proofs.Common.{ℕ, ◌≡◌, ◌<◌, ◌+◌, ◌*◌, ◌^◌, ◌↔◌, ◌&&◌, ◌==◌, sym, ap, ◌∙◌, subst, List, Bool, true, Contains, arith, length, get_or}
use Rattle.std.specs.Bool.{Decides}
use Rattle.std.proofs.lemmas.Bool.Decides.{nat_tests}
use Rattle.std.proofs.lemmas.Grind.{same_number_lists}
use Rattle.sok_rules.proofs.Steps.{both}
use Rattle.sok_rules.specs.declared.cell.Spot.{Spot}
use Rattle.sok_field.specs.Fields.{has}
use Rattle.sok_field.specs.Numbers.{bit_of_number, has_number}
use Rattle.sok_field.proofs.Spreading.{has-col}
use Rattle.sok_field.proofs.Flooding.{rises-from_has}
use Rattle.sok_field.proofs.OneSquare.{same_place}
use Rattle.sok_region.specs.Regions.{squares_of}
use Rattle.sok_region.proofs.Regions.{Contains-squares_of}
use Rattle.sok_state.specs.declared.bit_key.BitKey.{BitKey}
use Rattle.sok_state.specs.declared.list_key.ListKey.{ListKey}
use Rattle.sok_state.specs.PackedKeys.{IsOfWords, IsShortList, bit_state, list_state}
use lib.Pointwise.{pointwise, pointwise_decides}

same_numbers : (xs ys : List ℕ) → Decides (pointwise ◌==◌ xs ys) (xs ≡ ys)
same_numbers = pointwise_decides (λ x y. (λ e. grind (arith, nat_tests, e), λ e. grind (arith, nat_tests, e)))

abbrev pub numbers_eq : List ℕ → List ℕ → ℕ → ℕ → Bool
numbers_eq xs ys m n = pointwise ◌==◌ xs ys && m == n

same_from_eq : (xs ys : List ℕ) (m n : ℕ) → numbers_eq xs ys m n ≡ true → (xs ≡ ys) × (m ≡ n)
same_from_eq xs ys m n e =
    let (lists, number) = both (pointwise ◌==◌ xs ys) (m == n) e in
    ((same_numbers xs ys).0 lists, grind (arith, nat_tests, number))

eq_from_same : (xs ys : List ℕ) (m n : ℕ) → xs ≡ ys → m ≡ n → numbers_eq xs ys m n ≡ true
eq_from_same xs ys m n lists number =
    let listed = (same_numbers xs ys).1 lists in
    let equal : (m == n) ≡ true = grind (arith, nat_tests, number) in
    λ i. listed i && equal i

-- words that have all bits of others are no less than these
no_less : (xs ys : List ℕ) → ((r : ℕ) → get_or xs r 0 < 2 ^ 64) → squares_of xs ≡ squares_of ys → (s : Spot) → has xs s ≡ true → has ys s ≡ true
no_less xs ys fits same s on =
    let column = has-col xs s (fits s.row) on in
    let n = s.row * 64 + s.col in
    let bit : bit_of_number n ≡ s = same_place (bit_of_number n) s (omega arith) (omega arith) in
    let here : has_number xs n ≡ true = ap (has xs) bit ∙ on in
    let there : Contains (squares_of ys) n = subst (λ squares. Contains squares n) same ((Contains-squares_of xs n).1 here) in
    ap (has ys) (sym bit) ∙ (Contains-squares_of ys n).0 there

-- words with the same squares are equal
same_words : (xs ys : List ℕ) → length xs ≡ length ys → ((r : ℕ) → get_or xs r 0 < 2 ^ 64) → ((r : ℕ) → get_or ys r 0 < 2 ^ 64)
    → squares_of xs ≡ squares_of ys → xs ≡ ys
same_words xs ys long fits also_fits same =
    let up = rises-from_has xs ys (no_less xs ys fits same) in
    let down = rises-from_has ys xs (no_less ys xs also_fits (sym same)) in
    same_number_lists xs ys long (λ k within. let low = up k in let high = down k in omega (arith, low, high))

pub same_bits : (N : ℕ) (a b : BitKey N) → IsOfWords N a → IsOfWords N b → (numbers_eq a.boxes b.boxes a.least b.least ≡ true) ↔ (bit_state a ≡ bit_state b)
same_bits N a b of_a of_b = (
  λ e. let (boxes, least) = same_from_eq a.boxes b.boxes a.least b.least e in λ i. record { boxes = squares_of (boxes i); least = least i },
  λ same. eq_from_same a.boxes b.boxes a.least b.least
      (same_words a.boxes b.boxes (of_a.long ∙ sym of_b.long) of_a.fits of_b.fits (λ i. (same i).boxes)) (λ i. (same i).least),
)

-- the same holds of lists
pub same_list : (a b : ListKey) → IsShortList a → IsShortList b
    → (numbers_eq a.boxes.items b.boxes.items a.least b.least ≡ true) ↔ (list_state a ≡ list_state b)
same_list a b _ _ = (
  λ e. let (boxes, least) = same_from_eq a.boxes.items b.boxes.items a.least b.least e in λ i. record { boxes = boxes i; least = least i },
  λ same. eq_from_same a.boxes.items b.boxes.items a.least b.least (λ i. (same i).boxes) (λ i. (same i).least),
)

-- Squares of an area and their numbers.
use Rattle.std.proofs.Common.{ℕ, ◌≡◌, ◌<◌, inl, inr, refl, sym, ◌∙◌, ap, subst, List, [], ◌∷◌, ◌++◌, Some, None, true, false, arith, length, get_or}
use Rattle.std.proofs.Common.{if◌then◌else◌, cond, nat_lt}
use Rattle.std.proofs.lemmas.Bool.Decides.{nat_tests}
use Rattle.std.proofs.lemmas.Option.{same_Some, unwrap_or-slice_get}
use Rattle.std.proofs.lemmas.List.Quantifiers.{position-Some}
use Rattle.std.proofs.lemmas.List.{get_or_default}
use Rattle.std.proofs.lemmas.List.Sums.{position_or_len_is}
use Rattle.std.specs.List.{position_or_len}
use Rattle.std.specs.Option.{option_and_then}
use Rattle.sok_rules.specs.declared.cell.Dir.{Dir}
use Rattle.sok_rules.specs.declared.cell.Spot.{Spot}
use Rattle.sok_rules.specs.Squares.{Rows, holds, is_open, next, same_spot}
use Rattle.sok_rules.specs.Play.{start}
use Rattle.sok_rules.proofs.Spots.{same_spot-is, same_spot-refl}
use Rattle.sok_board.specs.Area.{BoardView, IsArea, InArea, stroll, Before, spot_of, number_of}

abbrev pub origin : Spot
origin = record { row = 0; col = 0 }

pub spot_of-at : (b : BoardView) (n : ℕ) → spot_of b n ≡ get_or b.area n origin
spot_of-at b n = unwrap_or-slice_get b.area n origin

pub spot_of-number_of : (b : BoardView) (s : Spot) (n : ℕ) → number_of b s ≡ Some n → (n < length b.area) × (spot_of b n ≡ s)
spot_of-number_of b s n e =
    let found = position-Some (same_spot s) b.area n origin e in
    (found.0, spot_of-at b n ∙ sym (same_spot-is s (get_or b.area n origin) found.1))

pub before_apart : (a c : Spot) → Before a c → same_spot c a ≡ false
before_apart a c (inl row) = grind (arith, nat_tests, row)
before_apart a c (inr (row, col)) = grind (arith, nat_tests, row, col)

-- a square's number is the place at which it stands
pub number_of-spot_of : (b : BoardView) → IsArea b.rows b.area → (n : ℕ) → n < length b.area → number_of b (spot_of b n) ≡ Some n
number_of-spot_of b area n within =
    let at : spot_of b n ≡ get_or b.area n origin = spot_of-at b n in
    let first : position_or_len (same_spot (spot_of b n)) b.area ≡ n =
    position_or_len_is (same_spot (spot_of b n)) b.area n origin (omega (arith, within))
    (λ k below. ap (λ s. same_spot s (get_or b.area k origin)) at
    ∙ before_apart (get_or b.area k origin) (get_or b.area n origin) (area.in_order k n origin below within))
    (λ _. ap (same_spot (spot_of b n)) (sym at) ∙ same_spot-refl (spot_of b n)) in
    let found : nat_lt n (length b.area) ≡ true = grind (arith, nat_tests, within) in
    ap (λ k. cond (nat_lt k (length b.area)) (Some k) None) first ∙ ap (λ t. cond t (Some n) None) found

-- squares of the area are told apart by their numbers
pub same_number : (b : BoardView) → IsArea b.rows b.area → (n m : ℕ) → n < length b.area → m < length b.area → spot_of b n ≡ spot_of b m → n ≡ m
same_number b area n m n_within m_within same = same_Some n m
    (sym (number_of-spot_of b area n n_within) ∙ ap (number_of b) same ∙ number_of-spot_of b area m m_within)

-- a square of the area has a number
pub number-InArea : (b : BoardView) → IsArea b.rows b.area → (s : Spot) → InArea b.rows s
    → (n : ℕ) × (number_of b s ≡ Some n) × (n < length b.area) × (spot_of b n ≡ s)
number-InArea b area s inside =
    let (k, within, is) = area.whole s inside in
    let there : spot_of b k ≡ s = spot_of-at b k ∙ get_or_default b.area k origin s within ∙ is in
    (k, ap (number_of b) (sym there) ∙ number_of-spot_of b area k within, within, there)

pub InArea-spot_of : (b : BoardView) → IsArea b.rows b.area → (n : ℕ) → n < length b.area → InArea b.rows (spot_of b n)
InArea-spot_of b area n within = subst (InArea b.rows) (sym (spot_of-at b n)) (area.inside n origin within)

stroll-append : (rows : Rows) (w v : List Dir) (s : Spot) → stroll rows s (w ++ v) ≡ option_and_then (λ t. stroll rows t v) (stroll rows s w)
stroll-append rows [] v s = refl
stroll-append rows (d ∷ w) v s = elim (next d s) as (λ o. option_and_then (λ t. if holds is_open rows t then stroll rows t (w ++ v) else None) o
    ≡ option_and_then (λ t. stroll rows t v) (option_and_then (λ t. if holds is_open rows t then stroll rows t w else None) o)) [
      | None ↦ refl
      | Some t ↦ elim (holds is_open rows t) as (λ h. (if h then stroll rows t (w ++ v) else None)
          ≡ option_and_then (λ t. stroll rows t v) (if h then stroll rows t w else None)) [
            | true ↦ stroll-append rows w v t
            | false ↦ refl
          ]
    ]

-- an open square beside the area is of the area
pub InArea-next : (rows : Rows) (d : Dir) (s t : Spot) → InArea rows s → next d s ≡ Some t → holds is_open rows t ≡ true → InArea rows t
InArea-next rows d s t (w, leads) beside opened = (
  w ++ d ∷ [],
  stroll-append rows w (d ∷ []) (start rows).man ∙ ap (option_and_then (λ u. stroll rows u (d ∷ []))) leads
      ∙ ap (option_and_then (λ u. if holds is_open rows u then Some u else None)) beside ∙ ap (λ h. if h then Some t else None) opened,
)

-- the area has the square on which the man starts
pub InArea-man : (rows : Rows) → InArea rows (start rows).man
InArea-man rows = ([], refl)

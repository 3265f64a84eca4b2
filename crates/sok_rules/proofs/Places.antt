-- The places of a level's text, and the player who is found among them.
use Rattle.std.proofs.Common.{ℕ, ◌≡◌, ◌<◌, ◌+◌, ◌||◌, sym, ap, ◌∙◌, inl, inr, List, [], ◌∷◌, length, get_or, Bool, true}
use Rattle.std.proofs.Common.{true≢false, Some, if◌then◌else◌, find, unwrap_or, arith, zero-add, add-zero, zero, suc}
use Rattle.std.proofs.lemmas.Bool.{cases_Bool}
use Rattle.std.proofs.Math.Bool.{or-true}
use Rattle.std.proofs.lemmas.List.Folds.{list_any-append}
use Rattle.std.specs.List.{list_any}
use Rattle.sok_rules.specs.declared.cell.Cell.{Cell}
use Rattle.sok_rules.specs.declared.cell.Spot.{Spot}
use Rattle.sok_rules.specs.Squares.{Rows, holds, is_box, is_man, places, places_from, places_in_row, same_spot}
use Rattle.sok_rules.specs.Play.{start}
use Rattle.sok_rules.proofs.Grid.{IsWithin, IsWithin-from_holds}
use Rattle.sok_rules.proofs.Spots.{same_spot-is, same_spot-refl}

-- a place that passes a test is found among the places
list_any-places_in_row : (test : Spot → Bool) (r c k : ℕ) (cells : List Cell) → k < length cells → test (record { row = r; col = c + k }) ≡ true
    → list_any test (places_in_row r c cells) ≡ true
unfolding places_in_row
list_any-places_in_row test r c k [] within e = absurd (omega (arith, within))
list_any-places_in_row test r c zero (cell ∷ cells) within e =
    ap (λ b. b || list_any test (places_in_row r (c + 1) cells)) (ap (λ n. test (record { row = r; col = n })) (sym (add-zero c)) ∙ e)
list_any-places_in_row test r c (suc k) (cell ∷ cells) within e =
    let further : c + suc k ≡ (c + 1) + k = omega arith in
    let rest = list_any-places_in_row test r (c + 1) k cells (omega (arith, within)) (ap (λ n. test (record { row = r; col = n })) (sym further) ∙ e) in
    ap (λ b. test (record { row = r; col = c }) || b) rest ∙ or-true (test (record { row = r; col = c }))

list_any-places_from : (test : Spot → Bool) (r k col : ℕ) (rows : Rows) → k < length rows → col < length (get_or rows k [])
    → test (record { row = r + k; col = col }) ≡ true
    → list_any test (places_from r rows) ≡ true
unfolding places_from
list_any-places_from test r k col [] within_row within_col e = absurd (omega (arith, within_row))
list_any-places_from test r zero col (row ∷ rows) within_row within_col e =
    list_any-append test (places_in_row r 0 row) (places_from (r + 1) rows)
    ∙ ap (λ b. b || list_any test (places_from (r + 1) rows))
    (list_any-places_in_row test r 0 col row within_col (ap (λ n. test (record { row = r; col = n })) (zero-add col)
    ∙ ap (λ n. test (record { row = n; col = col })) (sym (add-zero r)) ∙ e))
list_any-places_from test r (suc k) col (row ∷ rows) within_row within_col e =
    let further : r + suc k ≡ (r + 1) + k = omega arith in
    let rest = list_any-places_from test (r + 1) k col rows (omega (arith, within_row)) within_col
    (ap (λ n. test (record { row = n; col = col })) (sym further) ∙ e) in
    list_any-append test (places_in_row r 0 row) (places_from (r + 1) rows) ∙ ap (λ b. list_any test (places_in_row r 0 row) || b) rest
    ∙ or-true (list_any test (places_in_row r 0 row))

pub list_any-places : (test : Spot → Bool) (rows : Rows) (s : Spot) → IsWithin rows s → test s ≡ true → list_any test (places rows) ≡ true
unfolding places
list_any-places test rows s within e = list_any-places_from test 0 s.row s.col rows within.row within.col
    (ap (λ r. test (record { row = r; col = s.col })) (zero-add s.row) ∙ e)

-- what is found among some passes, if any does
pub find-list_any : {X : Type 0} (test : X → Bool) (xs : List X) → list_any test xs ≡ true → (x : X) × (find test xs ≡ Some x) × (test x ≡ true)
find-list_any test [] e = absurd (true≢false (sym e))
find-list_any test (x ∷ xs) e = elim (cases_Bool (test x)) [
  | inl passes ↦ (x, ap (λ b. if b then Some x else find test xs) passes, passes)
  | inr fails ↦
      let found = find-list_any test xs (ap (λ b. b || list_any test xs) (sym fails) ∙ e) in
      (found.0, ap (λ b. if b then Some x else find test xs) fails ∙ found.1, found.2)
]

-- the player of the start is the one who is seen
pub man-start : (rows : Rows) (man : Spot) → ((s : Spot) → holds is_man rows s ≡ same_spot man s) → (start rows).man ≡ man
unfolding start
man-start rows man man_is =
    let seen : holds is_man rows man ≡ true = man_is man ∙ same_spot-refl man in
    let found = find-list_any (holds is_man rows) (places rows)
    (list_any-places (holds is_man rows) rows man (IsWithin-from_holds is_man rows man seen) seen) in
    ap (λ o. unwrap_or o (record { row = 0; col = 0 })) found.1 ∙ sym (same_spot-is man found.0 (sym (man_is found.0) ∙ found.2))

pub start-scene : (rows : Rows) (man : Spot) → ((s : Spot) → holds is_man rows s ≡ same_spot man s)
    → start rows ≡ record { man = man; boxes = holds is_box rows }
unfolding start
start-scene rows man man_is = let m = man-start rows man man_is in λ i. record { man = m i; boxes = holds is_box rows }

-- The squares of an area in a list, and their numbers in a table.
use Rattle.std.proofs.Common.{ℕ, ◌≡◌, ◌<◌, ◌≤◌, ◌+◌, inl, inr, refl, sym, ap, ◌∙◌, subst, List, [], ◌∷◌, ◌++◌, Bool, true, false, Option, Some}
use Rattle.std.proofs.Common.{None, All, AllPairs, Contains, IsTrue, ◌↔◌, arith, length, get_or, set, take, filter, position, cond, nat_lt, not, ◌==◌}
use Rattle.std.specs.List.{range_with_len, position_or_len}
use Rattle.std.specs.List.Sorted.{IsStrictlyIncreasing}
use Rattle.std.proofs.lemmas.Bool.{cases_Bool}
use Rattle.std.proofs.lemmas.Bool.Decides.{nat_tests}
use Rattle.std.proofs.lemmas.List.{take_more, length-append, length-take-le, get_or-take, get_or_default, map-id, append-nil, get_or_append_left, get_or_push}
use Rattle.std.proofs.lemmas.List.Elements.{All-weaker, filter_passes, filter-append, All-filter}
use Rattle.std.proofs.lemmas.List.Folds.{position_or_len_push}
use Rattle.std.proofs.lemmas.List.FromFn.{map-range_with_len_more, length-range_with_len, get_or-range_with_len}
use Rattle.std.proofs.lemmas.List.Kept.{AllPairs-filter, IsStrictlyIncreasing-filter}
use Rattle.std.proofs.lemmas.List.Sums.{position_or_len_is, prefix_len-le-length}
use Rattle.sok_rules.specs.declared.cell.Cell.{Cell}
use Rattle.sok_rules.specs.declared.cell.Spot.{Spot}
use Rattle.sok_rules.specs.Squares.{Rows, holds, is_open, is_box, is_goal, places, same_spot}
use Rattle.sok_rules.specs.Levels.{IsProper}
use Rattle.sok_board.specs.Area.{BoardView, InArea, IsArea, Before, spot_of, goals_of, boxes_of}
use Rattle.sok_board.specs.Tables.{table_places, HasPlaceIn, place_of, entry}
use Rattle.sok_rules.proofs.Spots.{apart_back, same_spot-is, same_spot-refl}
use Rattle.sok_board.proofs.AreaLaws.{before_apart, spot_of-at, origin}
use Rattle.sok_rules.proofs.Grid.{cell-from_holds}
use Rattle.sok_board.proofs.Inside.{InArea-open}
use Rattle.sok_board.proofs.Lists.{Contains-filter}
use Rattle.sok_rules.proofs.ReadingOrder.{Contains-places}
use Rattle.sok_board.proofs.ReadingOrder.{in_order-places}
use Rattle.sok_board.proofs.Tables.{entry-set_same, entry-set_other}

-- the places of a level that pass a test of the area are the area
pub IsArea-filter : (rows : Rows) (p : Spot → Bool) → IsProper rows → ((s : Spot) → IsTrue (p s) ↔ InArea rows s) → IsArea rows (filter p (places rows))
IsArea-filter rows p proper exact = record {
  inside = All-weaker (λ (s : Spot). p s ≡ true) (InArea rows) (λ s e. (exact s).0 e) (filter p (places rows)) (filter_passes p (places rows));
  whole = λ s inside.
      let (cell, at, _) = cell-from_holds is_open rows s (InArea-open rows proper s inside) in
      Contains-filter p (places rows) s (Contains-places rows s cell at) ((exact s).1 inside);
  in_order = AllPairs-filter Before p (places rows) (in_order-places rows);
}

ends : (at n : ℕ) → at ≤ n → ◌≡◌ {A = Option ℕ} (cond (nat_lt (cond (at == n) (n + 1) at) (n + 1)) (Some (cond (at == n) (n + 1) at)) None)
    (cond (nat_lt at n) (Some at) None)
ends at n short = elim (cases_Bool (at == n)) [
  | inl end ↦
      let past : nat_lt (n + 1) (n + 1) ≡ false = grind (arith, nat_tests) in
      let none : nat_lt at n ≡ false = grind (arith, nat_tests) in
      ap (λ b. cond (nat_lt (cond b (n + 1) at) (n + 1)) (Some (cond b (n + 1) at)) None) end ∙ ap (λ b. cond b (Some (n + 1)) None) past
      ∙ ap (λ b. cond b (Some at) None) (sym none)
  | inr found ↦
      let inside : nat_lt at (n + 1) ≡ true = grind (arith, nat_tests) in
      let before : nat_lt at n ≡ true = grind (arith, nat_tests) in
      ap (λ b. cond (nat_lt (cond b (n + 1) at) (n + 1)) (Some (cond b (n + 1) at)) None) found ∙ ap (λ b. cond b (Some at) None) inside
      ∙ ap (λ b. cond b (Some at) None) (sym before)
]

-- a search through one element more, which fails
pub position_push-fails : {X : Type 0} (p : X → Bool) (xs : List X) (x : X) → p x ≡ false → position p (xs ++ x ∷ []) ≡ position p xs
position_push-fails p xs x fails =
    let n = length xs in
    let at = position_or_len p xs in
    let short : at ≤ n = prefix_len-le-length (λ x. not (p x)) xs in
    let longer : length (xs ++ x ∷ []) ≡ n + 1 = length-append xs (x ∷ []) in
    let then_at : position_or_len p (xs ++ x ∷ []) ≡ cond (at == n) (n + 1) at = position_or_len_push p xs x
    ∙ ap (λ b. cond (at == n) (n + cond b 0 1) at) fails in
    let as_numbers : position p (xs ++ x ∷ []) ≡ cond (nat_lt (cond (at == n) (n + 1) at) (n + 1)) (Some (cond (at == n) (n + 1) at)) None =
    (λ i. cond (nat_lt (then_at i) (longer i)) (Some (then_at i)) None) in
    as_numbers ∙ ends at n short

-- one element more that passes, where none did
pub position_push-first : {X : Type 0} (p : X → Bool) (xs : List X) (x : X) → ((k : ℕ) → k < length xs → p (get_or xs k x) ≡ false) → p x ≡ true
    → position p (xs ++ x ∷ []) ≡ Some (length xs)
position_push-first p xs x fails passes =
    let n = length xs in
    let longer : length (xs ++ x ∷ []) ≡ n + 1 = length-append xs (x ∷ []) in
    let first : position_or_len p (xs ++ x ∷ []) ≡ n = position_or_len_is p (xs ++ x ∷ []) n x (omega (arith, longer))
    (λ k below. ap p (get_or_append_left xs (x ∷ []) x k below) ∙ fails k below)
    (λ _. ap p (get_or_push xs x x n refl) ∙ passes) in
    let found : nat_lt n (n + 1) ≡ true = grind (arith, nat_tests) in
    (λ i. cond (nat_lt (first i) (longer i)) (Some (first i)) None) ∙ ap (λ b. cond b (Some n) None) found

-- one square more has its number in the table
pub numbers_more : (rows : ℕ) (squares : List Spot) (numbers : List (Option ℕ)) (i : ℕ) (x : Spot) → All (HasPlaceIn rows) squares → AllPairs Before squares → i < length squares
    → get_or squares i x ≡ x
    → length numbers ≡ table_places rows → ((s : Spot) → entry None numbers s ≡ position (same_spot s) (take i squares)) → (s : Spot)
    → entry None (set numbers (place_of x) (Some i)) s ≡ position (same_spot s) (take (i + 1) squares)
numbers_more rows squares numbers i x within in_order inside is whole so_far s =
    let done = take i squares in
    let long : length done ≡ i = length-take-le i squares (omega (arith, inside)) in
    let fits : HasPlaceIn rows x = subst (HasPlaceIn rows) is (within i x inside) in
    let more : take (i + 1) squares ≡ done ++ x ∷ [] = take_more squares i x inside ∙ ap (λ y. done ++ y ∷ []) is in
    let row = fits.row in
    let col = fits.col in
    let room : place_of x < length numbers = omega (arith, row, col, whole) in
    elim (cases_Bool (same_spot x s)) [
      | inl same ↦
          let here : x ≡ s = same_spot-is x s same in
          let before : (k : ℕ) → k < length done → same_spot x (get_or done k x) ≡ false = λ k below.
          let earlier : k < i = omega (arith, below, long) in
          ap (same_spot x) (get_or-take i squares k x earlier)
          ∙ before_apart (get_or squares k x) x (subst (Before (get_or squares k x)) is (in_order k i x earlier inside)) in
          ap (entry None (set numbers (place_of x) (Some i))) (sym here) ∙ entry-set_same None (Some i) numbers x col room
          ∙ ap Some (sym long) ∙ sym (position_push-first (same_spot x) done x before (same_spot-refl x))
          ∙ ap (λ t. position (same_spot t) (done ++ x ∷ [])) here
          ∙ ap (position (same_spot s)) (sym more)
      | inr apart ↦
          entry-set_other None (Some i) numbers x s col apart ∙ so_far s ∙ sym (position_push-fails (same_spot s) done x (apart_back x s apart))
          ∙ ap (position (same_spot s)) (sym more)
    ]

-- the numbers that pass a test, with one number more
pub filter-range_more : (p : ℕ → Bool) (n : ℕ) → filter p (range_with_len 0 (n + 1)) ≡ filter p (range_with_len 0 n) ++ cond (p n) (n ∷ []) []
filter-range_more p n =
    let more : range_with_len 0 (n + 1) ≡ range_with_len 0 n ++ n ∷ [] =
    sym (map-id (range_with_len 0 (n + 1))) ∙ map-range_with_len_more (λ (k : ℕ). k) 0 n n (omega arith)
    ∙ ap (λ xs. xs ++ n ∷ []) (map-id (range_with_len 0 n)) in
    ap (filter p) more ∙ filter-append p (range_with_len 0 n) (n ∷ [])

chosen_more : (p : ℕ → Bool) (n : ℕ) → p n ≡ true → filter p (range_with_len 0 n) ++ n ∷ [] ≡ filter p (range_with_len 0 (n + 1))
chosen_more p n passes = ap (λ b. filter p (range_with_len 0 n) ++ cond b (n ∷ []) []) (sym passes) ∙ sym (filter-range_more p n)

chosen_same : (p : ℕ → Bool) (n : ℕ) → p n ≡ false → filter p (range_with_len 0 n) ≡ filter p (range_with_len 0 (n + 1))
chosen_same p n fails = sym (append-nil (filter p (range_with_len 0 n))) ∙ ap (λ b. filter p (range_with_len 0 n) ++ cond b (n ∷ []) []) (sym fails)
    ∙ sym (filter-range_more p n)

-- the square of a number
pub spot_of-get_or : (rows : Rows) (squares : List Spot) (n : ℕ) (d : Spot) → n < length squares
    → spot_of (record { rows = rows; area = squares }) n ≡ get_or squares n d
spot_of-get_or rows squares n d within = spot_of-at (record { rows = rows; area = squares }) n ∙ get_or_default squares n origin d within

-- the numbers that pass a test among the first squares, with one square more
pub where_more : (test : Cell → Bool) (b : BoardView) (n : ℕ) (numbers : List ℕ) → n < length b.area
    → numbers ≡ filter (λ k. holds test b.rows (spot_of b k)) (range_with_len 0 n) → true ≡ holds test b.rows (get_or b.area n origin)
    → numbers ++ n ∷ [] ≡ filter (λ k. holds test b.rows (spot_of b k)) (range_with_len 0 (n + 1))
where_more test b n numbers within so_far passes =
    ap (λ list. list ++ n ∷ []) so_far ∙ chosen_more (λ k. holds test b.rows (spot_of b k)) n
    (ap (holds test b.rows) (spot_of-get_or b.rows b.area n origin within) ∙ sym passes)

pub where_same : (test : Cell → Bool) (b : BoardView) (n : ℕ) (numbers : List ℕ) → n < length b.area
    → numbers ≡ filter (λ k. holds test b.rows (spot_of b k)) (range_with_len 0 n) → false ≡ holds test b.rows (get_or b.area n origin)
    → numbers ≡ filter (λ k. holds test b.rows (spot_of b k)) (range_with_len 0 (n + 1))
where_same test b n numbers within so_far fails = so_far ∙ chosen_same (λ k. holds test b.rows (spot_of b k)) n
    (ap (holds test b.rows) (spot_of-get_or b.rows b.area n origin within) ∙ sym fails)

-- each number below the end is in the range
pub Contains-range : (n k : ℕ) → k < n → Contains (range_with_len 0 n) k
Contains-range n k within =
    let counted : 0 + k ≡ k = omega arith in
    (k, omega (arith, within, length-range_with_len 0 n), get_or-range_with_len 0 n k k within ∙ counted)

-- numbers that are chosen in order rise, and lie below the end
pub rising-chosen : (p : ℕ → Bool) (n : ℕ) → IsStrictlyIncreasing (filter p (range_with_len 0 n))
rising-chosen p n = IsStrictlyIncreasing-filter p (range_with_len 0 n) (λ k within.
    let long = length-range_with_len 0 n in
    let here = get_or-range_with_len 0 n k 0 (omega (arith, within, long)) in
    let next = get_or-range_with_len 0 n (k + 1) 0 (omega (arith, within, long)) in
    omega (arith, here, next))

pub below-chosen : (p : ℕ → Bool) (n : ℕ) → All (λ k. k < n) (filter p (range_with_len 0 n))
below-chosen p n = All-filter p (λ k. k < n) (range_with_len 0 n) (λ k d within.
    let long = length-range_with_len 0 n in
    let here = get_or-range_with_len 0 n k d (omega (arith, within, long)) in
    omega (arith, here, within, long))

-- a square of the area that is a goal is among the goals
pub Contains-goals_of : (b : BoardView) (n : ℕ) → n < length b.area → holds is_goal b.rows (spot_of b n) ≡ true → Contains (goals_of b) n
Contains-goals_of b n within goal = Contains-filter (λ k. holds is_goal b.rows (spot_of b k)) (range_with_len 0 (length b.area)) n
    (Contains-range (length b.area) n within) goal

-- a square of the area on which a box starts is among the boxes
pub Contains-boxes_of : (b : BoardView) (n : ℕ) → n < length b.area → holds is_box b.rows (spot_of b n) ≡ true → Contains (boxes_of b) n
Contains-boxes_of b n within box = Contains-filter (λ k. holds is_box b.rows (spot_of b k)) (range_with_len 0 (length b.area)) n
    (Contains-range (length b.area) n within) box

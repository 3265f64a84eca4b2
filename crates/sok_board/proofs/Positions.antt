-- The position for which the numbers of a board's player and boxes stand.
use Rattle.std.proofs.Common.{ℕ, ◌≡◌, ◌<◌, inl, inr, sym, ap, ◌∙◌, List, Bool, true, false, true≢false, Some, All, Contains, arith, length, get_or, map}
use Rattle.std.proofs.Common.{not, ◌&&◌, ◌||◌}
use Rattle.std.specs.List.{range_with_len}
use Rattle.std.proofs.Math.Bool.{or-true}
use Rattle.std.proofs.lemmas.Bool.{cases_Bool}
use Rattle.std.proofs.lemmas.List.{length-map, get_or-map}
use Rattle.std.proofs.lemmas.List.Elements.{filter_passes}
use Rattle.std.proofs.lemmas.List.Folds.{list_any_at, Any-from_list_any}
use Rattle.sok_rules.specs.declared.cell.Spot.{Spot}
use Rattle.sok_rules.specs.Squares.{holds, is_box, same_spot}
use Rattle.sok_rules.specs.Play.{start}
use Rattle.sok_board.specs.Area.{BoardView, InArea, IsArea, number_of, spot_of, is_among, is_decoration, boxes_of, position_of}
use Rattle.sok_board.proofs.Accepted.{InArea-is_among, decoration-outside}
use Rattle.sok_rules.proofs.Spots.{same_spot-is, same_spot-refl}
use Rattle.sok_board.proofs.AreaLaws.{origin, spot_of-number_of, number-InArea, InArea-spot_of, same_number}
use Rattle.sok_rules.proofs.Runs.{boxes-start}
use Rattle.sok_board.proofs.Numbering.{Contains-boxes_of}

-- a square is among those of some numbers, if one of them is its number
pub among_numbers : (b : BoardView) (numbers : List ℕ) (n : ℕ) → Contains numbers n → is_among (map (spot_of b) numbers) (spot_of b n) ≡ true
among_numbers b numbers n (k, within, is) =
    let there = get_or-map (spot_of b) numbers k n origin within ∙ ap (spot_of b) is in
    list_any_at (same_spot (spot_of b n)) (map (spot_of b) numbers) k origin (omega (arith, within, length-map numbers (spot_of b)))
    (ap (same_spot (spot_of b n)) there ∙ same_spot-refl (spot_of b n))

-- the numbers of boxes are those of squares with boxes
box_among : (b : BoardView) (s : Spot) → is_among (map (spot_of b) (boxes_of b)) s ≡ true → holds is_box b.rows s ≡ true
box_among b s among =
    let (k, x, within, is, same) = Any-from_list_any (same_spot s) (map (spot_of b) (boxes_of b)) among in
    let inside : k < length (boxes_of b) = omega (arith, within, length-map (boxes_of b) (spot_of b)) in
    let there : spot_of b (get_or (boxes_of b) k 0) ≡ s = sym (get_or-map (spot_of b) (boxes_of b) k 0 x inside) ∙ is ∙ sym (same_spot-is s x same) in
    ap (holds is_box b.rows) (sym there) ∙ filter_passes (λ n. holds is_box b.rows (spot_of b n)) (range_with_len 0 (length b.area)) k 0 inside

among_boxes : (b : BoardView) → IsArea b.rows b.area → (s : Spot) → InArea b.rows s → holds is_box b.rows s ≡ true
    → is_among (map (spot_of b) (boxes_of b)) s ≡ true
among_boxes b area s inside box =
    let (n, _, within, there) = number-InArea b area s inside in
    ap (is_among (map (spot_of b) (boxes_of b))) (sym there) ∙ among_numbers b (boxes_of b) n
    (Contains-boxes_of b n within (ap (holds is_box b.rows) there ∙ box))

-- the boxes of the area and the decorations are all boxes
all_boxes : (b : BoardView) → IsArea b.rows b.area → (s : Spot) → (is_among (map (spot_of b) (boxes_of b)) s || is_decoration b s) ≡ holds is_box b.rows s
all_boxes b area s =
    let listed = is_among (map (spot_of b) (boxes_of b)) s in
    elim (cases_Bool (holds is_box b.rows s)) [
      | inl box ↦ elim (cases_Bool (is_among b.area s)) [
        | inl among ↦ ap (λ p. p || is_decoration b s) (among_boxes b area s (InArea-is_among b area s among) box) ∙ sym box
        | inr apart ↦ (λ i. listed || (box i && not (apart i))) ∙ or-true listed ∙ sym box
      ]
      | inr none ↦ elim (cases_Bool listed) [
        | inl among ↦ absurd (true≢false (sym (box_among b s among) ∙ none))
        | inr apart ↦ (λ i. apart i || (none i && not (is_among b.area s))) ∙ sym none
      ]
    ]

-- the start of a board stands for the start of its level
pub position_of-start : (b : BoardView) → IsArea b.rows b.area → (player : ℕ) → Some player ≡ number_of b (start b.rows).man
    → position_of b player (boxes_of b) ≡ start b.rows
position_of-start b area player is =
    let (_, there) = spot_of-number_of b (start b.rows).man player (sym is) in
    λ i. record { man = there i; boxes = λ s. (all_boxes b area s ∙ sym (boxes-start b.rows s)) i }

either : (p q : Bool) → (p || q) ≡ true → q ≡ false → p ≡ true
either true q e fails = e
either false q e fails = absurd (true≢false (sym e ∙ fails))

-- a box on a square of the area is one of those that are known
pub known_box : (b : BoardView) → IsArea b.rows b.area → (player : ℕ) (boxes : List ℕ) → All (λ n. n < length b.area) boxes → (n : ℕ) → n < length b.area
    → (position_of b player boxes).boxes (spot_of b n) ≡ true → Contains boxes n
known_box b area player boxes exist n within there =
    let plain : is_decoration b (spot_of b n) ≡ false = elim (cases_Bool (is_decoration b (spot_of b n))) [
      | inl decoration ↦ absurd ((decoration-outside b area (spot_of b n) decoration).1 (InArea-spot_of b area n within))
      | inr plain ↦ plain
    ] in
    let among : is_among (map (spot_of b) boxes) (spot_of b n) ≡ true =
    either (is_among (map (spot_of b) boxes) (spot_of b n)) (is_decoration b (spot_of b n)) there plain in
    let (k, s, below, at, same) = Any-from_list_any (same_spot (spot_of b n)) (map (spot_of b) boxes) among in
    let within_boxes : k < length boxes = let long = length-map boxes (spot_of b) in omega (arith, below, long) in
    let spot_is : spot_of b n ≡ spot_of b (get_or boxes k n) = same_spot-is (spot_of b n) s same ∙ sym at ∙ get_or-map (spot_of b) boxes k n s within_boxes in
    (k, within_boxes, sym (same_number b area n (get_or boxes k n) within (exist k n within_boxes) spot_is))

-- so no other square of the area has one
pub no_box : (b : BoardView) → IsArea b.rows b.area → (player : ℕ) (boxes : List ℕ) → All (λ n. n < length b.area) boxes → (n : ℕ) → n < length b.area
    → (Contains boxes n → ⊥) → (position_of b player boxes).boxes (spot_of b n) ≡ false
no_box b area player boxes exist n within out = elim (cases_Bool ((position_of b player boxes).boxes (spot_of b n))) [
  | inl there ↦ absurd (out (known_box b area player boxes exist n within there))
  | inr free ↦ free
]

-- and each that is known has one
pub listed_box : (b : BoardView) (player : ℕ) (boxes : List ℕ) (n : ℕ) → Contains boxes n → (position_of b player boxes).boxes (spot_of b n) ≡ true
listed_box b player boxes n among = ap (λ p. p || is_decoration b (spot_of b n)) (among_numbers b boxes n among)

-- What makes a level accepted, and what contradicts it.
use Rattle.std.proofs.Common.{ℕ, ◌≡◌, ◌<◌, ◌↔◌, inl, inr, refl, sym, ap, ◌∙◌, subst, List, true, false, true≢false, Option, Some, None, IsTrue, IsSome, IsNone}
use Rattle.std.proofs.Common.{IfSome, All, arith, length, get_or, not, is_some, ◌||◌}
use Rattle.std.specs.Option.{option_and_then, option_map_or}
use Rattle.std.proofs.lemmas.Bool.{cases_Bool, not-true}
use Rattle.std.proofs.lemmas.List.Elements.{All-weaker, All-contains}
use Rattle.std.proofs.lemmas.List.Folds.{list_any_at, Any-from_list_any}
use Rattle.sok_rules.specs.declared.cell.Cell.{Cell}
use Rattle.sok_rules.specs.declared.cell.Dir.{Dir}
use Rattle.sok_rules.specs.declared.cell.Dir.TheVariants.{Left, Up, Right, Down}
use Rattle.sok_rules.specs.declared.cell.Spot.{Spot}
use Rattle.sok_rules.specs.Squares.{Rows, cell_at, holds, is_box, is_open, is_wall, next, same_spot}
use Rattle.sok_rules.specs.Levels.{IsProper}
use Rattle.sok_board.specs.Area.{BoardView, Before, InArea, IsArea, IsAccepted, number_of, spot_of, is_among, is_decoration, goals_of, boxes_of}
use Rattle.sok_board.specs.Refusals.{IsRefused, lies_beside, has_gap}
use Rattle.sok_board.specs.declared.fault.BoardFault.{BoardFault}
use Rattle.sok_board.specs.declared.fault.BoardFault.TheVariants as fault
use Rattle.sok_board.specs.Tables.{HasPlace, HasPlaceIn}
use Rattle.sok_rules.proofs.Spots.{same_spot-is, same_spot-refl}
use Rattle.sok_board.proofs.AreaLaws.{spot_of-number_of, number-InArea, InArea-spot_of, InArea-next}
use Rattle.sok_board.proofs.Lists.{same_ordered}
use Rattle.sok_board.proofs.Numbering.{spot_of-get_or}
use Rattle.sok_board.proofs.Refusals.{before_asym}
use Rattle.sok_rules.proofs.Grid.{holds-some, is_open-is}
use Rattle.sok_rules.proofs.Steps.{both}
use Rattle.sok_board.proofs.Inside.{HasPlaceIn-InArea, HasPlace-InArea, InArea-open}

pub HasPlaceIn-area : (rows : Rows) (squares : List Spot) → IsProper rows → IsArea rows squares → All (HasPlaceIn (length rows)) squares
HasPlaceIn-area rows squares proper area = All-weaker (InArea rows) (HasPlaceIn (length rows)) (HasPlaceIn-InArea rows proper) squares area.inside

pub HasPlace-area : (rows : Rows) (squares : List Spot) → IsProper rows → IsArea rows squares → All HasPlace squares
HasPlace-area rows squares proper area = All-weaker (InArea rows) HasPlace (HasPlace-InArea rows proper) squares area.inside

InArea-some : (b : BoardView) → IsArea b.rows b.area → (s : Spot) (o : Option ℕ) → number_of b s ≡ o → IsSome o → InArea b.rows s
InArea-some b area s None is some = absurd (true≢false (sym some))
InArea-some b area s (Some n) is some =
    let (within, there) = spot_of-number_of b s n is in
    subst (InArea b.rows) there (InArea-spot_of b area n within)

-- the squares with a number are those of the area
pub IsSome-number_of : (b : BoardView) → IsArea b.rows b.area → (s : Spot) → IsSome (number_of b s) ↔ InArea b.rows s
IsSome-number_of b area s = (
  InArea-some b area s (number_of b s) refl,
  λ inside. let (n, is, _, _) = number-InArea b area s inside in ap is_some is,
)

pub is_among-InArea : (b : BoardView) → IsArea b.rows b.area → (s : Spot) → InArea b.rows s → is_among b.area s ≡ true
is_among-InArea b area s inside =
    let (k, within, is) = area.whole s inside in
    list_any_at (same_spot s) b.area k s within (ap (same_spot s) is ∙ same_spot-refl s)

-- a decoration is a box outside the area
pub decoration-outside : (b : BoardView) → IsArea b.rows b.area → (s : Spot) → IsTrue (is_decoration b s)
    → (holds is_box b.rows s ≡ true) × (InArea b.rows s → ⊥)
decoration-outside b area s e =
    let (box, apart) = both (holds is_box b.rows s) (not (is_among b.area s)) e in
    (box, λ inside. true≢false (sym (is_among-InArea b area s inside) ∙ not-true (is_among b.area s) apart))

-- a square among those of an area is in the area
pub InArea-is_among : (b : BoardView) → IsArea b.rows b.area → (s : Spot) → is_among b.area s ≡ true → InArea b.rows s
InArea-is_among b area s among =
    let (k, x, within, is, same) = Any-from_list_any (same_spot s) b.area among in
    subst (InArea b.rows) (is ∙ sym (same_spot-is s x same)) (area.inside k x within)

-- a level has one area
pub IsArea-unique : (rows : Rows) (xs ys : List Spot) → IsArea rows xs → IsArea rows ys → xs ≡ ys
IsArea-unique rows xs ys one two =
    same_ordered Before before_asym xs ys one.in_order two.in_order (λ s among. two.whole s (All-contains (InArea rows) xs s one.inside among))
    (λ s among. one.whole s (All-contains (InArea rows) ys s two.inside among))

abbrev with_area : Rows → List Spot → BoardView
with_area rows area = record { rows = rows; area = area }

pub has_gap-enclosed : (rows : Rows) (s : Spot) → ((d : Dir) → lies_beside rows s d ≡ true) → has_gap rows s ≡ false
unfolding has_gap
has_gap-enclosed rows s lies = λ i. not (lies Left i) || (not (lies Up i) || (not (lies Right i) || (not (lies Down i) || false)))

-- an accepted level is refused for no cause but memory
pub refused-accepted : (rows : Rows) (cause : BoardFault) → IsRefused rows cause → (area : List Spot) → IsAccepted (with_area rows area) → cause ≡ fault.Memory
refused-accepted rows (fault.NotEnclosed s) ((inside, gap), _) area accepted =
    absurd (true≢false (sym gap ∙ has_gap-enclosed rows s (λ d. accepted.enclosed s d inside)))
refused-accepted rows fault.TooLarge (_, (other, is, many)) area accepted =
    let same = ap length (IsArea-unique rows other area is accepted.numbered) in
    let few = accepted.few_squares in
    absurd (omega (arith, same, few, many))
refused-accepted rows (fault.BoxOutside s) (_, _, (stray, _)) area accepted = absurd (accepted.no_stray s stray)
refused-accepted rows fault.TooManyBoxes (other, is, (_, many)) area accepted =
    let same = ap (λ squares. length (boxes_of (with_area rows squares))) (IsArea-unique rows other area is accepted.numbered) in
    let few = accepted.few_boxes in
    absurd (omega (arith, same, few, many))
refused-accepted rows fault.TooFewGoals (other, is, (_, _, few)) area accepted =
    let boxes = ap (λ squares. length (boxes_of (with_area rows squares))) (IsArea-unique rows other area is accepted.numbered) in
    let goals = ap (λ squares. length (goals_of (with_area rows squares))) (IsArea-unique rows other area is accepted.numbered) in
    let enough = accepted.enough_goals in
    absurd (omega (arith, boxes, goals, few, enough))
refused-accepted rows fault.Memory refused area accepted = refl

wall_here : (b : BoardView) → IsAccepted b → (s t : Spot) (d : Dir) (cell : Cell) → cell_at b.rows t ≡ Some cell → InArea b.rows s → next d s ≡ Some t
    → IsNone (number_of b t) ↔ IsTrue (holds is_wall b.rows t)
wall_here b accepted s t d cell at inside beside = elim (cases_Bool (is_wall cell)) [
  | inl wall ↦
      let closed : holds is_open b.rows t ≡ false = holds-some is_open b.rows t cell at ∙ is_open-is cell ∙ ap not wall in (
        λ _. holds-some is_wall b.rows t cell at ∙ wall,
        λ _. elim (cases_Bool (is_some (number_of b t))) [
          | inr none ↦ none
          | inl some ↦ absurd (true≢false (sym (InArea-open b.rows accepted.proper t ((IsSome-number_of b accepted.numbered t).0 some)) ∙ closed))
        ],
      )
  | inr free ↦
      let opened : holds is_open b.rows t ≡ true = holds-some is_open b.rows t cell at ∙ is_open-is cell ∙ ap not free in
      let some = (IsSome-number_of b accepted.numbered t).1 (InArea-next b.rows d s t inside beside opened) in (
        λ none. absurd (true≢false (sym some ∙ none)),
        λ wall. absurd (true≢false (sym wall ∙ holds-some is_wall b.rows t cell at ∙ free)),
      )
]

wall_at : (b : BoardView) → IsAccepted b → (s t : Spot) (d : Dir) (o : Option Cell) → cell_at b.rows t ≡ o → InArea b.rows s → next d s ≡ Some t → IsSome o
    → IsNone (number_of b t) ↔ IsTrue (holds is_wall b.rows t)
wall_at b accepted s t d None at inside beside some = absurd (true≢false (sym some))
wall_at b accepted s t d (Some cell) at inside beside some = wall_here b accepted s t d cell at inside beside

-- the square beside one of the area has no number exactly where a wall stands
pub wall_beside : (b : BoardView) → IsAccepted b → (s : Spot) (d : Dir) (o : Option Spot) → InArea b.rows s → next d s ≡ o
    → IsNone (option_and_then (number_of b) o) ↔ IsTrue (option_map_or (holds is_wall b.rows) o false)
wall_beside b accepted s d None inside beside =
    absurd (true≢false (sym (subst (λ o. IsTrue (option_map_or (λ t. is_some (cell_at b.rows t)) o false)) beside (accepted.enclosed s d inside))))
wall_beside b accepted s d (Some t) inside beside =
    wall_at b accepted s t d (cell_at b.rows t) refl inside beside
    (subst (λ o. IsTrue (option_map_or (λ t. is_some (cell_at b.rows t)) o false)) beside (accepted.enclosed s d inside))

-- the square that a list of an area's squares has at a number
pub spot_read : (b c : BoardView) (n : ℕ) (x : Spot) → b ≡ c → n < length c.area → x ≡ get_or b.area n x → x ≡ spot_of c n
spot_read b c n x same within is =
    let inside : n < length b.area = let long = ap (λ (a : BoardView). length a.area) same in omega (arith, within, long) in
    is ∙ sym (spot_of-get_or b.rows b.area n x inside) ∙ ap (λ a. spot_of a n) same

pub HasPlace-spot_of : (b : BoardView) → IsAccepted b → (n : ℕ) → n < length b.area → HasPlace (spot_of b n)
HasPlace-spot_of b accepted n within = HasPlace-InArea b.rows accepted.proper (spot_of b n) (InArea-spot_of b accepted.numbered n within)

found_number : (b : BoardView) (s : Spot) (o : Option ℕ) → number_of b s ≡ o → IfSome o (λ n. (n < length b.area) × (spot_of b n ≡ s))
found_number b s None is = tt
found_number b s (Some n) is = spot_of-number_of b s n is

-- the number of a square is a number of the area, and leads back to the square
pub IfSome-number_of : (b : BoardView) (s : Spot) → IfSome (number_of b s) (λ n. (n < length b.area) × (spot_of b n ≡ s))
IfSome-number_of b s = found_number b s (number_of b s) refl

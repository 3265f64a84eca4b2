-- Scenes: what letting another one stand on a square leaves, and the position that a scene shows.
use Rattle.std.proofs.Common.{ℕ, ◌≡◌, ◌<◌, ◌≤◌, ◌+◌, ◌*◌, ◌&&◌, refl, sym, ap, ◌∙◌, inl, inr, List, [], length, get_or, Bool}
use Rattle.std.proofs.Common.{true, false, true≢false, not, Some, None, if◌then◌else◌, All, arith, subst}
use Rattle.std.proofs.lemmas.Bool.{cases_Bool}
use Rattle.std.proofs.lemmas.List.{length-map}
use Rattle.std.proofs.lemmas.Option.{same_Some}
use Rattle.std.specs.Option.{option_map_or}
use Rattle.std.proofs.Math.ListN.{get_or-map}
use Rattle.sok_rules.specs.Limits.{size_limit}
use Rattle.sok_rules.specs.declared.cell.Cell.{Cell}
use Rattle.sok_rules.specs.declared.cell.Cell.TheVariants.{Wall, Floor, Goal, BoxOff, BoxOn, ManOff, ManOn}
use Rattle.sok_rules.specs.declared.cell.Dir.{Dir}
use Rattle.sok_rules.specs.declared.cell.Spot.{Spot}
use Rattle.sok_rules.specs.declared.scene.Occupant.{Occupant}
use Rattle.sok_rules.specs.declared.scene.Occupant.TheVariants.{Nobody, Man, Box}
use Rattle.sok_rules.specs.Squares.{Rows, cell_at, holds, is_astray, is_box, is_goal, is_man, is_open, next, same_spot}
use Rattle.sok_rules.specs.Levels.{count_in}
use Rattle.sok_rules.specs.Play.{AllOnGoals, start, moved}
use Rattle.sok_rules.specs.Scene.{standing, with_cell, with_occupant, SameGround, IsScene, NoneBeside}
use Rattle.sok_rules.proofs.Grid.{IsWithin, IsWithin-from_holds, holds-with_cell, shape-with_cell, count_in-with_cell, count_in-holds, count_in-none}
use Rattle.sok_rules.proofs.Proper.{count_by-few}
use Rattle.sok_rules.proofs.Places.{start-scene}
use Rattle.sok_rules.proofs.Spots.{same_spot-is, same_spot-refl, same_spot-sym}

is_open-standing : (who : Occupant) (goal : Bool) → is_open (standing who goal) ≡ true
is_open-standing Nobody true = refl
is_open-standing Nobody false = refl
is_open-standing Man true = refl
is_open-standing Man false = refl
is_open-standing Box true = refl
is_open-standing Box false = refl

is_goal-standing : (who : Occupant) (goal : Bool) → is_goal (standing who goal) ≡ goal
is_goal-standing Nobody true = refl
is_goal-standing Nobody false = refl
is_goal-standing Man true = refl
is_goal-standing Man false = refl
is_goal-standing Box true = refl
is_goal-standing Box false = refl

-- who is seen there
abbrev pub seen_box : Occupant → Bool
seen_box Box = true
seen_box _ = false

abbrev pub seen_man : Occupant → Bool
seen_man Man = true
seen_man _ = false

is_box-standing : (who : Occupant) (goal : Bool) → is_box (standing who goal) ≡ seen_box who
is_box-standing Nobody true = refl
is_box-standing Nobody false = refl
is_box-standing Man true = refl
is_box-standing Man false = refl
is_box-standing Box true = refl
is_box-standing Box false = refl

is_man-standing : (who : Occupant) (goal : Bool) → is_man (standing who goal) ≡ seen_man who
is_man-standing Nobody true = refl
is_man-standing Nobody false = refl
is_man-standing Man true = refl
is_man-standing Man false = refl
is_man-standing Box true = refl
is_man-standing Box false = refl

is_astray-standing : (who : Occupant) (goal : Bool) → is_astray (standing who goal) ≡ (seen_box who && not goal)
is_astray-standing Nobody true = refl
is_astray-standing Nobody false = refl
is_astray-standing Man true = refl
is_astray-standing Man false = refl
is_astray-standing Box true = refl
is_astray-standing Box false = refl

-- a test after one stands elsewhere
put_tells : (test : Cell → Bool) (answer : Occupant → Bool) → ((who : Occupant) (goal : Bool) → test (standing who goal) ≡ answer who)
    → (rows : Rows) (t s : Spot) (who : Occupant) → holds is_open rows t ≡ true
    → holds test (with_occupant rows t who) s ≡ (if same_spot t s then answer who else holds test rows s)
put_tells test answer tells rows t s who opened =
    holds-with_cell test rows t s _ (IsWithin-from_holds is_open rows t opened) ∙ ap (λ b. if same_spot t s then b else holds test rows s) (tells who _)

pub holds_box-with_occupant : (rows : Rows) (t s : Spot) (who : Occupant) → holds is_open rows t ≡ true
    → holds is_box (with_occupant rows t who) s ≡ (if same_spot t s then seen_box who else holds is_box rows s)
holds_box-with_occupant = put_tells is_box seen_box is_box-standing

pub holds_man-with_occupant : (rows : Rows) (t s : Spot) (who : Occupant) → holds is_open rows t ≡ true
    → holds is_man (with_occupant rows t who) s ≡ (if same_spot t s then seen_man who else holds is_man rows s)
holds_man-with_occupant = put_tells is_man seen_man is_man-standing

-- a test that is the same there as before is the same everywhere
same_everywhere : (test : Cell → Bool) (rows : Rows) (t s : Spot) (cell : Cell) → IsWithin rows t → test cell ≡ holds test rows t
    → holds test (with_cell rows t cell) s ≡ holds test rows s
same_everywhere test rows t s cell within same = holds-with_cell test rows t s cell within ∙ elim (cases_Bool (same_spot t s)) [
  | inl there ↦ ap (λ b. if b then test cell else holds test rows s) there ∙ same ∙ ap (holds test rows) (same_spot-is t s there)
  | inr elsewhere ↦ ap (λ b. if b then test cell else holds test rows s) elsewhere
]

pub SameGround-with_occupant : (rows : Rows) (t : Spot) (who : Occupant) → holds is_open rows t ≡ true → SameGround rows (with_occupant rows t who)
SameGround-with_occupant rows t who opened =
    let within = IsWithin-from_holds is_open rows t opened in
    record {
      shape = shape-with_cell rows t _;
      opened = λ s. same_everywhere is_open rows t s _ within (is_open-standing who _ ∙ sym opened);
      goals = λ s. same_everywhere is_goal rows t s _ within (is_goal-standing who _);
    }

pub SameGround-refl : (rows : Rows) → SameGround rows rows
SameGround-refl rows = record { shape = refl; opened = λ s. refl; goals = λ s. refl }

pub SameGround-trans : (a b c : Rows) → SameGround a b → SameGround b c → SameGround a c
SameGround-trans a b c p q = record { shape = q.shape ∙ p.shape; opened = λ s. q.opened s ∙ p.opened s; goals = λ s. q.goals s ∙ p.goals s }

pub SameGround-sym : (a b : Rows) → SameGround a b → SameGround b a
SameGround-sym a b p = record { shape = sym p.shape; opened = λ s. sym (p.opened s); goals = λ s. sym (p.goals s) }

-- boxes off goals, after one stands elsewhere
pub count_astray-with_occupant : (rows : Rows) (t : Spot) (who : Occupant) → holds is_open rows t ≡ true
    → count_in is_astray (with_occupant rows t who) + (if holds is_astray rows t then 1 else 0)
    ≡ count_in is_astray rows + (if seen_box who && not (holds is_goal rows t) then 1 else 0)
count_astray-with_occupant rows t who opened =
    count_in-with_cell is_astray rows t _ (IsWithin-from_holds is_open rows t opened)
    ∙ ap (λ b. count_in is_astray rows + (if b then 1 else 0)) (is_astray-standing who (holds is_goal rows t))

is_astray-is : (cell : Cell) → is_astray cell ≡ (is_box cell && not (is_goal cell))
is_astray-is Wall = refl
is_astray-is Floor = refl
is_astray-is Goal = refl
is_astray-is BoxOff = refl
is_astray-is BoxOn = refl
is_astray-is ManOff = refl
is_astray-is ManOn = refl

pub holds_astray-is : (rows : Rows) (s : Spot) → holds is_astray rows s ≡ (holds is_box rows s && not (holds is_goal rows s))
unfolding holds
holds_astray-is rows s = elim (cell_at rows s) as (λ o. option_map_or is_astray o false
    ≡ (option_map_or is_box o false && not (option_map_or is_goal o false))) [
      | None ↦ refl
      | Some cell ↦ is_astray-is cell
    ]

-- few rows stay few
pub few_rows-SameGround : (old new : Rows) → SameGround old new → length old ≤ size_limit → length new ≤ size_limit
few_rows-SameGround old new ground few = omega (
  arith,
  few,
  length-map old (λ (row : List Cell). length row),
  length-map new
      (λ (row : List Cell). length row),
  ap length ground.shape,
)

pub few_columns-SameGround : (old new : Rows) → SameGround old new → All (λ row. length row ≤ size_limit) old → All (λ row. length row ≤ size_limit) new
few_columns-SameGround old new ground few = λ k row within.
    let size : List Cell → ℕ = λ r. length r in
    let there : k < length old = omega (arith, within, length-map old size, length-map new size, ap length ground.shape) in
    let same : length (get_or new k row) ≡ length (get_or old k row) =
    sym (get_or-map size new k row) ∙ ap (λ sizes. get_or sizes k (length row)) ground.shape ∙ get_or-map size old k row in
    omega (arith, same, few k row there)

-- the player stands on an open square without a box
man_cell : (cell : Cell) → is_man cell ≡ true → (is_open cell ≡ true) × (is_box cell ≡ false)
man_cell Wall e = absurd (true≢false (sym e))
man_cell Floor e = absurd (true≢false (sym e))
man_cell Goal e = absurd (true≢false (sym e))
man_cell BoxOff e = absurd (true≢false (sym e))
man_cell BoxOn e = absurd (true≢false (sym e))
man_cell ManOff e = (refl, refl)
man_cell ManOn e = (refl, refl)

pub man_stands : (rows : Rows) (s : Spot) → holds is_man rows s ≡ true → (holds is_open rows s ≡ true) × (holds is_box rows s ≡ false)
unfolding holds
man_stands rows s = elim (cell_at rows s) as (λ o. option_map_or is_man o false ≡ true
    → (option_map_or is_open o false ≡ true) × (option_map_or is_box o false ≡ false)) [
      | None ↦ λ e. absurd (true≢false (sym e))
      | Some cell ↦ man_cell cell
    ]

-- an answer that is given again where it was given before
answer_stays : (answers : Spot → Bool) (t s : Spot) (b : Bool) → answers t ≡ b → (if same_spot t s then b else answers s) ≡ answers s
answer_stays answers t s b same = elim (cases_Bool (same_spot t s)) [
  | inl there ↦ ap (λ e. if e then b else answers s) there ∙ sym same ∙ ap answers (same_spot-is t s there)
  | inr elsewhere ↦ ap (λ e. if e then b else answers s) elsewhere
]

chosen : (b : Bool) → (if b then true else false) ≡ b
chosen true = refl
chosen false = refl

none_either : (b : Bool) → (if b then false else false) ≡ false
none_either true = refl
none_either false = refl

flipped : (b : Bool) → ◌≡◌ {A = ℕ} (if not b then 1 else 0) (if b then 0 else 1)
flipped true = refl
flipped false = refl

-- rows after the player has gone
record ManIsGone (rows : Rows) (man : Spot) (astray : ℕ) (gone : Rows) : Type 0 where
  ground : SameGround rows gone
  boxes : (s : Spot) → holds is_box gone s ≡ holds is_box rows s
  no_man : (s : Spot) → holds is_man gone s ≡ false
  astray_stay : count_in is_astray gone ≡ astray

cleared : (b : Bool) → (if b then false else b) ≡ false
cleared true = refl
cleared false = refl

no_astray : (rows : Rows) (s : Spot) → holds is_box rows s ≡ false → holds is_astray rows s ≡ false
no_astray rows s none = holds_astray-is rows s ∙ ap (λ b. b && not (holds is_goal rows s)) none

leaves : (rows : Rows) (man : Spot) (astray : ℕ) → IsScene rows man astray → ManIsGone rows man astray (with_occupant rows man Nobody)
leaves rows man astray scene =
    let here : holds is_man rows man ≡ true = scene.man_is man ∙ same_spot-refl man in
    let stands = man_stands rows man here in
    let counted = count_astray-with_occupant rows man Nobody stands.0 in
    let not_there = ap {B = ℕ} (λ b. if b then 1 else 0) (no_astray rows man stands.1) in
    record {
      ground = SameGround-with_occupant rows man Nobody stands.0;
      boxes = λ s. holds_box-with_occupant rows man s Nobody stands.0 ∙ answer_stays (holds is_box rows) man s false stands.1;
      no_man = λ s. holds_man-with_occupant rows man s Nobody stands.0 ∙ ap (λ b. if same_spot man s then false else b) (scene.man_is s)
          ∙ cleared (same_spot man s);
      astray_stay = omega (arith, counted, not_there, scene.astray_are);
    }

-- rows that show a scene, on the ground of other rows
pub record Redraws (rows new : Rows) (man : Spot) (boxes : Spot → Bool) (astray : ℕ) : Type 0 where
  pub ground : SameGround rows new
  pub boxes_are : (s : Spot) → holds is_box new s ≡ boxes s
  pub man_is : (s : Spot) → holds is_man new s ≡ same_spot man s
  pub counted : count_in is_astray new ≡ astray

pub IsScene-Redraws : (rows new : Rows) (old_man man : Spot) (boxes : Spot → Bool) (n astray : ℕ) → IsScene rows old_man n
    → Redraws rows new man boxes astray → IsScene new man astray
IsScene-Redraws rows new old_man man boxes n astray scene leads = record {
  few_rows = few_rows-SameGround rows new leads.ground scene.few_rows;
  few_columns = few_columns-SameGround rows new leads.ground scene.few_columns;
  man_is = leads.man_is;
  astray_are = sym leads.counted;
}

pub start-Redraws : (rows new : Rows) (man : Spot) (boxes : Spot → Bool) (astray : ℕ) → Redraws rows new man boxes astray
    → start new ≡ record { man = man; boxes = boxes }
start-Redraws rows new man boxes astray leads = start-scene new man leads.man_is ∙ (λ i. record { man = man; boxes = λ s. leads.boxes_are s i })

-- the player walks to an open square without a box
pub walks : (rows : Rows) (man to : Spot) (astray : ℕ) → IsScene rows man astray → holds is_open rows to ≡ true → holds is_box rows to ≡ false
    → Redraws rows (with_occupant (with_occupant rows man Nobody) to Man) to (holds is_box rows) astray
walks rows man to astray scene opened free =
    let gone = leaves rows man astray scene in
    let rest = with_occupant rows man Nobody in
    let still_open : holds is_open rest to ≡ true = gone.ground.opened to ∙ opened in
    let still_free : holds is_box rest to ≡ false = gone.boxes to ∙ free in
    let counted = count_astray-with_occupant rest to Man still_open in
    let not_there = ap {B = ℕ} (λ b. if b then 1 else 0) (no_astray rest to still_free) in
    record {
      ground = SameGround-trans rows rest (with_occupant rest to Man) gone.ground (SameGround-with_occupant rest to Man still_open);
      boxes_are = λ s. holds_box-with_occupant rest to s Man still_open ∙ answer_stays (holds is_box rest) to s false still_free ∙ gone.boxes s;
      man_is = λ s. holds_man-with_occupant rest to s Man still_open ∙ ap (λ b. if same_spot to s then true else b) (gone.no_man s) ∙ chosen (same_spot to s);
      counted = omega (arith, counted, not_there, gone.astray_stay);
    }

-- a box goes from one square to another, which is open and has none, and the player to one where no box is then
pub shifts : (rows : Rows) (man from to next_man : Spot) (astray after : ℕ) → IsScene rows man astray
    → holds is_open rows from ≡ true → holds is_box rows from ≡ true → holds is_open rows to ≡ true → holds is_box rows to ≡ false
    → holds is_open rows next_man ≡ true → moved (holds is_box rows) from to next_man ≡ false
    → after + (if holds is_goal rows from then 0 else 1) ≡ astray + (if holds is_goal rows to then 0 else 1)
    → Redraws rows (with_occupant (with_occupant (with_occupant (with_occupant rows man Nobody) from Nobody) to Box) next_man Man) next_man
    (moved (holds is_box rows) from to) after
unfolding moved
shifts rows man from to next_man astray after scene from_open box_there to_open to_free man_open man_free balance =
    let gone = leaves rows man astray scene in
    let rest = with_occupant rows man Nobody in
    let from_open' : holds is_open rest from ≡ true = gone.ground.opened from ∙ from_open in
    let lifted = with_occupant rest from Nobody in
    let lifted_ground = SameGround-trans rows rest lifted gone.ground (SameGround-with_occupant rest from Nobody from_open') in
    let to_open' : holds is_open lifted to ≡ true = lifted_ground.opened to ∙ to_open in
    let set_down = with_occupant lifted to Box in
    let ground = SameGround-trans rows lifted set_down lifted_ground (SameGround-with_occupant lifted to Box to_open') in
    let man_open' : holds is_open set_down next_man ≡ true = ground.opened next_man ∙ man_open in
    let apart : same_spot from to ≡ false = elim (cases_Bool (same_spot from to)) [
      | inr e ↦ e
      | inl e ↦ absurd (true≢false (sym box_there ∙ ap (holds is_box rows) (same_spot-is from to e) ∙ to_free))
    ] in
    let lifted_boxes = λ (s : Spot). holds_box-with_occupant rest from s Nobody from_open' ∙ ap (λ b. if same_spot from s then false else b) (gone.boxes s) in
    let boxes = λ (s : Spot). holds_box-with_occupant lifted to s Box to_open' ∙ ap (λ b. if same_spot to s then true else b) (lifted_boxes s)
    ∙ (λ i. if same_spot-sym to s i then true else if same_spot-sym from s i then false else holds is_box rows s) in
    let taken = count_astray-with_occupant rest from Nobody from_open' in
    let given = count_astray-with_occupant lifted to Box to_open' in
    let entered = count_astray-with_occupant set_down next_man Man man_open' in
    let box_goes : holds is_astray rest from ≡ not (holds is_goal rows from) =
    holds_astray-is rest from ∙ (λ i. (gone.boxes from ∙ box_there) i && not (gone.ground.goals from i)) in
    let none_at_to = ap {B = ℕ} (λ b. if b then 1 else 0)
    (no_astray lifted to (lifted_boxes to ∙ ap (λ b. if b then false else holds is_box rows to) apart ∙ to_free)) in
    let none_at_man = ap {B = ℕ} (λ b. if b then 1 else 0) (no_astray set_down next_man (boxes next_man ∙ man_free)) in
    let one_goes = ap {B = ℕ} (λ b. if b then 1 else 0) box_goes ∙ flipped (holds is_goal rows from) in
    let one_comes = ap {B = ℕ} (λ b. if not b then 1 else 0) (lifted_ground.goals to) ∙ flipped (holds is_goal rows to) in
    record {
      ground = SameGround-trans rows set_down (with_occupant set_down next_man Man) ground (SameGround-with_occupant set_down next_man Man man_open');
      boxes_are = λ s. holds_box-with_occupant set_down next_man s Man man_open'
          ∙ answer_stays (holds is_box set_down) next_man s false (boxes next_man ∙ man_free) ∙ boxes s;
      man_is = λ s. holds_man-with_occupant set_down next_man s Man man_open' ∙ ap (λ b. if same_spot next_man s then true else b)
          (holds_man-with_occupant lifted to s Box to_open' ∙ ap (λ b. if same_spot to s then false else b)
          (holds_man-with_occupant rest from s Nobody from_open' ∙ ap (λ b. if same_spot from s then false else b) (gone.no_man s)
          ∙ none_either (same_spot from s)) ∙ none_either (same_spot to s))
          ∙ chosen (same_spot next_man s);
      counted = omega (arith, taken, given, entered, one_goes, one_comes, none_at_to, none_at_man, gone.astray_stay, balance);
    }

pub man_open : (rows : Rows) (man : Spot) (astray : ℕ) → IsScene rows man astray → holds is_open rows man ≡ true
man_open rows man astray scene = (man_stands rows man (scene.man_is man ∙ same_spot-refl man)).0

pub man_free : (rows : Rows) (man : Spot) (astray : ℕ) → IsScene rows man astray → holds is_box rows man ≡ false
man_free rows man astray scene = (man_stands rows man (scene.man_is man ∙ same_spot-refl man)).1

-- a solved scene has no box off a goal
pub solved-from_none : (rows : Rows) (man : Spot) (astray : ℕ) → IsScene rows man astray → astray ≡ 0 → AllOnGoals rows (start rows)
unfolding start
solved-from_none rows man astray scene none = λ s boxed. elim (cases_Bool (holds is_goal rows s)) [
  | inl on_goal ↦ on_goal
  | inr off_goal ↦
      let off : holds is_astray rows s ≡ true = holds_astray-is rows s ∙ (λ i. boxed i && not (off_goal i)) in
      absurd (omega (arith, count_in-holds is_astray rows s off, scene.astray_are, none))
]

pub none-from_solved : (rows : Rows) (man : Spot) (astray : ℕ) → IsScene rows man astray → AllOnGoals rows (start rows) → astray ≡ 0
unfolding start
none-from_solved rows man astray scene solved =
    scene.astray_are ∙ count_in-none is_astray rows (λ s. holds_astray-is rows s ∙ elim (cases_Bool (holds is_box rows s)) [
      | inl boxed ↦ λ i. boxed i && not (solved s boxed i)
      | inr none ↦ ap (λ b. b && not (holds is_goal rows s)) none
    ])

-- squares of a scene are near
pub near-scene : (rows : Rows) (man s : Spot) (astray : ℕ) → IsScene rows man astray → holds is_open rows s ≡ true → (s.row < size_limit) × (s.col < size_limit)
near-scene rows man s astray scene opened =
    let within = IsWithin-from_holds is_open rows s opened in
    (omega (arith, within.row, scene.few_rows), omega (arith, within.col, scene.few_columns s.row [] within.row))

pub few_astray : (rows : Rows) (man : Spot) (astray : ℕ) → IsScene rows man astray → astray ≤ size_limit * size_limit
few_astray rows man astray scene = omega (arith, scene.astray_are, count_by-few (λ row. row) is_astray rows scene.few_rows scene.few_columns)

pub NoneBeside-closed : (now : Rows) (s t : Spot) (d : Dir) → next d s ≡ Some t → holds is_open now t ≡ false → NoneBeside now s d
NoneBeside-closed now s t d there closed = λ u e. ap (holds is_open now) (same_Some u t (sym e ∙ there)) ∙ closed

-- a box off a goal is counted
pub some_astray : (rows : Rows) (man from : Spot) (astray : ℕ) → IsScene rows man astray → holds is_box rows from ≡ true → (goal : Bool)
    → goal ≡ holds is_goal rows from
    → (if goal then 0 else 1) ≤ astray
some_astray rows man from astray scene boxed true on_goal = omega arith
some_astray rows man from astray scene boxed false off_goal =
    let off : holds is_astray rows from ≡ true = holds_astray-is rows from ∙ (λ i. boxed i && not (sym off_goal i)) in
    omega (arith, count_in-holds is_astray rows from off, scene.astray_are)

-- the position that a scene shows, by its player
pub start-IsScene : (rows : Rows) (man : Spot) (astray : ℕ) → IsScene rows man astray → start rows ≡ record { man = man; boxes = holds is_box rows }
start-IsScene rows man astray scene = start-scene rows man scene.man_is

-- one more stands elsewhere, on the ground of a scene
pub SameGround-after : (now rows new : Rows) (t : Spot) (who : Occupant) → SameGround now rows → new ≡ with_occupant rows t who → holds is_open now t ≡ true
    → SameGround now new
SameGround-after now rows new t who ground is opened =
    subst (SameGround now) (sym is) (SameGround-trans now rows (with_occupant rows t who) ground
    (SameGround-with_occupant rows t who (ground.opened t ∙ opened)))

-- the player has left, on the ground of a scene
pub SameGround-left : (now inside left : Rows) (man : Spot) (astray : ℕ) → inside ≡ now → IsScene inside man astray
    → left ≡ with_occupant inside man Nobody
    → SameGround now left
SameGround-left now inside left man astray seen scene is =
    SameGround-after now inside left man Nobody (subst (λ rows. SameGround rows inside) seen (SameGround-refl inside)) is
    (man_open now man astray (subst (λ rows. IsScene rows man astray) seen scene))

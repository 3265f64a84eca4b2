-- The scene of play: rows with the player and the boxes where they stand now. Its position is the start of these rows.
use Rattle.std.specs.Prelude.{ℕ, ◌≡◌, ◌≤◌, [], Bool, true, false, Some, All, length, map, slice_index_or, slice_set}
use Rattle.sok_rules.specs.declared.cell.Cell.{Cell}
use Rattle.sok_rules.specs.declared.cell.Cell.TheVariants.{Floor, Goal, BoxOff, BoxOn, ManOff, ManOn}
use Rattle.sok_rules.specs.declared.cell.Dir.{Dir}
use Rattle.sok_rules.specs.declared.cell.Spot.{Spot}
use Rattle.sok_rules.specs.declared.scene.Occupant.{Occupant}
use Rattle.sok_rules.specs.declared.scene.Occupant.TheVariants.{Nobody, Man, Box}
use Rattle.sok_rules.specs.Levels.{count_in}
use Rattle.sok_rules.specs.Limits.{size_limit}
use Rattle.sok_rules.specs.Play.{Position, start, step}
use Rattle.sok_rules.specs.Squares.{Rows, holds, is_astray, is_box, is_goal, is_man, is_open, next, same_spot}

-- the cell that shows an occupant on floor or on a goal
abbrev pub standing : Occupant → Bool → Cell
standing Nobody false = Floor
standing Nobody true = Goal
standing Man false = ManOff
standing Man true = ManOn
standing Box false = BoxOff
standing Box true = BoxOn

-- rows in which the cell on one square is replaced
unfoldable pub with_cell : Rows → Spot → Cell → Rows
with_cell rows s cell = slice_set rows s.row (slice_set (slice_index_or rows s.row []) s.col cell)

-- rows in which the occupant of one square is replaced
abbrev pub with_occupant : Rows → Spot → Occupant → Rows
with_occupant rows s who = with_cell rows s (standing who (holds is_goal rows s))

-- the same squares are open, and the same are goals
pub record SameGround (old new : Rows) : Type 0 where
  pub shape : map (λ row. length row) new ≡ map (λ row. length row) old
  pub opened : (s : Spot) → holds is_open new s ≡ holds is_open old s
  pub goals : (s : Spot) → holds is_goal new s ≡ holds is_goal old s

-- the invariant of a scene: rows within the size limit, with the player at `man` alone, and with `astray` boxes off goals
pub record IsScene (now : Rows) (man : Spot) (astray : ℕ) : Type 0 where
  pub few_rows : length now ≤ size_limit
  pub few_columns : All (λ row. length row ≤ size_limit) now
  pub man_is : (s : Spot) → holds is_man now s ≡ same_spot man s
  pub astray_are : astray ≡ count_in is_astray now

-- the letter is legal in the old scene and leads to the new one; `pushed` says whether it pushes
pub record Steps (old : Rows) (d : Dir) (pushed : Bool) (new : Rows) : Type 0 where
  pub ground : SameGround old new
  pub leads : step old d (start old) ≡ Some (record { position = start new; pushed = pushed })

-- `seen` is the next square in the direction, which is open, and whether a box stands on it
pub record IsBeside (now : Rows) (s : Spot) (d : Dir) (seen : Spot × Bool) : Type 0 where
  pub is_next : next d s ≡ Some seen.0
  pub opened : holds is_open now seen.0 ≡ true
  pub box_there : holds is_box now seen.0 ≡ seen.1

-- the next square in the direction is a wall or lies in no row
abbrev pub NoneBeside : Rows → Spot → Dir → Type 0
NoneBeside now s d = (t : Spot) → next d s ≡ Some t → holds is_open now t ≡ false

-- the letter led from the position to the scene; in the position, the player stood on an open square without a box
pub record CameBy (now : Rows) (d : Dir) (pushed : Bool) (x : Position) : Type 0 where
  pub man_open : holds is_open now x.man ≡ true
  pub man_free : x.boxes x.man ≡ false
  pub led : step now d x ≡ Some (record { position = start now; pushed = pushed })

-- Boxes that hold each other for ever (Sokoban Wiki, "Deadlocks", freeze deadlocks).
use Rattle.std.specs.Prelude.{ℕ, ◌⊎◌, List, Contains, false, IsTrue, IsSomeAnd}
use Rattle.std.specs.Option.{option_map_or}
use Rattle.sok_rules.specs.declared.cell.Dir.{Dir}
use Rattle.sok_rules.specs.declared.cell.Dir.TheVariants.{Left, Up}
use Rattle.sok_rules.specs.Squares.{holds, is_wall, is_goal, next, opposite}
use Rattle.sok_board.specs.Area.{BoardView, beside, spot_of}
use Rattle.sok_distance.specs.Pushing.{IsStuck}
use Rattle.sok_price.specs.Prices.{AreMembers, IsMember}

abbrev pub IsWallBeside : BoardView → ℕ → Dir → Type 0
IsWallBeside b s d = IsTrue (option_map_or (holds is_wall b.rows) (next d (spot_of b s)) false)

abbrev pub IsStuckBeside : BoardView → ℕ → Dir → Type 0
IsStuckBeside b s d = IsSomeAnd (beside b s d) (IsStuck b)

-- the square beside another satisfies `IsOne`
abbrev pub IsOneBeside : BoardView → (ℕ → Type 0) → ℕ → Dir → Type 0
IsOneBeside b IsOne s d = IsSomeAnd (beside b s d) IsOne

-- a box between two squares is held: one of them satisfies `IsOne`, that is, has a box that counts, or both are stuck
abbrev pub IsBetween : BoardView → (ℕ → Type 0) → ℕ → ℕ → Type 0
IsBetween b IsOne ahead behind = IsOne ahead ⊎ (IsOne behind ⊎ (IsStuck b ahead × IsStuck b behind))

-- how a box on a square is held along the axis of a direction: by a wall, by a box beside it that counts, or between stuck squares
pub data Held (b : BoardView) (IsOne : ℕ → Type 0) (s : ℕ) (d : Dir) : Type 0 where
  wall_ahead : IsWallBeside b s d → Held b IsOne s d
  wall_behind : IsWallBeside b s (opposite d) → Held b IsOne s d
  box_ahead : IsOneBeside b IsOne s d → Held b IsOne s d
  box_behind : IsOneBeside b IsOne s (opposite d) → Held b IsOne s d
  between_stuck : IsStuckBeside b s d → IsStuckBeside b s (opposite d) → Held b IsOne s d

-- a box that is held along both axes
pub record IsHeld (b : BoardView) (IsOne : ℕ → Type 0) (s : ℕ) : Type 0 where
  pub across : Held b IsOne s Left
  pub along : Held b IsOne s Up

abbrev pub IsGoalSquare : BoardView → ℕ → Type 0
IsGoalSquare b s = IsTrue (holds is_goal b.rows (spot_of b s))

-- a member stands off a goal
abbrev pub HasOneOffGoal : BoardView → List ℕ → List ℕ → Type 0
HasOneOffGoal b boxes members = (s : ℕ) × IsMember boxes members s × (IsGoalSquare b s → ⊥)

-- each member is held by members, walls or stuck squares
abbrev pub AreHeld : BoardView → List ℕ → List ℕ → Type 0
AreHeld b boxes members = (s : ℕ) → IsMember boxes members s → IsHeld b (IsMember boxes members) s

-- a jam: members of a list of boxes that hold each other, some of them off goals
pub record IsJam (b : BoardView) (boxes members : List ℕ) : Type 0 where
  pub listed : AreMembers boxes members
  pub held : AreHeld b boxes members
  pub off_goal : HasOneOffGoal b boxes members

-- there is a jam with the box on a square
abbrev pub HasJamWith : BoardView → List ℕ → ℕ → Type 0
HasJamWith b boxes s = (members : List ℕ) × IsJam b boxes members × IsMember boxes members s

-- these members include those of each jam
pub record HasJams (b : BoardView) (boxes members : List ℕ) : Type 0 where
  pub listed : AreMembers boxes members
  pub most : (jam : List ℕ) → IsJam b boxes jam → (i : ℕ) → Contains jam i → Contains members i

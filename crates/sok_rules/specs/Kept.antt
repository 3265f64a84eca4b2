-- What a session stores in addition to its letters.
use Rattle.std.specs.Prelude.{ℕ, ◌≡◌, ◌≤◌, List, Bool, Some, IsSome, length, take}
use Rattle.sok_rules.specs.declared.cell.Dir.{Dir}
use Rattle.sok_rules.specs.Squares.{Rows}
use Rattle.sok_rules.specs.Levels.{IsProper}
use Rattle.sok_rules.specs.Limits.{letter_limit}
use Rattle.sok_rules.specs.Play.{pushes, run, start}
use Rattle.sok_rules.specs.Replay.{push_marks}
use Rattle.sok_rules.specs.Scene.{SameGround}

-- the invariant of a session: all letters are legal, `pushed` says which of them push, and the scene shows the position after the letters played
pub record IsSession (rows scene : Rows) (letters : List Dir) (pushed : List Bool) (played pushes_played : ℕ) : Type 0 where
  pub proper : IsProper rows
  pub mark : played ≤ length letters
  pub few : length letters ≤ letter_limit
  pub legal : IsSome (run rows (start rows) letters)
  pub pushed_are : pushed ≡ push_marks rows (start rows) letters
  pub ground : SameGround rows scene
  pub ran : run rows (start rows) (take played letters) ≡ Some (start scene)
  pub counted : pushes_played ≡ pushes rows (start rows) (take played letters)

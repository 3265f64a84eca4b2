-- The result of a replay of a list of letters.
use Rattle.std.specs.Prelude.{ℕ, ◌≡◌, ◌+◌, ◌<◌, ◌↔◌, List, [], ◌∷◌, Bool, length, take, IsSome, IsNone, IsTrue}
use Rattle.std.specs.Option.{option_map_or}
use Rattle.sok_rules.specs.declared.cell.Dir.{Dir}
use Rattle.sok_rules.specs.declared.fault.PlayFault.{PlayFault}
use Rattle.sok_rules.specs.declared.fault.PlayFault.TheVariants.{Blocked, TooLong, Memory}
use Rattle.sok_rules.specs.declared.play.Tally.{Tally}
use Rattle.sok_rules.specs.Squares.{Rows}
use Rattle.sok_rules.specs.Play.{Position, start, step, run, pushes, Solves}

-- the list is legal, and the tally is its result
pub record IsTally (rows : Rows) (w : List Dir) (tally : Tally) : Type 0 where
  pub legal : IsSome (run rows (start rows) w)
  pub solved : IsTrue tally.solved ↔ Solves rows w
  pub pushes : tally.pushes ≡ pushes rows (start rows) w
  pub moves : tally.moves ≡ length w

-- the letters before the place are legal, and the one at the place is not
pub record IsBlockedAt (rows : Rows) (w : List Dir) (at : ℕ) : Type 0 where
  pub within : at < length w
  pub legal : IsSome (run rows (start rows) (take at w))
  pub blocked : IsNone (run rows (start rows) (take (at + 1) w))

-- for each letter of a legal list, whether it pushes
abbrev pub push_marks : Rows → Position → List Dir → List Bool
push_marks rows x [] = []
push_marks rows x (d ∷ w) = option_map_or (λ after. after.pushed ∷ push_marks rows after.position w) (step rows d x) []

-- the list is legal, and the marks say which of its letters push
pub record AreMarks (rows : Rows) (w : List Dir) (marks : List Bool) : Type 0 where
  pub legal : IsSome (run rows (start rows) w)
  pub are : marks ≡ push_marks rows (start rows) w

-- why a list is not replayed
abbrev pub IsReplayFault : Rows → List Dir → PlayFault → Type 0
IsReplayFault rows w (Blocked at) = IsBlockedAt rows w at
IsReplayFault rows w TooLong = ⊥
IsReplayFault rows w Memory = Unit {0}

-- Letters that cannot be played, as a fault of the book.
use Rattle.std.proofs.Common.{◌≡◌, ◌≤◌, ◌⊎◌, inl, inr, refl, List, length}
use Rattle.sok_rules.specs.declared.cell.Dir.{Dir}
use Rattle.sok_rules.specs.declared.fault.PlayFault.{PlayFault}
use Rattle.sok_rules.specs.declared.fault.PlayFault.TheVariants as play
use Rattle.sok_rules.specs.Limits.{letter_limit}
use Rattle.sok_rules.specs.Replay.{IsReplayFault}
use Rattle.sok_rules.specs.Squares.{Rows}
use Rattle.sok_book.specs.declared.fault.BookFault.TheVariants as book
use Rattle.sok_book.specs.Faults.{of_play}
use Rattle.sok_book.specs.Refusals.{IsNoSolution}

pub IsNoSolution-play : (rows : Rows) (letters : List Dir) (fault : PlayFault) → length letters ≤ letter_limit → IsReplayFault rows letters fault
    → (of_play fault ≡ book.Memory) ⊎ IsNoSolution rows letters (of_play fault)
IsNoSolution-play rows letters (play.Blocked at) few is = inr (few, is)
IsNoSolution-play rows letters play.TooLong few is = absurd is
IsNoSolution-play rows letters play.Memory few is = inl refl

-- The answers to a certificate for a level of a collection.
use Rattle.std.specs.Prelude.{ℕ, ◌≡◌, List, Option, Result, Ok}
use Rattle.sok_text.specs.Collections.{blocks_of, level_at}
use Rattle.sok_board.specs.Area.{BoardView}
use Rattle.sok_cert.specs.Claim.{Claim}
use Rattle.sok_cert.specs.CertFault.{CertFault}
use Rattle.sok_engine.specs.Inputs.{OfReader, OnLevel, Within}
use Rattle.sok_engine.specs.Written.{Answers}
use Rattle.sok_judge.specs.Boards.{OnBoard}
use Rattle.sok_cert.specs.Verdicts.{IsVerdict}
use Rattle.sok_judge.specs.Verdicts.{verdict_answer}

-- the answer to a certificate's text on a board
abbrev pub TellsVerdict : BoardView → List ℕ → Answers
TellsVerdict b text answer = (verdict : Result Claim CertFault) × IsVerdict b text verdict × (answer ≡ Ok (verdict_answer verdict))

-- the same, if the text is no longer than the limit
abbrev pub TellsVerdictWithin : ℕ → List ℕ → BoardView → Answers
TellsVerdictWithin limit text b = Within limit (TellsVerdict b) text

-- the same for the n-th level of a collection, if that is accepted
abbrev pub IsCheck : ℕ → ℕ → List ℕ → List ℕ → Answers
IsCheck limit n text bytes = OnLevel (OnBoard (TellsVerdictWithin limit text)) (level_at (blocks_of bytes) n)

-- the same for the text that is left in a reader
abbrev pub IsCheckOf : ℕ → ℕ → Option (List ℕ) → List ℕ → Answers
IsCheckOf limit n cert bytes = OfReader cert (λ text. IsCheck limit n text bytes)

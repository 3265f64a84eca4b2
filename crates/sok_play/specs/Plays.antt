-- The answers to a text of letters and a collection of levels.
use Rattle.std.specs.Prelude.{ℕ, ◌≡◌, List, ◌++◌, Ok, Err, Bool, true, false, codes}
use Rattle.std.specs.Fmt.{decimal}
use Rattle.sok_rules.specs.declared.cell.Dir.{Dir}
use Rattle.sok_rules.specs.declared.fault.PlayFault.TheVariants.{Blocked}
use Rattle.sok_rules.specs.declared.play.Tally.{Tally}
use Rattle.sok_rules.specs.Squares.{Rows}
use Rattle.sok_rules.specs.Replay.{IsTally, IsBlockedAt}
use Rattle.sok_text.specs.Collections.{blocks_of, level_at}
use Rattle.sok_text.specs.Lines.{first_line, after_line}
use Rattle.sok_text.specs.Lurd.{Spells, GoesWrong}
use Rattle.sok_engine.specs.declared.fault.ToolFault.{ToolFault}
use Rattle.sok_engine.specs.declared.fault.ToolFault.TheVariants as tool
use Rattle.sok_engine.specs.Inputs.{OnLevel}
use Rattle.sok_engine.specs.Written.{Answer, Answers}

-- the word for a level that is solved, or not
abbrev pub outcome_word : Bool → List ℕ
outcome_word true = codes "solved"
outcome_word false = codes "open"

-- the exit status for a level that is solved, or not
abbrev pub outcome_status : Bool → ℕ
outcome_status true = 0
outcome_status false = 1

-- the line of a tally: solved or open, the pushes, and the moves
abbrev pub tally_line : Tally → List ℕ
tally_line tally = outcome_word tally.solved ++ codes " " ++ decimal tally.pushes ++ codes " " ++ decimal tally.moves ++ codes "\n"

abbrev pub tally_answer : Tally → Answer
tally_answer tally = record { text = tally_line tally; status = outcome_status tally.solved }

-- the text spells letters, and this is the tally after they were played
abbrev pub IsPlayed : Rows → List ℕ → Tally → Type 0
IsPlayed rows text tally = (letters : List Dir) × Spells text letters × IsTally rows letters tally

-- why a text is not played to its end: it does not spell letters, or one of its letters is not legal
abbrev pub IsPlayFault : Rows → List ℕ → ToolFault → Type 0
IsPlayFault rows text (tool.Lurd fault) = GoesWrong text fault
IsPlayFault rows text (tool.Play (Blocked at)) = (letters : List Dir) × Spells text letters × IsBlockedAt rows letters at
IsPlayFault rows text fault = ⊥

-- the answer to a text that is played on a level
abbrev pub IsPlayedAnswer : List ℕ → Rows → Answers
IsPlayedAnswer text rows (Ok answer) = (tally : Tally) × IsPlayed rows text tally × (answer ≡ tally_answer tally)
IsPlayedAnswer text rows (Err fault) = IsPlayFault rows text fault

-- the answer to a text that is played on the n-th level of a collection, counted from 1
abbrev pub IsReplay : ℕ → List ℕ → List ℕ → Answers
IsReplay n text bytes = OnLevel (IsPlayedAnswer text) (level_at (blocks_of bytes) n)

-- the answer to bytes whose first line is the text, followed by the collection; the first level is played
abbrev pub IsPlay : List ℕ → Answers
IsPlay bytes = IsReplay 1 (first_line bytes) (after_line bytes)

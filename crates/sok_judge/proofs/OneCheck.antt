-- The text of a certificate has one answer at most.
use Rattle.std.proofs.Common.{ℕ, ◌∙◌, List, Ok, sym, ap}
use Rattle.sok_text.specs.Collections.{blocks_of, level_at}
use Rattle.sok_board.specs.Area.{BoardView}
use Rattle.sok_cert.proofs.Verdicts.{IsVerdict-one}
use Rattle.sok_judge.specs.Checks.{TellsVerdict, TellsVerdictWithin, IsCheck}
use Rattle.sok_judge.specs.Verdicts.{verdict_answer}
use Rattle.sok_engine.specs.Written.{HasOne}
use Rattle.sok_engine.proofs.Unique.{OnLevel-one, Within-one}
use Rattle.sok_judge.proofs.OneBoard.{OnBoard-one}

TellsVerdict-one : (b : BoardView) (text : List ℕ) → HasOne (TellsVerdict b text)
TellsVerdict-one b text x y (v, is_v, x_is) (w, is_w, y_is) = x_is ∙ ap (λ verdict. Ok (verdict_answer verdict)) (IsVerdict-one b text v w is_v is_w) ∙ sym y_is

pub IsCheck-one : (limit n : ℕ) (text bytes : List ℕ) → HasOne (IsCheck limit n text bytes)
IsCheck-one limit n text bytes =
    let on_board = OnBoard-one (TellsVerdictWithin limit text) (λ b. Within-one limit (TellsVerdict b) (TellsVerdict-one b) text) in
    OnLevel-one _ on_board (level_at (blocks_of bytes) n)

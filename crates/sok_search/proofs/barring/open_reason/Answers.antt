use Rattle.std.proofs.lemmas.Result.{IfOk-weaker}
use Rattle.sok_search.proofs.Reasons.{assigned-again}
use Rattle.sok_search.proofs.barring.open_reason.Goals as goal

pub returns-clause-bars : goal.returns-clause-bars
returns-clause-bars c =
    IfOk-weaker c.assigned_reason.result _ _
    (λ why assigned. assigned-again c.args.board.now c.requires.finished.0 c.args.boxes.now c.args.depth c.args.claim c.requires.finished.1 why assigned)
    c.assigned_reason.ensures.assigned

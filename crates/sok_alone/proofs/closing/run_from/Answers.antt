use Rattle.std.proofs.Common.{refl}
use Rattle.std.proofs.lemmas.Result.{IfOk-weaker}
use Rattle.sok_state.proofs.States.{key-of-itself}
use Rattle.sok_alone.specs.Meeting.{TellsAlone, TellsRun}
use Rattle.sok_alone.proofs.Finishing.{tells-alone}
use Rattle.sok_alone.proofs.closing.run_from.Goals as goal

pub returns-clause-tells : goal.returns-clause-tells
returns-clause-tells c =
    let b = c.args.setting.now.board.now in
    let accepted = c.requires.workspace.accepted in
    let lives = c.args.lives.now in
    let first = c.args.first.now in
    let known = c.run.new.known in
    let itself = key-of-itself b accepted first c.requires.state in
    IfOk-weaker c.run.result (TellsRun b lives first c.args.limit first known) (TellsAlone b lives first.least first.boxes c.args.limit known.inner.items)
    (tells-alone b accepted lives first.least first.boxes first c.args.limit known itself.placed refl c.list-squares.ensures.few itself)
    c.run.ensures.tells

use Rattle.sok_cert.proofs.LongLines.{wrong-front}
use Rattle.sok_cert.proofs.progress.is_too_long.Goals as goal

pub returns-in-AtHeader : goal.returns-in-AtHeader
returns-in-AtHeader c = λ long text ls es split at.
    wrong-front c.args.stage.now text ls es c.args.line.now c.in-AtHeader.is c.if-line-le-FRONT.false split at

pub returns-in-AtHeader-2 : goal.returns-in-AtHeader-2
returns-in-AtHeader-2 c = λ long text ls es split at.
    wrong-front c.args.stage.now text ls es c.args.line.now c.in-AtHeader.is c.if-line-le-FRONT.false split at

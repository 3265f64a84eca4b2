use Rattle.sok_solve.specs.Solves.{TellsProved}
use Rattle.sok_solve.proofs.Solving.{refused_answer, told_answer}
use Rattle.sok_solve.proofs.solve.answer.Goals as goal

pub returns-in-Ok : goal.returns-in-Ok
returns-in-Ok c = told_answer (TellsProved c.args.task.now c.args.level.now) c.certified.result c.in-Ok.ensures.tells c.certified.ensures

pub returns-in-Err : goal.returns-in-Err
returns-in-Err c = refused_answer (TellsProved c.args.task.now c.args.level.now) c.tool_fault.result c.in-Err.ensures.tells c.tool_fault.ensures

-- Letters that cannot be played are refused as they were replayed.
use Rattle.std.proofs.Common.{rules}
use Rattle.std.proofs.lemmas.Result.{err_from_is_err_and}
use Rattle.sok_book.proofs.NoSolutions.{IsNoSolution-play}
use Rattle.sok_book.proofs.offering.judge_letters.Goals as goal

pub returns-in_err-tally-clause-refused : goal.returns-in_err-tally-clause-refused
returns-in_err-tally-clause-refused c =
    let p = err_from_is_err_and c.from_residual.result c.from_residual.ensures.1 in
    rw (p.1, p.2) (IsNoSolution-play c.args.level.now c.args.letters.now c.in_err-tally.field-0.0 (search rules) c.in_err-tally.ensures)

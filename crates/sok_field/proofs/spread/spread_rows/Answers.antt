use Rattle.std.proofs.Common.{arith}
use Rattle.sok_field.proofs.Lanes.{lane-spread}
use Rattle.sok_field.proofs.spread.spread_rows.Goals as goal

pub returns-clause-long : goal.returns-clause-long
returns-clause-long c =
    (lane-spread c.args.seen.now c.args.free.now c.args.r 0 c.requires.first c.requires.last c.requires.free (omega arith)).long

pub returns-clause-rows : goal.returns-clause-rows
returns-clause-rows c = λ k within. (lane-spread c.args.seen.now c.args.free.now c.args.r k c.requires.first c.requires.last c.requires.free within).is

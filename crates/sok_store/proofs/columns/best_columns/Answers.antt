use Rattle.std.proofs.Common.{arith}
use Rattle.sok_rules.specs.Play.{start}
use Rattle.sok_rules.proofs.Runs.{pushes-le-length}
use Rattle.sok_store.proofs.columns.best_columns.Goals as goal

pub narrow-requires : goal.narrow-requires
narrow-requires c =
    omega (arith, c.in_ok-tally.ensures.pushes, c.in_ok-tally.ensures.few, pushes-le-length c.args.level.now c.args.letters.now (start c.args.level.now))

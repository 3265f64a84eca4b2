use Rattle.std.proofs.Common.{w64}
use Rattle.std.proofs.lemmas.Int.{to_z-of_z}
use Rattle.sok_settle.proofs.Levels.{best_small}
use Rattle.sok_settle.proofs.level.settle_level.Goals as goal

pub search-requires-clause-small : goal.search-requires-clause-small
search-requires-clause-small g c = rw c.best_pushes.ensures (best_small c.args.kept.now.page c.requires.kept)

pub returns-in-Ok : goal.returns-in-Ok
returns-in-Ok g c span = rw (to_z-of_z w64 c.args.id c.ranges.id) at (c.settle_by.ensures span)

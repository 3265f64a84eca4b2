use Rattle.std.proofs.Common.{get_or}
use Rattle.std.proofs.lemmas.Option.{slice_get-get_or}
use Rattle.sok_search.proofs.barring.stuck_place.Goals as goal

pub returns-then-stuck : goal.returns-then-stuck
returns-then-stuck c = (
  get_or c.args.squares.now c.loop-place.place 0,
  slice_get-get_or c.args.squares.now c.loop-place.place 0 c.loop-place-test.true,
  c.stuck.ensures.0 c.if-stuck.true,
)

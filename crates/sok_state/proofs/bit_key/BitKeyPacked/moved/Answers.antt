use Rattle.std.proofs.Common.{refl}
use Rattle.sok_region.proofs.Regions.{squares_of-rising}
use Rattle.sok_state.proofs.Packing.{IsMoved-packed}
use Rattle.sok_state.proofs.bit_key.BitKeyPacked.moved.Goals as goal

pub returns-clause-next : goal.returns-clause-next
returns-clause-next g c = record {
  moved = IsMoved-packed c.args.self.now.boxes c.take.new.words c.put.new.words c.args.from c.args.to c.take.ensures c.put.ensures;
  rising = squares_of-rising c.put.new.words;
  least_is = refl;
}

use Rattle.sok_region.proofs.Regions.{HasSquare-region}
use Rattle.sok_region.proofs.region.Region.of.Goals as goal

pub invariant_of-result : goal.invariant_of-result
invariant_of-result c = HasSquare-region c.args.board.now c.args.boxes.now c.args.player c.write.new.words c.write.ensures.region

use Rattle.sok_region.proofs.Regions.{HasSquare-region}
use Rattle.sok_region.proofs.region.Region.again.Goals as goal

pub invariant_of-self : goal.invariant_of-self
invariant_of-self c = HasSquare-region c.args.board.now c.args.boxes.now c.args.player c.write.new.words c.write.ensures.region

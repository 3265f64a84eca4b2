use Rattle.sok_rules.proofs.Walking.{boxes-run}
use Rattle.sok_region.proofs.law.walks_keep_boxes.Goals as goal

pub returns : goal.returns
returns c = λ rows x y w. boxes-run rows w x y

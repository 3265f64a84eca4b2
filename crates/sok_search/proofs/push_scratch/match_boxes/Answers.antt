use Rattle.std.proofs.Common.{◌<◌, All, subst, sym}
use Rattle.sok_search.proofs.push_scratch.match_boxes.Goals as goal

pub set-requires : goal.set-requires
set-requires c = record { exist = subst (λ n. All (λ square. square < n) c.args.boxes.now) (sym c.requires.push_scratch.serves.squares) c.requires.exist }

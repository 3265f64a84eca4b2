use Rattle.std.proofs.Common.{true, refl, subst}
use Rattle.sok_rules.proofs.Steps.{IsStanding}
use Rattle.sok_rules.proofs.Walking.{IsStanding-Same}
use Rattle.sok_board.specs.Area.{position_of}
use Rattle.sok_region.proofs.Regions.{placed_boxes, IsStanding-placed}
use Rattle.sok_region.proofs.Walks.{not_listed, trail-run}
use Rattle.sok_region.proofs.law.walks_keep_numbers.Goals as goal

pub returns : goal.returns
returns c = λ b proper area boxes player y placed same.
    let are = placed_boxes b boxes player proper area placed in
    let arrives = trail-run b boxes are (λ _. true) same.0 player y placed.player_exists (λ n within _. refl) same.1 same.2 in
    let stands : IsStanding b.rows y = IsStanding-Same b.rows (position_of b player boxes) y (IsStanding-placed b area proper player boxes placed) same in (
      arrives.to,
      record {
        rising = placed.rising;
        boxes_exist = placed.boxes_exist;
        player_exists = arrives.within;
        free = not_listed b boxes arrives.to (subst (IsStanding b.rows) arrives.is stands);
      },
      arrives.is,
    )

-- A push by the rules is a lone push of its box.
use Rattle.std.proofs.Common.{sym, ap, ◌∙◌}
use Rattle.sok_rules.specs.declared.cell.Dir.{Dir}
use Rattle.sok_rules.specs.Play.{Position, After, moved}
use Rattle.sok_rules.proofs.Steps.{IsPush, push_step}
use Rattle.sok_board.specs.Area.{BoardView, IsArea, InArea, position_of}
use Rattle.sok_board.proofs.AreaLaws.{InArea-spot_of}
use Rattle.sok_board.proofs.Positions.{known_box}
use Rattle.sok_distance.specs.Pushes.{MovesAlone, PushesAlone, PushesKnownBoxes}
use Rattle.sok_distance.proofs.PushingLaws.{lone_push-push}

lone_push-step : (b : BoardView) → IsArea b.rows b.area → (d : Dir) (x : Position) (a : After) → InArea b.rows x.man → IsPush b.rows d x a
    → MovesAlone b d x a.position
lone_push-step b area d x a inside push =
    let lone = lone_push-push b area d x.man push.from push.to inside push.ahead push.from_open push.beyond push.to_open in
    record {
      from = lone.from;
      to = lone.to;
      alone = lone.goes;
      box_there = ap x.boxes lone.from_spot ∙ push.box_there;
      free = ap x.boxes lone.to_spot ∙ push.to_free;
      man = ap (λ (y : After). y.position.man) push.leads ∙ sym lone.from_spot;
      boxes = ap (λ (y : After). y.position.boxes) push.leads ∙ (λ i. moved x.boxes (sym lone.from_spot i) (sym lone.to_spot i));
      from_exists = lone.from_within;
      to_exists = lone.to_within;
    }

pub pushes-alone : (b : BoardView) → IsArea b.rows b.area → PushesAlone b
pushes-alone b area x d after inside leads pushed = lone_push-step b area d x after inside (push_step b.rows d x after leads pushed)

pub pushes-known : (b : BoardView) → IsArea b.rows b.area → PushesKnownBoxes b
pushes-known b area player boxes d after within exist leads pushed =
    let push = pushes-alone b area (position_of b player boxes) d after (InArea-spot_of b area player within) leads pushed in
    (push, known_box b area player boxes exist push.from push.from_exists push.box_there)

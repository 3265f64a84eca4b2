use Rattle.std.proofs.Common.{◌∙◌, sym, ap, subst, length}
use Rattle.sok_rules.proofs.Man.{IsStanding-start}
use Rattle.sok_rules.proofs.Steps.{IsStanding}
use Rattle.sok_board.specs.Area.{position_of}
use Rattle.sok_region.specs.Regions.{IsPlaced}
use Rattle.sok_region.proofs.Walks.{not_listed}
use Rattle.sok_state.specs.Keys.{IsKeyOf}
use Rattle.sok_state.proofs.key.Key.start.Goals as goal

pub key_of-requires : goal.key_of-requires
key_of-requires c =
    let b = c.args.board.now in
    let told = c.start-player.ensures in
    let player = c.start-player.result.0 in
    subst (λ boxes. IsPlaced b boxes player) (sym c.in_ok-boxes.ensures.list) (record {
      rising = told.rising;
      boxes_exist = told.boxes_exist;
      player_exists = told.player_exists;
      free = not_listed b c.start-player.result.1.now player
          (subst (IsStanding b.rows) (sym told.position) (IsStanding-start b.rows c.start-player.ensures.accepted.proper));
    })

pub returns-clause-key : goal.returns-clause-key
returns-clause-key c =
    let b = c.args.board.now in
    subst (λ x. IsKeyOf b x c.key_of.result) (ap (position_of b c.start-player.result.0) c.in_ok-boxes.ensures.list ∙ c.start-player.ensures.position)
    c.key_of.ensures.key

pub returns-clause-as_many : goal.returns-clause-as_many
returns-clause-as_many c = ap length c.key_of.ensures.boxes ∙ ap length c.in_ok-boxes.ensures.list ∙ ap length c.start-player.ensures.boxes

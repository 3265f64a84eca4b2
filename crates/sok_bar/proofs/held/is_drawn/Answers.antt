use Rattle.std.proofs.Common.{sym, ap, ◌∙◌}
use Rattle.sok_field.specs.Fields.{has}
use Rattle.sok_field.proofs.Drawings.{in_field}
use Rattle.sok_bar.proofs.held.is_drawn.Goals as goal

pub has-requires : goal.has-requires
has-requires c = (in_field c.args.board.now c.requires.accepted c.args.square c.requires.exists _ c.spot.ensures.spot).1

pub returns : goal.returns
returns c =
    let is = c.has.ensures ∙ ap (has c.args.squares.now) c.spot.ensures.spot in
    ((λ e. (c.requires.exists, sym is ∙ e)), λ (_, there). is ∙ there)

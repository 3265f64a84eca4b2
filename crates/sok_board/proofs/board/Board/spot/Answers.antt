use Rattle.std.proofs.Common.{ap, ◌∙◌, subst}
use Rattle.sok_board.specs.Area.{number_of}
use Rattle.sok_board.specs.Boards.{IsNumbering}
use Rattle.sok_board.proofs.Accepted.{spot_read}
use Rattle.sok_board.proofs.AreaLaws.{number_of-spot_of}
use Rattle.sok_board.proofs.board.Board.spot.Goals as goal

pub returns-clause-inverse : goal.returns-clause-inverse
returns-clause-inverse c =
    let b = c.args.self.now in
    let kept = subst (λ a. IsNumbering a c.self.inside.numbering) c.self.view_is c.self.invariant in
    let is = spot_read (record {
      rows = c.self.inside.level;
      area =
          c.self.inside.squares.items;
    }) b c.args.square c.index.result.now c.self.view_is c.requires c.index.ensures in
    ap (number_of b) is ∙ number_of-spot_of b kept.accepted.numbered c.args.square c.requires

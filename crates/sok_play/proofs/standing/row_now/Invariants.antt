use Rattle.std.proofs.Common.{◌≡◌, [], Some, get_or, take}
use Rattle.sok_rules.specs.Play.{Position}
use Rattle.sok_rules.specs.Session.{position_of}
use Rattle.sok_play.specs.Drawings.{shown_row}
use Rattle.sok_play.proofs.standing.row_now.Given as goal

abbrev pub invariant-loop-col : goal.invariant-loop-col
invariant-loop-col l =
    (x : Position) → position_of l.session ≡ Some x → l.cells.items ≡ shown_row x l.row 0 (take l.col (get_or l.session.rows l.row []))

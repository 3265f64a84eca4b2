use Rattle.std.proofs.Common.{◌≡◌, Some, take}
use Rattle.sok_rules.specs.Levels.{cells_of}
use Rattle.sok_rules.specs.Play.{Position}
use Rattle.sok_rules.specs.Session.{position_of}
use Rattle.sok_play.specs.Drawings.{shown_from}
use Rattle.sok_play.proofs.standing.level_now.Given as goal

abbrev pub invariant-loop-row : goal.invariant-loop-row
invariant-loop-row l = (x : Position) → position_of l.session ≡ Some x → cells_of l.rows.items ≡ shown_from x 0 (take l.row l.level)

use Rattle.std.proofs.Common.{length}
use Rattle.sok_rules.specs.Play.{start}
use Rattle.sok_rules.proofs.Man.{IsStanding-start}
use Rattle.sok_board.specs.Area.{boxes_of}
use Rattle.sok_closed.proofs.Missed.{rolled-starts}
use Rattle.sok_cert.specs.Closed.{node_of}
use Rattle.sok_cert.proofs.close.has_start.Goals as goal

pub returns : goal.returns
returns c = λ entries looking.
    let b = c.args.board.now in
    let here = c.starts.ensures in
    let there = rolled-starts node_of b (length (boxes_of b)) entries c.args.roll.now looking (start b.rows) (IsStanding-start b.rows looking.accepted.proper)
    c.in_ok-start.start c.in_ok-start.ensures.key in
    (λ yes. there.0 (here.0 yes), λ starter. here.1 (there.1 starter))

use Rattle.std.proofs.Common.{List, Bool, ◌≡◌, ◌+◌, sym, subst, arith, length}
use Rattle.sok_distance.specs.Distances.{TellsStuck}
use Rattle.sok_distance.proofs.Filled.{TellsStuck-none, TellsStuck-more}
use Rattle.sok_distance.proofs.distances.list_stuck.Goals as goal

pub loop-square-init : goal.loop-square-init
loop-square-init c = subst (TellsStuck c.args.board.now 0) (sym c.in_ok-list.ensures.items) (TellsStuck-none c.args.board.now)

pub is_stuck-requires-clause-filled : goal.is_stuck-requires-clause-filled
is_stuck-requires-clause-filled c = c.requires

pub loop-square-preserved : goal.loop-square-preserved
loop-square-preserved c =
    let n = c.loop-square.square in
    subst (TellsStuck c.args.board.now (n + 1)) (sym {A = List Bool} c.in_ok-push.ensures.items)
    (TellsStuck-more c.args.board.now n c.loop-square.list.items c.is_stuck.result c.loop-square.invariant c.is_stuck.ensures)

pub returns : goal.returns
returns c =
    let all : c.loop-square.square ≡ length c.args.board.now.area = omega arith in
    subst (λ n. TellsStuck c.args.board.now n c.loop-square.list.items) all c.loop-square.invariant

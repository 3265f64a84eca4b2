use Rattle.std.proofs.Common.{[], arith, rules, refl, subst, sym}
use Rattle.sok_rules.proofs.Reaching.{reached-solves}
use Rattle.sok_state.specs.Keys.{key_position}
use Rattle.sok_alone.specs.Known.{IsReached}
use Rattle.sok_alone.proofs.Knowing.{reached-next}
use Rattle.sok_alone.proofs.probing.are_soon_solved.Goals as goal

pub loop-init : goal.loop-init
loop-init c =
    let b = c.args.setting.now.board.now in
    let start = c.args.start.now in
    let itself : IsReached b start start = record { state = c.requires.state; as_many = refl; reached = ([], refl) } in
    record {
      reached = subst (IsReached b start) (sym c.in_ok-key.ensures) itself;
      opened = c.in_ok-open.ensures.opened;
      legal = c.in_ok-open.ensures.legal;
      workspace = search rules;
    }

pub follow-requires-clause-pushable : goal.follow-requires-clause-pushable
follow-requires-clause-pushable c =
    let reached = c.loop.invariant.reached in
    let same = reached.as_many in
    let few = c.list-boxes.ensures.few in
    record {
      state = reached.state;
      few = omega (arith, same, few);
      legal = search rules;
      opened = c.loop.invariant.opened;
    }

pub loop-preserved : goal.loop-preserved
loop-preserved c =
    let b = c.args.setting.now.board.now in
    let after = c.in_ok-key-2.ensures.after in
    record {
      reached = reached-next b c.args.start.now c.loop.key c.in_ok-key-2.key c.in-Some.push c.loop.invariant.reached c.in-Some.ensures after.exact after.of_board
          after.as_many;
      opened = c.in_ok-key-2.ensures.opened;
      legal = c.in_ok-key-2.ensures.legal;
      workspace = search rules;
    }

pub returns-then-is_solved-clause-solved : goal.returns-then-is_solved-clause-solved
returns-then-is_solved-clause-solved c = λ _.
    let b = c.args.setting.now.board.now in
    reached-solves b.rows (key_position b c.args.start.now) (key_position b c.loop.key) c.loop.invariant.reached.reached []
    ((c.is_solved.ensures c.loop.key.least).0 c.if-is_solved.true)

use Rattle.std.proofs.Common.{subst, arith, get_or}
use Rattle.std.proofs.lemmas.Option.{slice_get-get_or}
use Rattle.sok_closed.specs.Lookup.{IsFound}
use Rattle.sok_closed.proofs.Entered.{before_more}
use Rattle.sok_closed.proofs.Looking.{no_push}
use Rattle.sok_alone.specs.Meeting.{IsMet, TellsMet}
use Rattle.sok_alone.proofs.Following.{found-listed, found-met}
use Rattle.sok_alone.proofs.Growing.{Grows-refl, Grows-trans, found-grows}
use Rattle.sok_alone.proofs.Knowing.{reached-next}
use Rattle.sok_alone.proofs.expanding.follow_all.Goals as goal

pub loop-push-init : goal.loop-push-init
loop-push-init g c = record {
  known = c.requires.1.0;
  grows = Grows-refl c.args.known.now;
  opened = c.requires.1.1.1.1;
  found = λ i push below there. absurd (omega (arith, below));
}

pub after-requires-clause-pushable : goal.after-requires-clause-pushable
after-requires-clause-pushable g c =
    let reached = c.requires.1.1.0 in
    let same = reached.as_many in
    let few = c.requires.0.few_boxes in
    record {
      state = reached.state;
      few = omega (arith, same, few);
      legal = c.requires.1.1.1.0 c.loop-push.push-index no_push c.loop-push-test.true;
      opened = c.loop-push.invariant.opened;
    }

pub meet-requires : goal.meet-requires
meet-requires g c =
    let b = c.args.setting.now.board.now in
    let key = c.args.key.now in
    let after = c.in_ok-next.ensures.after in
    let i = c.loop-push.push-index in (
      c.requires.0,
      (
        c.loop-push.invariant.known,
        reached-next b g.start key c.in_ok-next.next (get_or c.args.pushes.now i no_push) c.requires.1.1.0
            (c.requires.1.1.1.0 i no_push c.loop-push-test.true) after.exact after.of_board after.as_many,
      ),
    )

pub loop-push-preserved : goal.loop-push-preserved
loop-push-preserved g c =
    let b = c.args.setting.now.board.now in
    let key = c.args.key.now in
    let pushes = c.args.pushes.now in
    let i = c.loop-push.push-index in
    let push = get_or pushes i no_push in
    let before = c.loop-push.known in
    let new = c.meet.new.known in
    let met : IsMet b g.start c.args.limit before c.in_ok-next.next new =
    subst (TellsMet b c.args.lives.now g.start c.args.limit before c.in_ok-next.next new) c.in-On.is c.in_ok-meet.ensures in
    record {
      known = met.known;
      grows = Grows-trans c.args.known.now before new c.loop-push.invariant.grows met.grows;
      opened = c.after.ensures.opened;
      found = before_more (λ _ other. IsFound b new.table.entries key 0 other) pushes i push (slice_get-get_or pushes i no_push c.loop-push-test.true)
          (λ j other below there. found-grows before new met.grows b key 0 other (c.loop-push.invariant.found j other below there))
          (found-met b g.start c.args.limit before new key c.in_ok-next.next push c.in_ok-next.ensures.after.exact met);
    }

pub returns-clause-tells : goal.returns-clause-tells
returns-clause-tells g c = record {
  known = c.loop-push.invariant.known;
  grows = c.loop-push.invariant.grows;
  found = found-listed c.args.pushes.now (IsFound c.args.setting.now.board.now c.loop-push.known.table.entries c.args.key.now 0) c.loop-push.push-index
      c.loop-push-test.false c.loop-push.invariant.found;
}

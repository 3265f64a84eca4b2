use Rattle.std.proofs.Common.{subst, arith, get_or}
use Rattle.std.proofs.lemmas.Option.{slice_get_within, slice_get-get_or}
use Rattle.sok_closed.specs.Lookup.{IsFound, TellsFound}
use Rattle.sok_closed.proofs.Entered.{before_more}
use Rattle.sok_closed.proofs.Looking.{no_push}
use Rattle.sok_closed.proofs.following.first_missing.Goals as goal

pub loop-place-init : goal.loop-place-init
loop-place-init c = record { opened = c.requires.opened; found = λ i push below _. absurd (omega (arith, below)) }

pub is_found-requires-clause-pushable : goal.is_found-requires-clause-pushable
is_found-requires-clause-pushable c = record {
  state = c.requires.key;
  few = c.requires.few;
  legal = c.requires.legal c.loop-place.place no_push c.loop-place-test.true;
  opened = c.loop-place.invariant.opened;
}

pub returns-then-not-is_found-clause-first : goal.returns-then-not-is_found-clause-first
returns-then-not-is_found-clause-first c =
    let place = c.loop-place.place in
    let push = get_or c.args.pushes.now place no_push in (
      (
        push,
        slice_get-get_or c.args.pushes.now place no_push c.loop-place-test.true,
        subst (TellsFound c.args.board.now c.args.table.now.entries c.args.key.now c.args.depth push) c.if-not-is_found.true c.is_found.ensures.found,
      ),
      c.loop-place.invariant.found,
    )

pub loop-place-preserved : goal.loop-place-preserved
loop-place-preserved c =
    let place = c.loop-place.place in
    let push = get_or c.args.pushes.now place no_push in
    let b = c.args.board.now in
    let table = c.args.table.now.entries in
    let key = c.args.key.now in
    record {
      opened = c.is_found.ensures.opened;
      found = before_more (λ _ one. IsFound b table key c.args.depth one) c.args.pushes.now place push
          (slice_get-get_or c.args.pushes.now place no_push c.loop-place-test.true) c.loop-place.invariant.found
          (subst (TellsFound b table key c.args.depth push) c.if-not-is_found.false c.is_found.ensures.found);
    }

pub returns-clause-first : goal.returns-clause-first
returns-clause-first c = λ i push there.
    let past = c.loop-place-test.false in
    let within = slice_get_within c.args.pushes.now i push there in
    c.loop-place.invariant.found i push (omega (arith, within, past)) there

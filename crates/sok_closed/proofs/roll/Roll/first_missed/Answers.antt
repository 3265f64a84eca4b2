use Rattle.std.proofs.Common.{◌≡◌, ◌∙◌, Bool, List, Some, ap, arith, false, length, refl, slice_get, subst, true}
use Rattle.std.proofs.lemmas.Option.{slice_get-get_or}
use Rattle.sok_closed.specs.Lookup.{TellsOpen}
use Rattle.sok_closed.proofs.Missed.{followed-more, followed-unmarked}
use Rattle.sok_closed.proofs.roll.Roll.first_missed.Goals as goal

pub loop-index-preserved-then-not-expanded : goal.loop-index-preserved-then-not-expanded
loop-index-preserved-then-not-expanded c =
    let marks = c.deref-expanded-items.result.now in
    let i = c.loop-index.index in
    let mark : slice_get marks i ≡ Some false = slice_get-get_or marks i false c.loop-index-test.true ∙ ap Some c.if-not-expanded.true in
    record {
      followed = followed-unmarked c.args.board.now c.args.self.now i
          (rw (← c.self.view_is) (subst (λ (all : List Bool). slice_get all i ≡ Some false) c.deref-expanded-items.ensures.value mark))
          c.loop-index.invariant.followed;
      laid = c.loop-index.invariant.laid;
    }

pub open_push-requires-clause-key : goal.open_push-requires-clause-key
open_push-requires-clause-key c = (c.requires.keys c.loop-index.index c.in_ok-key.key (rw (← c.self.view_is) c.in_ok-key.ensures)).0

pub open_push-requires-clause-few : goal.open_push-requires-clause-few
open_push-requires-clause-few c = (c.requires.keys c.loop-index.index c.in_ok-key.key (rw (← c.self.view_is) c.in_ok-key.ensures)).1

pub returns-in-Some : goal.returns-in-Some
returns-in-Some c =
    let b = c.args.board.now in
    let marks = c.deref-expanded-items.result.now in
    let i = c.loop-index.index in
    let mark : slice_get marks i ≡ Some true = slice_get-get_or marks i false c.loop-index-test.true ∙ ap Some c.if-not-expanded.false in
    record {
      key = c.in_ok-key.key;
      depth = c.depth-depth.result;
      marked = record {
        expanded = rw (← c.self.view_is) (subst (λ (all : List Bool). slice_get all i ≡ Some true) c.deref-expanded-items.ensures.value mark);
        there = rw (← c.self.view_is) c.in_ok-key.ensures;
        depth_is = rw (← c.self.view_is) c.depth-depth.ensures;
      };
      missed = rw (← c.self.view_is)
          (subst (TellsOpen b c.self.inside.table.entries c.in_ok-key.key c.depth-depth.result) c.in-Some.is c.in_ok-push.ensures.first);
      before = c.loop-index.invariant.followed;
    }

pub loop-index-preserved : goal.loop-index-preserved
loop-index-preserved c =
    let b = c.args.board.now in record {
      followed = followed-more b c.args.self.now c.loop-index.index c.in_ok-key.key c.depth-depth.result (rw (← c.self.view_is) c.in_ok-key.ensures)
          (rw (← c.self.view_is) c.depth-depth.ensures)
          (rw (← c.self.view_is) (subst (TellsOpen b c.self.inside.table.entries c.in_ok-key.key c.depth-depth.result) c.in_default.is c.in_ok-push.ensures.first))
          c.loop-index.invariant.followed;
      laid = c.in_ok-push.ensures.laid;
    }

pub returns : goal.returns
returns c = λ i key depth below marked.
    let past = c.loop-index-test.false in
    let long = ap length c.deref-expanded-items.ensures.value in
    let same : length c.args.self.now.marks ≡ length c.self.inside.marks.items = rw (← c.self.view_is) refl in
    c.loop-index.invariant.followed i key depth (omega (arith, below, past, long, same)) marked

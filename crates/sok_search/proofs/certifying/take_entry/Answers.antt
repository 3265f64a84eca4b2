use Rattle.std.proofs.Common.{◌∙◌, refl, subst, Bool}
use Rattle.sok_cert.specs.Text.{entry_from}
use Rattle.sok_alone.specs.Losses.{losses_of}
use Rattle.sok_search.specs.Finished.{IsDone}
use Rattle.sok_search.specs.Views.{progress_of}
use Rattle.sok_search.proofs.Certified.{entry-at, entry-fits}
use Rattle.sok_search.proofs.certifying.take_entry.Goals as goal

pub state_at-requires-clause-search : goal.state_at-requires-clause-search
state_at-requires-clause-search g c = (c.args.setting.now.board.now, (c.requires.search.0, c.requires.search.1))

pub reason_of-requires-clause-exist : goal.reason_of-requires-clause-exist
reason_of-requires-clause-exist g c =
    (c.requires.search.1.noted c.args.index c.in_ok-key.key c.in_ok-key.depth c.in_ok-key.note c.in_ok-key.ensures).state.is.placed.boxes_exist

pub reason_of-requires-clause-finished : goal.reason_of-requires-clause-finished
reason_of-requires-clause-finished g c =
    let key = c.in_ok-key.key in
    subst (λ (whole : Bool). IsDone c.args.setting.now.board.now whole c.args.claim (losses_of c.args.search.now.losses) key.least key.boxes c.in_ok-key.depth
    c.in_ok-key.note.standing) c.requires.whole (c.requires.done c.args.index key c.in_ok-key.depth c.in_ok-key.note c.in_ok-key.ensures)

pub returns-clause-takes : goal.returns-clause-takes
returns-clause-takes g c =
    let b = c.args.setting.now.board.now in
    let p = progress_of c.args.search.now in
    let key = c.in_ok-key.key in
    let depth = c.in_ok-key.depth in
    let note = c.in_ok-key.note in
    let state = c.in_ok-key.ensures in
    let boxes = c.deref.ensures.value ∙ c.in_ok-widen.ensures ∙ c.list.ensures.list in
    let entry = entry_from depth c.from.result c.deref.result.now c.in_ok-reason.reason in
    record {
      entry = entry;
      is = entry-at b c.args.claim p c.args.index key depth note entry state
          (record { depth_is = refl; player_is = c.from.ensures; boxes_are = boxes; reason_is = c.in_ok-reason.ensures.reason });
      fits = entry-fits b c.requires.accepted c.requires.search.0 p c.args.index key depth note entry c.requires.search.1 c.requires.search.2 state refl
          c.from.ensures boxes c.in_ok-reason.ensures.fits;
      takes = c.in_ok-take.ensures;
    }

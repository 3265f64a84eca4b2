use Rattle.std.proofs.Common.{◌≡◌, [], None, ap, refl, subst}
use Rattle.std.proofs.lemmas.Result.{on_ok_weaker}
use Rattle.sok_state.specs.Tables.{GoesLast}
use Rattle.sok_search.specs.declared.note.Note.{Note}
use Rattle.sok_search.specs.Searches.{Frame, Progress}
use Rattle.sok_search.specs.Steps.{IsListed}
use Rattle.sok_search.specs.Views.{progress_of}
use Rattle.sok_search.proofs.Adding.{added-made, first-last}
use Rattle.sok_alone.specs.Losses.{losses_of}
use Rattle.sok_search.proofs.Bounding.{bounded-priced}
use Rattle.sok_search.proofs.Opening.{begun, nothing}
use Rattle.sok_search.proofs.beginning.enter_start.Goals as goal

pub returns-clause-search : goal.returns-clause-search
returns-clause-search c = λ limit positive.
    let b = c.args.setting.now.board.now in
    let old = c.args.search.now in
    let empty = c.requires.empty in
    let key = c.in_ok-key.key in
    let note : Note = record { origin = None; standing = c.in_ok-standing.standing } in
    let frame : Frame = record { room = old.table.room; aim = old.aim; losses = c.judge.new.losses } in
    let inserted : Frame = record { room = c.insert.new.self.room; aim = old.aim; losses = c.judge.new.losses } in
    let table = c.insert.new.self.entries in
    let room = c.in_ok-index.ensures.room in
    let same : inserted ≡ frame = λ i. record { room = room i; aim = old.aim; losses = c.judge.new.losses } in
    let last : GoesLast [] key 0 c.in_ok-index.index table = first-last old.table.entries table key 0 c.in_ok-index.index c.in_ok-index._is_new
    empty.states c.in_ok-index.ensures.inserted in
    let begins : Progress = record { frame = inserted; table = table; notes = old.notes.items; queue = old.queue; best = old.best } in
    let bare : begins ≡ record (nothing frame) { frame = inserted; table = table } = λ i. record {
      frame = inserted;
      table = table;
      notes = empty.notes i;
      queue = empty.queue i;
      best = empty.best i;
    } in
    let after = progress_of c.add.new.search in
    on_ok_weaker c.add.result (λ listed. begun b limit frame positive empty.wide c.in_ok-standing.ensures.losses key note after
    (added-made (nothing frame) inserted table after key 0 c.in_ok-index.index note same last
    (subst (λ x. IsListed x c.in_ok-index.index note after) bare listed))
    c.in_ok-key.ensures.of_board c.in_ok-key.ensures.key c.in_ok-key.ensures.as_many refl (bounded-priced b c.requires.accepted key.least key.boxes c.in_ok-key.ensures.of_board.is.placed old.aim.whole
    (losses_of c.judge.new.losses) c.in_ok-standing.standing c.in_ok-standing.ensures.judged)) c.add.ensures

pub returns-clause-aim : goal.returns-clause-aim
returns-clause-aim c = on_ok_weaker c.add.result (λ listed. ap (λ (f : Frame). f.aim) listed.frame) c.add.ensures

use Rattle.std.proofs.Common.{◌∙◌, Some, sym, ap, arith}
use Rattle.std.proofs.lemmas.Option.{slice_get-get_or}
use Rattle.sok_search.proofs.certifying.state_at.Goals as goal

pub index-requires : goal.index-requires
index-requires c =
    let (b, (limit, search)) = c.requires.search in
    let within = c.requires.within in
    let notes = search.a_note_each in
    omega (arith, within, notes, c.args.search.now.notes.ok)

pub returns : goal.returns
returns c =
    let (b, (limit, search)) = c.requires.search in
    let within = c.requires.within in
    let notes = search.a_note_each in
    let note = c.index.result.now in
    record {
      there = c.in_ok-key.ensures;
      depth_is = c.depth.ensures;
      note_is = slice_get-get_or c.args.search.now.notes.items c.args.index note (omega (arith, within, notes)) ∙ ap Some (sym c.index.ensures);
    }

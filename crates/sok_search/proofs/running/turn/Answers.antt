use Rattle.std.proofs.Common.{◌∙◌, sym, ap, Some, rules}
use Rattle.std.proofs.lemmas.Option.{slice_get-get_or}
use Rattle.sok_search.specs.Views.{progress_of}
use Rattle.sok_search.proofs.Turning.{go-dead, go-expanded, go-lost, held-noted}
use Rattle.sok_search.proofs.running.turn.Goals as goal

pub index-note-requires : goal.index-note-requires
index-note-requires c = let h = held-noted c.args.setting.now.board.now c.args.limit c.args.index (progress_of c.args.search.now) c.requires.held.search in search (rules, h)

pub visit-requires-clause-noted : goal.visit-requires-clause-noted
visit-requires-clause-noted c =
    let within = held-noted c.args.setting.now.board.now c.args.limit c.args.index (progress_of c.args.search.now) c.requires.held.search in
    slice_get-get_or c.args.search.now.notes.items c.args.index c.index-note.result.now within ∙ ap Some (sym c.index-note.ensures)

pub returns-in-Expanded-clause-turned : goal.returns-in-Expanded-clause-turned
returns-in-Expanded-clause-turned c =
    let within = held-noted c.args.setting.now.board.now c.args.limit c.args.index (progress_of c.args.search.now) c.requires.held.search in
    let there = slice_get-get_or c.args.search.now.notes.items c.args.index c.index-note.result.now within ∙ ap Some (sym c.index-note.ensures) in
    go-expanded c.args.setting.now.board.now c.args.limit c.args.index c.in-Expanded.field-0
    (progress_of c.args.search.now) c.index-note.result.now c.requires.held.search there c.in-Expanded.is

pub returns-in-Dead-clause-turned : goal.returns-in-Dead-clause-turned
returns-in-Dead-clause-turned c =
    let within = held-noted c.args.setting.now.board.now c.args.limit c.args.index (progress_of c.args.search.now) c.requires.held.search in
    let there = slice_get-get_or c.args.search.now.notes.items c.args.index c.index-note.result.now within ∙ ap Some (sym c.index-note.ensures) in
    go-dead c.args.setting.now.board.now c.args.limit c.args.index (progress_of c.args.search.now) c.index-note.result.now c.requires.held.search there c.in-Dead.is

pub returns-in-Lost-clause-turned : goal.returns-in-Lost-clause-turned
returns-in-Lost-clause-turned c =
    let within = held-noted c.args.setting.now.board.now c.args.limit c.args.index (progress_of c.args.search.now) c.requires.held.search in
    let there = slice_get-get_or c.args.search.now.notes.items c.args.index c.index-note.result.now within ∙ ap Some (sym c.index-note.ensures) in
    go-lost c.args.setting.now.board.now c.args.limit c.args.index c.in-Lost.field-0
    (progress_of c.args.search.now) c.index-note.result.now c.requires.held.search there c.in-Lost.is

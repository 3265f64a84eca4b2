use Rattle.std.proofs.Common.{◌∙◌, Some, ap, sym}
use Rattle.std.proofs.lemmas.Option.{slice_get-get_or}
use Rattle.sok_search.specs.Views.{progress_of}
use Rattle.sok_search.proofs.Traces.{tracing-all, tracing-more, tracing-none}
use Rattle.sok_search.proofs.tracing.trace.Goals as goal

pub loop-origin-init : goal.loop-origin-init
loop-origin-init c = tracing-none (progress_of c.args.search.now) c.args.index c.new-trace.result.items c.requires.within c.new-trace.ensures.items

pub loop-origin-preserved : goal.loop-origin-preserved
loop-origin-preserved c =
    let notes = c.args.search.now.notes.items in
    let note = c.index.result.now in
    let note_is = slice_get-get_or notes c.loop-origin.at note c.loop-origin.invariant.within ∙ ap Some (sym c.index.ensures) in
    tracing-more (progress_of c.args.search.now) c.args.index c.loop-origin.at c.loop-origin.trace.items c.push.new.self.items note c.in-Some.origin
    c.requires.back note_is c.in-Some.is
    c.in_ok-push.ensures.items c.loop-origin.invariant

pub loop-origin-smaller : goal.loop-origin-smaller
loop-origin-smaller c =
    let notes = c.args.search.now.notes.items in
    let note = c.index.result.now in
    let note_is = slice_get-get_or notes c.loop-origin.at note c.loop-origin.invariant.within ∙ ap Some (sym c.index.ensures) in
    (c.requires.back c.loop-origin.at note c.in-Some.origin note_is c.in-Some.is).1

pub returns : goal.returns
returns c =
    let notes = c.args.search.now.notes.items in
    let note = c.index.result.now in
    let note_is = slice_get-get_or notes c.loop-origin.at note c.loop-origin.invariant.within ∙ ap Some (sym c.index.ensures) in
    tracing-all (progress_of c.args.search.now) c.args.index c.loop-origin.at c.loop-origin.trace.items note note_is c.in_default.is c.loop-origin.invariant

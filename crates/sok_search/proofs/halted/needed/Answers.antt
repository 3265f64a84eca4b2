use Rattle.std.proofs.Common.{◌≡◌, ◌+◌, ◌∙◌, Some, sym, ap, subst, arith, slice_get}
use Rattle.std.proofs.lemmas.Option.{slice_get-get_or}
use Rattle.sok_search.specs.Halted.{IsOpenAt}
use Rattle.sok_search.specs.Views.{progress_of}
use Rattle.sok_search.proofs.Halting.{closed-at, open-at}
use Rattle.sok_search.proofs.halted.needed.Goals as goal
use Rattle.sok_search.proofs.halted.needed.Goals.{After-index}

-- the note at the index
noted : (c : After-index) → slice_get c.args.search.now.notes.items c.args.index ≡ Some c.index.result.now
noted c =
    let (b, (limit, search)) = c.requires.search in
    let within = c.requires.within in
    let notes = search.a_note_each in
    slice_get-get_or c.args.search.now.notes.items c.args.index c.index.result.now (omega (arith, within, notes)) ∙ ap Some (sym c.index.ensures)

pub returns-in-Open : goal.returns-in-Open
returns-in-Open c =
    let (b, (limit, search)) = c.requires.search in
    let depth = c.depth-depth.result in
    let bound = c.in-Open.bound in
    let sum : depth + bound ≡ c.from.result + c.from-in-Open.result = omega (arith, c.from.ensures, c.from-in-Open.ensures) in
    subst (IsOpenAt (progress_of c.args.search.now) c.args.index) sum
    (open-at b limit (progress_of c.args.search.now) search c.args.index depth bound c.index.result.now c.requires.within c.depth-depth.ensures
    (noted ((goal.at.returns-in-Open c).After-index)) c.in-Open.is)

pub returns-in_default : goal.returns-in_default
returns-in_default c n = closed-at (progress_of c.args.search.now) c.args.index n c.index.result.now
    (noted ((goal.at.returns-in_default c).After-index)) (λ bound is. c.in_default.not-Open bound is)

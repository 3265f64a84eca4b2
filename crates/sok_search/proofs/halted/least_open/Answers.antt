use Rattle.std.proofs.Common.{◌+◌, ◌∙◌, sym, subst, rules}
use Rattle.sok_search.specs.Halted.{IsLeastOfFirst}
use Rattle.sok_search.specs.Views.{progress_of}
use Rattle.sok_search.proofs.Halting.{least-open, least-other}
use Rattle.sok_search.proofs.halted.least_open.Goals as goal
use Rattle.sok_search.proofs.halted.least_open.Goals.{in-Some, in_default}

pub loop-index-preserved : goal.loop-index-preserved
loop-index-preserved c =
    let p = progress_of c.args.search.now in
    let count = c.loop-index.index in
    let least = c.loop-index.least in
    elim c.match-needed.branch [
      | in-Some w ↦ subst (IsLeastOfFirst p (count + 1)) (sym (w.least-is ∙ w.min-least.ensures))
          (least-open p count least w.in-Some.pushes c.loop-index.invariant w.in-Some.ensures)
      | in_default w ↦ subst (IsLeastOfFirst p (count + 1)) (sym w.least-is) (least-other p count least c.loop-index.invariant w.in_default.ensures)
    ]

pub returns : goal.returns
returns c = search rules

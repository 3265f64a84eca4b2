use Rattle.std.proofs.Common.{◌∙◌, sym, subst, ◌+◌, List, arith}
use Rattle.sok_board.specs.declared.search.Step.{Step}
use Rattle.sok_board.specs.Searches.{found_of, turn, IsSearching}
use Rattle.sok_board.proofs.Searches.{step-within, step-shallow, IsSearching-none, IsSearching-met, IsSearching-new, added}
use Rattle.sok_board.proofs.search.meet.Goals as goal

pub next-requires : goal.next-requires
next-requires g c =
    step-within (g.W.Ways.graph c.args.ways.now) (found_of c.args.search.now) c.args.at c.index-step.result.now c.args.dir c.requires.searching c.requires.exists
    c.index-step.ensures

pub returns-in_default : goal.returns-in_default
returns-in_default g c =
    IsSearching-none (g.W.Ways.graph c.args.ways.now) (found_of c.args.search.now) c.args.at c.index-step.result.now c.args.dir c.requires.searching
    c.requires.exists c.index-step.ensures (sym c.next.ensures.way ∙ c.in_default.is)

pub returns-then-is_some : goal.returns-then-is_some
returns-then-is_some g c =
    IsSearching-met (g.W.Ways.graph c.args.ways.now) (found_of c.args.search.now) c.args.at c.index-step.result.now c.args.dir c.requires.searching
    c.requires.exists c.index-step.ensures c.in-Some.node (sym c.in-Some.ensures.way) c.in-Some.ensures.exists c.index.result.now c.index.ensures
    c.if-is_some.ensures

pub overflow_add-depth : goal.overflow_add-depth
overflow_add-depth g c =
    let few = step-shallow (g.W.Ways.graph c.args.ways.now) (found_of c.args.search.now) c.args.at c.index-step.result.now c.args.dir c.requires.searching
    c.requires.exists c.index-step.ensures in
    omega (arith, few)

pub returns : goal.returns
returns g c =
    let f = found_of c.args.search.now in
    let a = c.index-step.result.now in
    let t = c.in-Some.node in
    let is = c.in_ok-push.ensures.items in
    let after = added (record { node = t; depth = a.depth + 1 }) (record { from = a.node; dir = c.args.dir }) f in
    subst (IsSearching (g.W.Ways.graph c.args.ways.now) (turn c.args.at c.args.dir + 1))
    (λ i. record { depths = after.depths; origins = after.origins; steps = sym {A = List Step} is i })
    (IsSearching-new (g.W.Ways.graph c.args.ways.now) f c.args.at a c.args.dir c.requires.searching
    c.requires.exists c.index-step.ensures t (sym c.in-Some.ensures.way) c.in-Some.ensures.exists c.index.result.now c.index.ensures
    c.if-is_some.ensures)

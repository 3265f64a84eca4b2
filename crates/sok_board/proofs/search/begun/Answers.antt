use Rattle.std.proofs.Common.{◌≡◌, ◌∙◌, ◌++◌, ◌∷◌, [], sym, refl, subst, arith, length, set, List, Some}
use Rattle.sok_board.specs.declared.search.Step.{Step}
use Rattle.sok_board.specs.Searches.{IsSearching}
use Rattle.sok_board.proofs.Searches.{IsSearching-started}
use Rattle.sok_board.proofs.search.begun.Goals as goal

pub returns : goal.returns
returns g c =
    let graph = g.W.Ways.graph c.args.ways.now in
    let blank = c.resize.new.self.items in
    let origins = c.resize-2.new.self.items in
    let start = c.start-start.ensures.start in
    let count = c.nodes-nodes.ensures.count in
    let none = c.clear-2.ensures.items in
    let steps : ◌≡◌ {A = List Step} c.push.new.self.items (record { node = graph.start; depth = 0 } ∷ []) =
    ◌∙◌ {A = List Step} c.in_ok-push.ensures.items (λ i. none i ++ record { node = start i; depth = 0 } ∷ []) in
    let (_, filled) = c.in_ok-resize.ensures.by_index in
    let empty = c.clear.ensures.len in
    let long : length blank ≡ graph.nodes = let filled = c.in_ok-resize.ensures.len in omega (arith, filled, count) in
    let room : length origins ≡ graph.nodes = let filled = c.in_ok-resize-2.ensures.len in omega (arith, filled, count) in
    subst (IsSearching graph 0) (λ i. record { depths = set blank (sym start i) (Some 0); origins = origins; steps = sym {A = List Step} steps i })
    (IsSearching-started graph blank origins c.nodes-nodes.ensures.few c.start-start.ensures.exists long
    (λ k d below. filled k d refl (omega (arith, empty)) (omega (arith, below, long, count))) room)

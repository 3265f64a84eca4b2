use Rattle.std.proofs.Common.{◌≡◌, ◌∙◌, ap, sym, arith, reverse, Some}
use Rattle.sok_board.specs.Graphs.{follow}
use Rattle.sok_board.specs.Searches.{found_of}
use Rattle.sok_board.proofs.Searches.{depth-none, depth-least, reverse_back}
use Rattle.sok_board.proofs.search.letters_to.Goals as goal

pub returns-in_default : goal.returns-in_default
returns-in_default g c =
    depth-none (g.W.Ways.graph c.args.ways.now) (found_of c.in_ok-search.search) c.in_ok-search.ensures c.args.to (sym c.depth.ensures ∙ c.in_default.is)

pub loop-left-preserved : goal.loop-left-preserved
loop-left-preserved g c =
    let letters = c.loop-left.letters.items in
    let so_far = c.loop-left.invariant in
    let o = c.index-origin.result.now in
    let pushed = c.in_ok-push.ensures.items in
    let some = c.loop-left-test.true in
    let (met, lead) = reverse_back (g.W.Ways.graph c.args.ways.now) (found_of c.in_ok-search.search) c.in_ok-search.ensures c.loop-left.node c.args.to
    c.loop-left.left letters c.push.new.self.items o some c.index-origin.ensures pushed so_far.met so_far.lead in
    record {
      met = met;
      lead = lead;
      long = let longer = c.in_ok-push.ensures.len in let long = so_far.long in omega (arith, longer, long, some);
    }

pub returns : goal.returns
returns g c =
    let graph = g.W.Ways.graph c.args.ways.now in
    let f = found_of c.in_ok-search.search in
    let done = c.in_ok-search.ensures in
    let so_far = c.loop-left.invariant in
    let none : c.loop-left.left ≡ 0 = let past = c.loop-left-test.false in omega (arith, past) in
    let start : graph.start ≡ c.loop-left.node = done.found.root c.loop-left.node (so_far.met ∙ ap Some none) in
    record {
      lead = ap (follow graph graph.start) c.reverse.ensures.items ∙ ap (λ s. follow graph s (reverse c.loop-left.letters.items)) start ∙ so_far.lead;
      least = λ v leads.
          let least = depth-least graph f done c.args.to c.in-Some.depth (sym c.depth.ensures ∙ c.in-Some.is) v leads in
          let long = so_far.long in
          let turned = c.reverse.ensures.len in
          omega (arith, least, long, turned, none);
    }

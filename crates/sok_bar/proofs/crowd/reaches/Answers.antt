use Rattle.std.proofs.Common.{sym, ◌∙◌}
use Rattle.sok_bar.proofs.Counting.{told_reaches}
use Rattle.sok_bar.proofs.crowd.reaches.Goals as goal

pub returns : goal.returns
returns c =
    let (there, back) = told_reaches c.args.distances.now.board c.args.square c.args.goal c.dist.result c.dist.ensures.exact in
    ((λ some. there (sym c.is_some.ensures ∙ some)), λ reaches. c.is_some.ensures ∙ back reaches)

use Rattle.std.proofs.Common.{◌∙◌, sym, subst, Contains}
use Rattle.sok_region.proofs.Regions.{Contains-squares_of}
use Rattle.sok_region.proofs.region.Region.has.Goals as goal

pub returns : goal.returns
returns c =
    let words = c.self.inside.words in
    let square = c.args.square in (
      λ e. subst (λ squares. Contains squares square) c.self.view_is ((Contains-squares_of words square).1 (sym c.has.ensures ∙ e)),
      λ there. c.has.ensures ∙ (Contains-squares_of words square).0 (subst (λ squares. Contains squares square) (sym c.self.view_is) there),
    )

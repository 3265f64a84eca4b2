use Rattle.std.proofs.Common.{◌≡◌, ◌∙◌, sym, subst, IsSomeAnd}
use Rattle.sok_rules.specs.Session.{Letters, cell_in_play, position_of}
use Rattle.sok_rules.proofs.Seen.{cell_at-scene}
use Rattle.sok_rules.proofs.session.Session.cell.Goals as goal

pub returns : goal.returns
returns c =
    let s = c.self.inside in
    let shown = c.cell.ensures.cell ∙ cell_at-scene s.level s.scene c.args.spot c.self.invariant.ground c.cell.ensures.one_man in
    subst (λ (now : Letters). IsSomeAnd (position_of now) (λ x. c.cell.result ≡ cell_in_play now.rows x c.args.spot)) c.self.view_is
    (subst (λ o. IsSomeAnd o (λ x. c.cell.result ≡ cell_in_play s.level x c.args.spot)) (sym c.self.invariant.ran) shown)

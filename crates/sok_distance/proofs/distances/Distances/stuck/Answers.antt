use Rattle.std.proofs.Common.{◌↔◌, IsTrue, ◌∙◌, false, sym, subst, arith}
use Rattle.std.proofs.lemmas.List.{get_or_default}
use Rattle.sok_distance.specs.Distances.{IsKept}
use Rattle.sok_distance.specs.Pushing.{IsStuck}
use Rattle.sok_distance.proofs.distances.Distances.stuck.Goals as goal

pub returns : goal.returns
returns c =
    let t = c.args.self.now in
    let kept : IsKept c.self.inside.goals c.self.inside.stuck.items t =
    subst (IsKept c.self.inside.goals c.self.inside.stuck.items) c.self.view_is c.self.invariant in
    let whole = kept.told.whole in
    let read = c.index.ensures ∙ get_or_default c.self.inside.stuck.items c.args.square c.index.result.now false (omega (arith, whole, c.requires)) in
    subst (λ told. IsTrue told ↔ IsStuck t.board c.args.square) (sym read) (kept.told.exact c.args.square c.requires)

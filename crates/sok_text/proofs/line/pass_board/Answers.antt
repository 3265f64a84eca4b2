use Rattle.std.proofs.Common.{◌≡◌, refl, sym, ◌∙◌, subst}
use Rattle.sok_text.specs.declared.kind.Kind.{Kind}
use Rattle.sok_text.specs.declared.kind.Kind.TheVariants.{Row, Packed, Note}
use Rattle.sok_text.specs.Lines.{PassesBoard}
use Rattle.sok_text.proofs.Runs.{PassesBoard-packed, PassesBoard-rows}
use Rattle.sok_text.proofs.line.pass_board.Goals as goal

-- what is neither of two kinds is the third
row_left : (kind : Kind) → (kind ≡ Packed → ⊥) → (kind ≡ Note → ⊥) → kind ≡ Row
row_left Row packed note = refl
row_left Packed packed note = absurd (packed refl)
row_left Note packed note = absurd (note refl)

pub returns-in-Packed : goal.returns-in-Packed
returns-in-Packed c =
    let from = c.args.from in
    subst (PassesBoard from.rest.now) (sym (c.place_at.ensures ∙ from.behind))
    (PassesBoard-packed from.rest.now c.requires.full (sym from.is ∙ c.in-Packed.is))

pub returns-in_default : goal.returns-in_default
returns-in_default c =
    let from = c.args.from in
    PassesBoard-rows from.rest.now c.pass.result.rest.now c.pass.ensures.passes c.pass.ensures.ends c.requires.full
    (sym from.is ∙ row_left from.kind c.in_default.not-Packed (λ note. c.requires.begins (sym from.is ∙ note)))

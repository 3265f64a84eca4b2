use Rattle.std.proofs.Common.{◌≡◌, ◌<◌, ◌∙◌, ap, inl, inr, subst, sym, true, true≢false}
use Rattle.std.proofs.lemmas.Bool.{cases_lt}
use Rattle.sok_field.specs.Fields.{has}
use Rattle.sok_field.specs.Halves.{within}
use Rattle.sok_field.specs.Ways.{Joined, way}
use Rattle.sok_field.proofs.Across.{joined-free}
use Rattle.sok_field.proofs.Halves.{has-alone, has-lower, has-upper}
use Rattle.sok_field.proofs.Spreading.{has-col}
use Rattle.sok_field.proofs.field.Field.flood.Goals as goal

pub flood-requires : goal.flood-requires
flood-requires c =
    let low = c.free.inside.low in
    let high = c.free.inside.high in
    let there = ap (λ rows. has rows c.args.from) c.free.view_is ∙ c.requires in
    elim (cases_lt c.args.from.col 64) [
      | inl inside ↦ sym (has-lower low high c.args.from inside) ∙ there
      | inr past ↦ absurd (true≢false (sym there ∙ has-upper low high c.args.from past ∙ c.is_blank.ensures c.if-is_blank.true (within c.args.from)))
    ]

pub returns-then-is_blank : goal.returns-then-is_blank
returns-then-is_blank c = λ s.
    let low = c.free.inside.low in
    let high = c.free.inside.high in
    let seen = c.flood.new.self in
    let blank = c.clear.new.self in
    let words = c.flood.ensures.words in
    let lets : has low ≡ has c.args.free.now = sym (has-alone low high words (c.is_blank.ensures c.if-is_blank.true)) ∙ ap has c.free.view_is in
    let start = subst (λ through. through c.args.from ≡ true) (sym lets) c.requires in
    let on = c.flood.ensures.joined s in
    let there : Joined (has c.args.free.now) c.args.from s → Joined (has low) c.args.from s =
    λ (w, leads). (w, ap (λ through. way through c.args.from w) lets ∙ leads) in
    let narrow : Joined (has low) c.args.from s → s.col < 64 =
    λ joined. has-col low s (words s.row) (joined-free (has low) c.args.from s start joined) in (
      λ e. elim (cases_lt s.col 64) [
        | inl inside ↦
            let (w, leads) = on.0 (sym (has-lower seen blank s inside) ∙ e) in
            (w, ap (λ through. way through c.args.from w) (sym lets) ∙ leads)
        | inr past ↦ absurd (true≢false (sym e ∙ has-upper seen blank s past ∙ c.clear.ensures (within s)))
      ],
      λ joined. has-lower seen blank s (narrow (there joined)) ∙ on.1 (there joined),
    )

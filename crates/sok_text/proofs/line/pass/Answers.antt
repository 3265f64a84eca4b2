use Rattle.std.proofs.Common.{◌≡◌, true, false, true≢false, length, refl, sym, ◌∙◌, ap, subst, arith}
use denote.Enum.Bare.{sameb}
use Rattle.sok_text.specs.contracts.kind.Kind.{the_type}
use Rattle.sok_text.specs.declared.kind.Kind.{Kind}
use Rattle.sok_text.specs.declared.kind.Kind.TheVariants.{Row, Packed, Note}
use Rattle.sok_text.specs.Lines.{Passes}
use Rattle.sok_text.proofs.Lines.{length-after_line}
use Rattle.sok_text.proofs.Runs.{Passes-more, not_empty, StartsOther-first}
use Rattle.sok_text.proofs.line.pass.Goals as goal

same_kind : (k l : Kind) → sameb the_type k l ≡ true → k ≡ l
same_kind Row Row e = refl
same_kind Packed Packed e = refl
same_kind Note Note e = refl
same_kind Row Packed e = absurd (true≢false (sym e))
same_kind Row Note e = absurd (true≢false (sym e))
same_kind Packed Row e = absurd (true≢false (sym e))
same_kind Packed Note e = absurd (true≢false (sym e))
same_kind Note Row e = absurd (true≢false (sym e))
same_kind Note Packed e = absurd (true≢false (sym e))

other_kind : (k l : Kind) → sameb the_type k l ≡ false → k ≡ l → ⊥
other_kind Row Row e = λ _. true≢false e
other_kind Packed Packed e = λ _. true≢false e
other_kind Note Note e = λ _. true≢false e
other_kind Row Packed e = λ same. cc
other_kind Row Note e = λ same. cc
other_kind Packed Row e = λ same. cc
other_kind Packed Note e = λ same. cc
other_kind Note Row e = λ same. cc
other_kind Note Packed e = λ same. cc

pub loop-here-smaller : goal.loop-here-smaller
loop-here-smaller c =
    let here = c.loop-here.here in
    let some = not_empty here.rest.now (sym c.is_empty.ensures ∙ c.loop-here-test.true) in
    omega (arith, length-after_line here.rest.now some, ap length (c.place_at-here.ensures ∙ here.behind))

pub loop-here-preserved : goal.loop-here-preserved
loop-here-preserved c =
    let here = c.loop-here.here in
    let some = not_empty here.rest.now (sym c.is_empty.ensures ∙ c.loop-here-test.true) in
    let same = sym here.is ∙ same_kind here.kind c.args.kind (sym c.eq.ensures ∙ c.if-eq.true) in
    subst (Passes c.args.kind c.args.from.rest.now) (sym (c.place_at-here.ensures ∙ here.behind))
    (Passes-more c.args.kind c.args.from.rest.now here.rest.now c.loop-here.invariant some same)

pub returns-else-eq-clause-ends : goal.returns-else-eq-clause-ends
returns-else-eq-clause-ends c =
    let here = c.loop-here.here in
    let some = not_empty here.rest.now (sym c.is_empty.ensures ∙ c.loop-here-test.true) in
    StartsOther-first c.args.kind here.rest.now some (λ same. other_kind here.kind c.args.kind (sym c.eq.ensures ∙ c.if-eq.false) (here.is ∙ same))

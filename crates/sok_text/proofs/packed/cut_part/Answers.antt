use Rattle.std.proofs.Common.{◌≡◌, ◌+◌, ◌∷◌, ◌∙◌, All, false, true, take, get_or, ap, subst, sym, arith}
use Rattle.std.proofs.lemmas.Bool.Decides.{nat_tests}
use Rattle.std.proofs.lemmas.List.{drop_all, take_all, take_rest}
use Rattle.std.proofs.lemmas.List.Elements.{All-more}
use Rattle.sok_text.specs.Packed.{is_bar, parts_between}
use Rattle.sok_text.proofs.Unpacking.{parts_between-none, parts_between-some}
use Rattle.sok_text.proofs.packed.cut_part.Goals as goal
use Rattle.sok_text.proofs.packed.cut_part.Goals.{then-loop-end-test+else-text-end-ne124, else-loop-end-test}

pub loop-end-preserved : goal.loop-end-preserved
loop-end-preserved c =
    let other : is_bar (get_or c.args.text.now c.loop-end.end 0) ≡ false = grind (arith, nat_tests) in
    record {
      within = omega arith;
      none = All-more (λ byte. is_bar byte ≡ false) c.args.text.now c.loop-end.end 0 (omega arith) c.loop-end.invariant.none other;
    }

pub returns-then-end-text-clause-parts : goal.returns-then-end-text-clause-parts
returns-then-end-text-clause-parts c =
    let text = c.args.text.now in
    let end = c.loop-end.end in
    elim c.loop-end-test.branch [
      | then-loop-end-test+else-text-end-ne124 w ↦
          let bar : is_bar (get_or text end 0) ≡ true = grind (arith, nat_tests) in
          parts_between-some text end (omega arith) c.loop-end.invariant.none bar
          ∙ ap (λ rest. take end text ∷ parts_between rest) (sym (take_rest text (end + 1)))
      | else-loop-end-test w ↦ absurd (omega arith)
    ]

pub returns-else-end-text-clause-parts : goal.returns-else-end-text-clause-parts
returns-else-end-text-clause-parts c =
    let text = c.args.text.now in
    let end = c.loop-end.end in
    parts_between-none text c.requires (subst (λ bytes. All (λ byte. is_bar byte ≡ false) bytes) (take_all end text (omega arith)) c.loop-end.invariant.none)
    ∙ ap (λ rest. text ∷ parts_between rest) (sym (take_rest text end ∙ drop_all end text (omega arith)))

use Rattle.std.proofs.Common.{◌++◌, ◌∙◌, ap, codes, decimal, take, append_assoc, arith, rules}
use Rattle.std.proofs.lemmas.Grind.{common_steps}
use Rattle.std.proofs.lemmas.List.Folds.{length-flat_map-take}
use Rattle.sok_entry.specs.Text.{Grows, spaced}
use Rattle.sok_entry.proofs.writing.push_numbers.Goals as goal

pub returns-in_err-push_number-clause-full : goal.returns-in_err-push_number-clause-full
returns-in_err-push_number-clause-full c =
    let more = length-flat_map-take (λ n. codes " " ++ decimal n) c.args.numbers.now c.loop-number.number-index 0 (omega arith) in
    grind (arith, common_steps)

pub returns-in_err-push_number-clause-front : goal.returns-in_err-push_number-clause-front
returns-in_err-push_number-clause-front c =
    let old = c.args.text.now.items in
    let before = spaced (take c.loop-number.number-index c.args.numbers.now) in
    let front = c.in_err-push_number.ensures.front in
    let grown : Grows old c.push_number.new.text.items = record {
      more = before ++ front.more;
      is = front.is ∙ ap (λ text. text ++ front.more) c.loop-number.invariant.items ∙ append_assoc old before front.more;
    } in
    search rules

use Rattle.std.proofs.Common.{◌++◌, ◌∷◌, ◌∙◌, [], All, List, ℕ, ap, append_assoc, decimal, drop, map, subst, sym}
use Rattle.std.proofs.lemmas.List.{map-append, take_rest}
use Rattle.std.proofs.lemmas.List.Elements.{All-push}
use Rattle.std.specs.List.{slice_split}
use Rattle.sok_entry.specs.Text.{IsSmall}
use Rattle.sok_entry.specs.Reading.{is_space}
use Rattle.sok_entry.proofs.Words.{begins-rest, split-last, split-more}
use Rattle.sok_entry.proofs.number.read_numbers.Goals as goal

pub returns-in_default : goal.returns-in_default
returns-in_default c = λ ns words.
    let (n, tail, begins) = begins-rest c.args.text.now c.loop-number.rest.now c.loop-number.numbers.items ns c.loop-number.invariant.split words in
    c.in_default.ensures n tail begins

pub returns-in_default-behind : goal.returns-in_default-behind
returns-in_default-behind c =
    let numbers = c.loop-number.numbers.items in
    let n = c.in-Some.number in
    let more = c.in_ok-push.ensures.items in (
      subst (All IsSmall) (sym more) (All-push IsSmall numbers n c.loop-number.invariant.small c.in-Some.ensures.small),
      c.loop-number.invariant.split
          ∙ ap (λ words. map decimal numbers ++ words)
          (split-last c.loop-number.rest.now n c.in-Some.behind.now c.in-Some.ensures c.in_default-behind.len_below)
          ∙ sym (map-append decimal numbers (n ∷ [])) ∙ ap (map decimal) (sym more),
    )

pub loop-number-preserved : goal.loop-number-preserved
loop-number-preserved c =
    let numbers = c.loop-number.numbers.items in
    let n = c.in-Some.number in
    let behind = c.in-Some.behind.now in
    let more = c.in_ok-push.ensures.items in
    let last = slice_split is_space (drop 1 behind) in
    record {
      small = subst (All IsSmall) (sym more) (All-push IsSmall numbers n c.loop-number.invariant.small c.in-Some.ensures.small);
      split = c.loop-number.invariant.split
          ∙ ap (λ words. map decimal numbers ++ words) (split-more c.loop-number.rest.now n behind c.in-Some.ensures c.in-len1-up.len_at_least)
          ∙ sym (append_assoc (map decimal numbers) (decimal n ∷ []) last)
          ∙ ap (λ words. words ++ last) (sym (map-append decimal numbers (n ∷ [])) ∙ ap (map decimal) (sym more))
          ∙ ap (λ (rest : List ℕ). map decimal c.push.new.self.items ++ slice_split is_space rest) (sym (take_rest behind 1));
    }

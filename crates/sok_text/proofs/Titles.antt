-- Titles, line by line and byte by byte.
use Rattle.std.proofs.Common.{ℕ, ◌≡◌, ◌<◌, List, [], ◌∷◌, Bool, true, false, Option, Some, None, if◌then◌else◌}
use Rattle.std.proofs.Common.{codes, length, map, find, reverse, sym, ap, ◌∙◌, refl}
use Rattle.std.proofs.lemmas.List.{reverse-append}
use Rattle.std.proofs.lemmas.List.Folds.{find-append}
use Rattle.std.specs.Option.{option_or}
use Rattle.std.specs.Str.Lines.{lines}
use Rattle.sok_text.specs.Lines.{first_line, after_line}
use Rattle.sok_text.specs.Titles.{text_behind, title_after, first_text}
use Rattle.sok_text.proofs.Lines.{lines-first}

or_last : (o : Option (List ℕ)) (b : Bool) (line : List ℕ) (last : Option (List ℕ))
    → option_or (option_or o (if b then Some line else None)) last ≡ option_or o (if b then Some line else last)
or_last None true line last = refl
or_last None false line last = refl
or_last (Some x) b line last = refl

-- a first line that gives a title
pub title_after-some : (rest line title : List ℕ) → 0 < length rest → line ≡ first_line rest → Some title ≡ text_behind (codes "Title:") line
    → Some title ≡ title_after (lines rest)
title_after-some rest line title some first has =
    let others = map (text_behind (codes "Title:")) (lines (after_line rest)) in
    ap (λ o. first_text (o ∷ others)) (has ∙ ap (text_behind (codes "Title:")) first) ∙ ap title_after (sym (lines-first rest some))

-- a first line that gives none
pub title_after-none : (rest line next : List ℕ) → 0 < length rest → line ≡ first_line rest → next ≡ after_line rest → None ≡ text_behind (codes "Title:") line
    → title_after (lines next) ≡ title_after (lines rest)
title_after-none rest line next some first behind has =
    let others = map (text_behind (codes "Title:")) (lines (after_line rest)) in
    ap (λ text. title_after (lines text)) behind ∙ ap (λ o. first_text (o ∷ others)) (has ∙ ap (text_behind (codes "Title:")) first)
    ∙ ap title_after (sym (lines-first rest some))

-- the last line that passes a test, with one more line at the front
pub find-reverse_more : (test : List ℕ → Bool) (rest line next : List ℕ) (last : Option (List ℕ)) (passes : Bool) → test line ≡ passes → 0 < length rest
    → line ≡ first_line rest → next ≡ after_line rest
    → option_or (find test (reverse (lines next))) (if passes then Some line else last) ≡ option_or (find test (reverse (lines rest))) last
find-reverse_more test rest line next last passes tells some first behind =
    let later = find test (reverse (lines next)) in
    let split : lines rest ≡ line ∷ lines next = lines-first rest some ∙ (λ i. sym first i ∷ lines (sym behind i)) in
    sym (ap (λ ls. option_or (find test (reverse ls)) last) split
    ∙ ap (λ ls. option_or (find test ls) last) (reverse-append (line ∷ []) (lines next))
    ∙ ap (λ o. option_or o last) (find-append test (reverse (lines next)) (line ∷ [])) ∙ or_last later (test line) line last
    ∙ ap (λ b. option_or later (if b then Some line else last)) tells)

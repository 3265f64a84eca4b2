use Rattle.std.proofs.Common.{◌≡◌, ◌∷◌, get_or, drop, sym, ap, ◌∙◌, subst, arith}
use Rattle.std.proofs.lemmas.Result.{IfOk-weaker}
use Rattle.std.proofs.lemmas.List.{take_rest}
use Rattle.sok_entry.specs.Text.{numbers_of_head}
use Rattle.sok_entry.specs.Entries.{head_of}
use Rattle.sok_entry.specs.Reading.{IsHeadLine, Tells}
use Rattle.sok_entry.proofs.EntryLines.{two_bytes, long-head_line, IsHeadLine-reads, Tells-head_of}
use Rattle.sok_entry.proofs.grammar.head_of_line.Goals as goal

pub returns-then-line-lt2 : goal.returns-then-line-lt2
returns-then-line-lt2 c = λ h is. omega (arith, long-head_line c.args.line.now h is.1)

pub returns-then-line-ne112 : goal.returns-then-line-ne112
returns-then-line-ne112 c =
    let line = c.args.line.now in
    let bytes = two_bytes line (omega arith) in
    λ h is. c.if-line-ne112.true (IsHeadLine-reads (get_or line 0 0) (get_or line 1 0) (drop 2 line) h (subst (λ l. IsHeadLine l h) bytes is)).0

pub returns-then-line-ne32 : goal.returns-then-line-ne32
returns-then-line-ne32 c =
    let line = c.args.line.now in
    let bytes = two_bytes line (omega arith) in
    λ h is. c.if-line-ne32.true (IsHeadLine-reads (get_or line 0 0) (get_or line 1 0) (drop 2 line) h (subst (λ l. IsHeadLine l h) bytes is)).1

pub returns-then-not-branch : goal.returns-then-not-branch
returns-then-not-branch c =
    let line = c.args.line.now in
    let bytes = two_bytes line (omega arith) in
    let no_words = rw (c.if-not-branch.true, take_rest line 2) at c.in_ok-read_numbers.ensures in
    λ h is. no_words (numbers_of_head h) (IsHeadLine-reads (get_or line 0 0) (get_or line 1 0) (drop 2 line) h (subst (λ l. IsHeadLine l h) bytes is)).2

pub returns : goal.returns
returns c =
    let line = c.args.line.now in
    let text = drop 2 line in
    let bytes = two_bytes line (omega arith) ∙ (λ i. c.if-line-ne112.false i ∷ c.if-line-ne32.false i ∷ text) in
    let words = rw (c.if-not-branch.false, take_rest line 2) at c.in_ok-read_numbers.ensures in
    IfOk-weaker c.head_of.result (λ found. found ≡ head_of c.deref.result.now) (Tells (IsHeadLine line))
    (λ found made. subst (λ l. Tells (IsHeadLine l) found) (sym bytes)
    (Tells-head_of text c.read_numbers.new.numbers.items words found (made ∙ ap head_of c.deref.ensures.value)))
    c.head_of.ensures

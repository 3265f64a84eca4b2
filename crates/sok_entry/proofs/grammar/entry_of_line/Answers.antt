use Rattle.std.proofs.Common.{◌≡◌, ◌∷◌, get_or, drop, sym, ap, ◌∙◌, subst, arith}
use Rattle.std.proofs.lemmas.Result.{IfOk-weaker}
use Rattle.std.proofs.lemmas.List.{take_rest}
use Rattle.sok_entry.specs.Text.{numbers_of}
use Rattle.sok_entry.specs.Entries.{entry_of}
use Rattle.sok_entry.specs.Reading.{IsEntryLine, Tells}
use Rattle.sok_entry.proofs.EntryLines.{two_bytes, long-entry_line, IsEntryLine-reads, Tells-entry_of}
use Rattle.sok_entry.proofs.Openings.{plain-letter}
use Rattle.sok_entry.proofs.grammar.entry_of_line.Goals as goal

pub returns-then-line-lt2 : goal.returns-then-line-lt2
returns-then-line-lt2 c = λ e is. omega (arith, long-entry_line c.args.line.now e is.1)

pub returns-then-line-eq112 : goal.returns-then-line-eq112
returns-then-line-eq112 c =
    let line = c.args.line.now in
    let bytes = two_bytes line (omega arith) in
    λ e is.
    let reads = IsEntryLine-reads (get_or line 0 0) (get_or line 1 0) (drop 2 line) e (subst (λ l. IsEntryLine l e) bytes is) in
    plain-letter e.reason is.2 (sym reads.0 ∙ c.if-line-eq112.true)

pub returns-then-line-ne32 : goal.returns-then-line-ne32
returns-then-line-ne32 c =
    let line = c.args.line.now in
    let text = drop 2 line in
    let bytes = two_bytes line (omega arith) in
    λ e is. c.if-line-ne32.true (IsEntryLine-reads (get_or line 0 0) (get_or line 1 0) text e (subst (λ l. IsEntryLine l e) bytes is)).1

pub returns-then-not-branch : goal.returns-then-not-branch
returns-then-not-branch c =
    let line = c.args.line.now in
    let text = drop 2 line in
    let bytes = two_bytes line (omega arith) in
    let no_words = rw (c.if-not-branch.true, take_rest line 2) at c.in_ok-read_numbers.ensures in
    λ e is. no_words (numbers_of e) (IsEntryLine-reads (get_or line 0 0) (get_or line 1 0) text e (subst (λ l. IsEntryLine l e) bytes is)).2

pub returns : goal.returns
returns c =
    let line = c.args.line.now in
    let letter = get_or line 0 0 in
    let text = drop 2 line in
    let bytes = two_bytes line (omega arith) ∙ ap (λ b. letter ∷ b ∷ text) c.if-line-ne32.false in
    let words = rw (c.if-not-branch.false, take_rest line 2) at c.in_ok-read_numbers.ensures in
    IfOk-weaker c.entry_of.result (λ found. found ≡ entry_of letter c.deref.result.now) (Tells (IsEntryLine line))
    (λ found made. subst (λ l. Tells (IsEntryLine l) found) (sym bytes)
    (Tells-entry_of letter text c.read_numbers.new.numbers.items words found (made ∙ ap (entry_of letter) c.deref.ensures.value)))
    c.entry_of.ensures

use Rattle.std.proofs.Common.{subst}
use Rattle.sok_entry.specs.Reading.{IsEntryLine, Tells}
use Rattle.sok_entry.proofs.Openings.{Tells-inner, no_inner}
use Rattle.sok_entry.proofs.grammar.inner_of_line.Goals as goal

pub returns-in-Some : goal.returns-in-Some
returns-in-Some c =
    let line = c.args.line.now in
    let is = subst (Tells (IsEntryLine line)) c.in-Some.is c.in_ok-entry.ensures in
    Tells-inner line c.in-Some.entry is c.inner_of.result c.inner_of.ensures

pub returns-in-None : goal.returns-in-None
returns-in-None c =
    let line = c.args.line.now in
    no_inner line (subst (Tells (IsEntryLine line)) c.in-None.is c.in_ok-entry.ensures)

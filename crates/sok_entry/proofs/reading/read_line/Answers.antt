use Rattle.std.proofs.Common.{◌∷◌, ◌++◌, [], inr, subst}
use Rattle.sok_entry.specs.Stages.{IsRead}
use Rattle.sok_entry.proofs.reading.read_line.Goals as goal

pub returns-in_ok-push-in-Listed : goal.returns-in_ok-push-in-Listed
returns-in_ok-push-in-Listed c = λ ls count at.
    let entries = c.args.entries.now.items in
    let read = subst (IsRead (ls ++ c.args.line.now ∷ []) entries c.args.stage) c.in-Listed.is (c.in_ok-entry.ensures ls entries count at) in
    rw c.in_ok-push-in-Listed.ensures.items read.1

pub returns-in-Passed : goal.returns-in-Passed
returns-in-Passed c = λ ls count at.
    let entries = c.args.entries.now.items in
    let read = subst (IsRead (ls ++ c.args.line.now ∷ []) entries c.args.stage) c.in-Passed.is (c.in_ok-entry.ensures ls entries count at) in
    read.0

pub returns-in-Wrong : goal.returns-in-Wrong
returns-in-Wrong c = λ ls count at.
    let entries = c.args.entries.now.items in
    inr (subst (IsRead (ls ++ c.args.line.now ∷ []) entries c.args.stage) c.in-Wrong.is (c.in_ok-entry.ensures ls entries count at))

use Rattle.std.proofs.Common.{◌++◌, ◌∷◌, [], subst, sym}
use Rattle.sok_entry.specs.Stages.{IsRead}
use Rattle.sok_cert.specs.Parts.{rostered_of}
use Rattle.sok_cert.specs.Rosters.{TellsEntries}
use Rattle.sok_cert.proofs.progress.judge_read.Goals as goal

pub returns-in_ok-enter-in-Listed-clause-judged : goal.returns-in_ok-enter-in-Listed-clause-judged
returns-in_ok-enter-in-Listed-clause-judged c = λ now ls entries tells read.
    let b = c.args.setting.now.board.now in
    let claim = c.in-Listed.claim in
    let entry = c.in-Listed.entry in
    let is = subst (IsRead ls entries now) c.in-Listed.is read in
    let roster = rostered_of c.enter.new.self in
    let told = c.in_ok-enter-in-Listed.ensures.tells entries (tells claim is.0) in (
      entries ++ entry ∷ [],
      record {
        at = is.1;
        tells = λ other may. subst (λ one. TellsEntries b one (entries ++ entry ∷ []) roster.roll roster.fault) (sym (is.2 other may)) told;
      },
    )

pub returns-in-Passed-clause-judged : goal.returns-in-Passed-clause-judged
returns-in-Passed-clause-judged c = λ now ls entries tells read.
    let is = subst (IsRead ls entries now) c.in-Passed.is read in
    (entries, record { at = is.0; tells = λ claim may. tells claim (is.1 claim may) })

pub returns-in-Wrong-clause-judged : goal.returns-in-Wrong-clause-judged
returns-in-Wrong-clause-judged c = λ now ls entries tells read. subst (IsRead ls entries now) c.in-Wrong.is read

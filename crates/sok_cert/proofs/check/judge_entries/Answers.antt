use Rattle.sok_cert.proofs.check.judge_entries.Goals as goal

pub enter_all-judged-requires-clause-none : goal.enter_all-judged-requires-clause-none
enter_all-judged-requires-clause-none c = c.new-roster.ensures.none c.args.claim

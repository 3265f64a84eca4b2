use Rattle.std.proofs.Common.{Ok, Err, rules}
use Rattle.sok_judge.proofs.Checking.{tells}
use Rattle.sok_judge.proofs.check.judged.Goals as goal

pub returns-in_ok-accepted_answer-in-Ok : goal.returns-in_ok-accepted_answer-in-Ok
returns-in_ok-accepted_answer-in-Ok c = λ text stands.
    tells c.args.stream.board text (Ok c.in-Ok.claim) c.in_ok-accepted_answer-in-Ok.field-0 c.in_ok-accepted_answer-in-Ok.ensures (λ same. cc)
    (c.in-Ok.ensures text stands)

pub returns-in_ok-refused_answer-in-Err : goal.returns-in_ok-refused_answer-in-Err
returns-in_ok-refused_answer-in-Err c = λ text stands.
    tells c.args.stream.board text (Err c.in-Err.fault) c.in_ok-refused_answer-in-Err.field-0 c.in_ok-refused_answer-in-Err.ensures (λ same. search rules)
    (c.in-Err.ensures text stands)

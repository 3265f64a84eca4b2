use Rattle.sok_cert.proofs.Closing.{judged-exactly}
use Rattle.sok_cert.proofs.check.check.Goals as goal

pub returns-clause-exact : goal.returns-clause-exact
returns-clause-exact c = judged-exactly c.args.board.now c.args.certificate.now.claim c.args.certificate.now.entries.items c.judged.result c.judged.ensures.closed
    c.judged.ensures.refused

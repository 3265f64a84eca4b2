use Rattle.sok_settle.proofs.Laws.{settled-have-certs, settled-have-verdicts, settlings-are-some, settlings-fold, settlings-keep-truth, settlings-keep-verdicts}
use Rattle.sok_settle.proofs.law.settled_books_are_made_by_commands.Goals as goal

pub returns : goal.returns
returns g c =
    let keeping = g.C.Certs.keeping c.args.certs.now in
    record {
      some = settlings-are-some keeping;
      folded = settlings-fold keeping;
      truth = settlings-keep-truth keeping;
      kept = settlings-keep-verdicts keeping;
      settled = settled-have-verdicts keeping;
      certified = settled-have-certs keeping;
    }

use Rattle.sqlite.specs.Held.{state}
use Rattle.sok_store.proofs.Calls.{stops_same}
use Rattle.sok_store.proofs.Caused.{inside}
use Rattle.sok_store.proofs.adding.add_to.Goals as goal

pub returns-in-Err-clause-runs : goal.returns-in-Err-clause-runs
returns-in-Err-clause-runs g c = record {
  done = tt;
  refused = λ clean book holds. (c.in-Err.ensures.refused book, holds);
  stop = stops_same (state g.S.Store c.args.conn.now) _;
  cause = inside (state g.S.Store c.args.conn.now) (state g.S.Store c.args.conn.now) _ c.in-Err.fault c.in-Err.ensures.inside;
}

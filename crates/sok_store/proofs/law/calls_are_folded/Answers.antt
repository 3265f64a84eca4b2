use Rattle.sqlite.specs.Held.{state}
use Rattle.sok_store.proofs.Histories.{adds-are-calls, calls-fold, empty-books-are-made, gets-are-calls, lists-are-calls, verdicts-are-calls, offers-are-calls, proofs-are-calls, tellings-are-calls}
use Rattle.sok_store.proofs.law.calls_are_folded.Goals as goal

pub returns-clause-adds : goal.returns-clause-adds
returns-clause-adds g c = adds-are-calls (state g.S.Store)

pub returns-clause-offers : goal.returns-clause-offers
returns-clause-offers g c = offers-are-calls (state g.S.Store)

pub returns-clause-tellings : goal.returns-clause-tellings
returns-clause-tellings g c = tellings-are-calls (state g.S.Store)

pub returns-clause-proofs : goal.returns-clause-proofs
returns-clause-proofs g c = proofs-are-calls (state g.S.Store)

pub returns-clause-verdicts : goal.returns-clause-verdicts
returns-clause-verdicts g c = verdicts-are-calls (state g.S.Store)

pub returns-clause-gets : goal.returns-clause-gets
returns-clause-gets g c = gets-are-calls (state g.S.Store)

pub returns-clause-lists : goal.returns-clause-lists
returns-clause-lists g c = lists-are-calls (state g.S.Store)

pub returns-clause-folded : goal.returns-clause-folded
returns-clause-folded g c = calls-fold (state g.S.Store)

pub returns-clause-made : goal.returns-clause-made
returns-clause-made g c = empty-books-are-made

use Rattle.sok_book.proofs.Outcomes.{adds-are-not-refused, offers-are-not-refused, proofs-are-not-refused, solutions-are-not-refused}
use Rattle.sok_book.proofs.law.commands_have_one_outcome.Goals as goal

pub returns-clause-adds : goal.returns-clause-adds
returns-clause-adds c = adds-are-not-refused

pub returns-clause-offers : goal.returns-clause-offers
returns-clause-offers c = offers-are-not-refused

pub returns-clause-proofs : goal.returns-clause-proofs
returns-clause-proofs c = proofs-are-not-refused

pub returns-clause-solutions : goal.returns-clause-solutions
returns-clause-solutions c = solutions-are-not-refused

use Rattle.sok_cert.proofs.OneRefusal.{IsRefused-one, IsRefused-closed}
use Rattle.sok_cert.proofs.law.lists_have_one_judgement.Goals as goal

pub returns-clause-one : goal.returns-clause-one
returns-clause-one c = IsRefused-one

pub returns-clause-closed : goal.returns-clause-closed
returns-clause-closed c = IsRefused-closed

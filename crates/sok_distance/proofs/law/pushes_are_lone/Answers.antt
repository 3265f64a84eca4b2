use Rattle.sok_distance.proofs.Pushes.{pushes-alone, pushes-known}
use Rattle.sok_distance.proofs.law.pushes_are_lone.Goals as goal

pub returns-clause-alone : goal.returns-clause-alone
returns-clause-alone c = pushes-alone

pub returns-clause-known : goal.returns-clause-known
returns-clause-known c = pushes-known

use Rattle.sok_board.proofs.OneRefusal.{IsRefused-one, IsRefused-acceptable, IsAccepted-one}
use Rattle.sok_board.proofs.law.levels_have_one_refusal.Goals as goal

pub returns-clause-one : goal.returns-clause-one
returns-clause-one c = IsRefused-one

pub returns-clause-accepted : goal.returns-clause-accepted
returns-clause-accepted c = IsRefused-acceptable

pub returns-clause-area : goal.returns-clause-area
returns-clause-area c = IsAccepted-one

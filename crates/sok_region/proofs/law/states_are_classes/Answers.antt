use Rattle.sok_rules.proofs.Walking.{Same-trans, Same-sym}
use Rattle.sok_board.proofs.Inside.{InArea-open}
use Rattle.sok_region.proofs.law.states_are_classes.Goals as goal

pub returns-clause-transitive : goal.returns-clause-transitive
returns-clause-transitive c = Same-trans

pub returns-clause-symmetric : goal.returns-clause-symmetric
returns-clause-symmetric c = λ rows proper x y inside free. Same-sym rows x y (record { on_open = InArea-open rows proper x.man inside; no_box = free })

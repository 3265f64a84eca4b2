use Rattle.std.proofs.Common.{List, subst, sym, ℕ}
use Rattle.sok_lift.specs.Numbers.{AreLifts}
use Rattle.sok_lift.proofs.Held.{AreLifts-none}
use Rattle.sok_lift.proofs.lifts.Lifts.none.Goals as goal

pub returns : goal.returns
returns c = λ b area. subst (λ (numbers : List ℕ). AreLifts b (record { squares = 0; numbers = numbers })) (sym c.new.ensures.items) (AreLifts-none b area 0)

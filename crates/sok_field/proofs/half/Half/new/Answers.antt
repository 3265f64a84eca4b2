use Rattle.std.proofs.Common.{refl, sym, ◌∙◌, arith, true≢false}
use Rattle.sok_field.proofs.OneSquare.{has-zeros}
use Rattle.sok_field.proofs.half.Half.new.Goals as goal

pub invariant_of-result : goal.invariant_of-result
invariant_of-result c = record { within = omega arith; below = λ s e. absurd (true≢false (sym e ∙ has-zeros 128 _ refl s)) }

pub returns : goal.returns
returns c = has-zeros 128 _ refl

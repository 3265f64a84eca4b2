use Rattle.sok_field.proofs.Drawings.{joins-numbers, joins-inside, first-is-least}
use Rattle.sok_field.proofs.law.bits_follow_numbers.Goals as goal

pub returns : goal.returns
returns c = record { joined = joins-numbers; inside = joins-inside; first = first-is-least }

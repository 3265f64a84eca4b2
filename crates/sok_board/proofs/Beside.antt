-- Squares beside one another, by their numbers.
use Rattle.std.proofs.Common.{ℕ, ◌≡◌, ◌<◌, ap, ◌∙◌, Some, length}
use Rattle.std.proofs.lemmas.Option.{option_and_then_some}
use Rattle.std.specs.Option.{option_and_then}
use Rattle.sok_rules.specs.declared.cell.Dir.{Dir}
use Rattle.sok_rules.specs.declared.cell.Spot.{Spot}
use Rattle.sok_rules.specs.Squares.{next, opposite}
use Rattle.sok_rules.proofs.Spots.{next-opposite}
use Rattle.sok_board.specs.Area.{BoardView, IsArea, spot_of, number_of, beside}
use Rattle.sok_board.proofs.AreaLaws.{spot_of-number_of, number_of-spot_of}

-- the square beside a numbered one, where it is of the area
pub beside-is : (b : BoardView) (d : Dir) (n : ℕ) (s t : Spot) (m : ℕ) → spot_of b n ≡ s → next d s ≡ Some t → number_of b t ≡ Some m → beside b n d ≡ Some m
beside-is b d n s t m there ahead number = ap (λ u. option_and_then (number_of b) (next d u)) there ∙ ap (option_and_then (number_of b)) ahead ∙ number

pub beside-within : (b : BoardView) (d : Dir) (n m : ℕ) → beside b n d ≡ Some m → m < length b.area
beside-within b d n m is = option_and_then_some (number_of b) (next d (spot_of b n)) m is (λ u ahead number. (spot_of-number_of b u m number).0)

-- a step back leads to where it came from
pub beside-back : (b : BoardView) → IsArea b.rows b.area → (d : Dir) (n m : ℕ) → n < length b.area → beside b n d ≡ Some m → beside b m (opposite d) ≡ Some n
beside-back b area d n m within is = option_and_then_some (number_of b) (next d (spot_of b n)) m is (λ u ahead number.
    beside-is b (opposite d) m u (spot_of b n) n (spot_of-number_of b u m number).1 (next-opposite d (spot_of b n) u ahead) (number_of-spot_of b area n within))

-- Weak duality: prices bound the pushes of every list that solves, since it carries each box to a goal of its own; and they fall by at most one a push.
use Rattle.sok_price.proofs.Words.{ℕ, ◌≡◌, ◌≤◌, ◌+◌, List, Some, arith, sum, Dir, Position, SolvesFrom, pushes, run, BoardView, IsArea, IsAssignment, Priced}
use Rattle.sok_price.proofs.{AssignmentLaws.AtLeast-IsCarrying, CarriedLaws.Stands, CarriedLaws.carried, CarriedLaws.carried_to}

-- what prices bound, whatever list solves
pub AtLeast-Priced : (b : BoardView) → IsArea b.rows b.area → (x : Position) (ns u v : List ℕ) (n : ℕ) → Stands b x ns → Priced b ns u v n → (w : List Dir)
    → SolvesFrom b.rows x w → n ≤ pushes b.rows x w
AtLeast-Priced b area x ns u v n stands priced w solves =
    let ends = carried b area w x ns stands solves in
    let bound = AtLeast-IsCarrying b ns u v ends.goal_of ends.lengths n priced ends.carrying in
    omega (arith, bound, ends.total)

-- what prices prove where letters begin, an assignment costs where they end, with their pushes
pub AtLeast-run : (b : BoardView) → IsArea b.rows b.area → (x y : Position) (ns u v : List ℕ) (n : ℕ) → Stands b x ns → Priced b ns u v n → (w : List Dir)
    → run b.rows x w ≡ Some y → (ms goal_of distances : List ℕ) → Stands b y ms → IsAssignment b ms goal_of distances
    → n ≤ pushes b.rows x w + sum distances
AtLeast-run b area x y ns u v n stands priced w leads ms goal_of distances ends assignment =
    let goes = carried_to b area w x y ns ms goal_of distances stands leads ends assignment in
    let bound = AtLeast-IsCarrying b ns u v goes.goal_of goes.lengths n priced goes.carrying in
    omega (arith, bound, goes.total)

-- Prices bound the cost of every assignment.
use Rattle.sok_price.proofs.Words.{ℕ, ◌≡◌, ◌≢◌, ◌≤◌, ◌<◌, List, All, AllPairs, arith, length, get_or, sum, slice_get-get_or, BoardView, goals_of, goal_at, Chain}
use Rattle.sok_price.proofs.Words.{Priced, IsAssignment}
use Rattle.sok_price.proofs.Places.{prices_of-le, sum-along}

-- a goal of its own for each box, by the goals' indices, and a chain to it, by its length
pub record IsCarrying (b : BoardView) (boxes goal_of lengths : List ℕ) : Type 0 where
  pub a_goal_a_box : length goal_of ≡ length boxes
  pub a_length_a_box : length lengths ≡ length boxes
  pub exist : All (λ goal. goal < length (goals_of b)) goal_of
  pub apart : AllPairs ◌≢◌ goal_of
  pub chain : (i : ℕ) → i < length boxes → Chain b (get_or boxes i 0) (goal_at b (get_or goal_of i 0)) (get_or lengths i 0)

pub AtLeast-IsCarrying : (b : BoardView) (boxes u v goal_of lengths : List ℕ) (n : ℕ) → Priced b boxes u v n → IsCarrying b boxes goal_of lengths
    → n ≤ sum lengths
AtLeast-IsCarrying b boxes u v goal_of lengths n priced carrying =
    let exist : All (λ goal. goal < length v) goal_of = λ k d within. let here = carrying.exist k d within in omega (arith, here, priced.a_price_a_goal) in
    let along = (sum-along u v goal_of lengths (omega (arith, priced.a_price_a_box, carrying.a_goal_a_box))
    (omega (arith, priced.a_price_a_box, carrying.a_length_a_box)) (λ i within.
    let inside : i < length boxes = omega (arith, within, priced.a_price_a_box) in
    let goal = get_or goal_of i 0 in
    let there : goal < length (goals_of b) = carrying.exist i 0 (omega (arith, inside, carrying.a_goal_a_box)) in
    priced.fair i goal (get_or boxes i 0) (get_or (goals_of b) goal 0) (get_or lengths i 0) (slice_get-get_or boxes i 0 inside)
    (slice_get-get_or (goals_of b) goal 0 there) (carrying.chain i inside))).0 in
    omega (arith, along, prices_of-le goal_of v carrying.apart exist, priced.enough)

-- an assignment carries, by its distances
pub IsCarrying-IsAssignment : (b : BoardView) (boxes goal_of distances : List ℕ) → IsAssignment b boxes goal_of distances → IsCarrying b boxes goal_of distances
IsCarrying-IsAssignment b boxes goal_of distances assignment = record {
  a_goal_a_box = assignment.a_goal_a_box;
  a_length_a_box = assignment.a_distance_a_box;
  exist = assignment.exist;
  apart = assignment.apart;
  chain = λ i within. (assignment.exact i within).0;
}

pub AtLeast-IsAssignment : (b : BoardView) (boxes u v goal_of distances : List ℕ) (n : ℕ) → Priced b boxes u v n → IsAssignment b boxes goal_of distances
    → n ≤ sum distances
AtLeast-IsAssignment b boxes u v goal_of distances n priced assignment =
    AtLeast-IsCarrying b boxes u v goal_of distances n priced (IsCarrying-IsAssignment b boxes goal_of distances assignment)

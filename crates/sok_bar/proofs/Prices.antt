-- Fair prices, by distances and by chains of lone pushes.
use Rattle.std.proofs.Common.{ℕ, ◌≡◌, ◌≤◌, ◌<◌, ◌+◌, refl, sym, subst, List, true, arith, length, nat_le, IsTrue, get_or, sum, ◌↔◌}
use Rattle.std.specs.List.{range_with_len}
use Rattle.std.proofs.lemmas.Bool.Decides.{nat_tests}
use Rattle.std.proofs.lemmas.List.FromFn.{length-range_with_len}
use Rattle.std.proofs.lemmas.List.Sums.{length-filter, count_by-le-length}
use Rattle.std.proofs.lemmas.Option.{slice_get-get_or, slice_get_within, get_or_from_slice_get}
use Rattle.sok_rules.specs.Squares.{holds, is_goal}
use Rattle.sok_board.specs.Area.{BoardView, IsAccepted, goals_of, spot_of}
use Rattle.sok_board.specs.Limits.{square_limit}
use Rattle.sok_distance.specs.Pushing.{Chain, IsDistance}
use Rattle.sok_distance.specs.Distances.{goal_at}
use Rattle.sok_price.specs.Prices.{Priced}
use Rattle.sok_bar.specs.Fair.{IsAffordable, AreFair}

le_from_test : (x y : ℕ) → nat_le x y ≡ true → x ≤ y
le_from_test x y e = grind (arith, nat_tests, e)

test_from_le : (x y : ℕ) → x ≤ y → nat_le x y ≡ true
test_from_le x y h = grind (arith, nat_tests, h)

-- the least number of pushes decides
pub affordable_at : (b : BoardView) (square price goal goal_price d : ℕ) → IsDistance b (goal_at b goal) square d
    → IsTrue (nat_le price (goal_price + d)) ↔ IsAffordable b square price goal goal_price
affordable_at b square price goal goal_price d (chain, least) = (
  (λ yes. record { cheap = λ pushes more. let bound = le_from_test price (goal_price + d) yes in let low = least pushes more in omega (arith, bound, low) }),
  λ cheap. test_from_le price (goal_price + d) (cheap.cheap d chain),
)

pub affordable_nowhere : (b : BoardView) (square price goal goal_price : ℕ) → ((n : ℕ) → Chain b square (goal_at b goal) n → ⊥)
    → IsTrue true ↔ IsAffordable b square price goal goal_price
affordable_nowhere b square price goal goal_price none = ((λ _. record { cheap = λ pushes chain. absurd (none pushes chain) }), λ _. refl)

-- a board has no more goals than squares
pub few_goals : (b : BoardView) → IsAccepted b → length (goals_of b) ≤ square_limit
few_goals b accepted =
    let chosen = length-filter (λ n. holds is_goal b.rows (spot_of b n)) (range_with_len 0 (length b.area)) in
    let fewer = count_by-le-length (λ n. holds is_goal b.rows (spot_of b n)) (range_with_len 0 (length b.area)) in
    let all = length-range_with_len 0 (length b.area) in
    let few = accepted.few_squares in
    omega (arith, chosen, fewer, all, few)

-- fair prices that leave enough
pub Priced-fair : (b : BoardView) (boxes u v : List ℕ) (n : ℕ) → length u ≡ length boxes → length v ≡ length (goals_of b) → AreFair b boxes u v
    → n + sum v ≤ sum u → Priced b boxes u v n
Priced-fair b boxes u v n a_box a_goal fair enough = record {
  a_price_a_box = a_box;
  a_price_a_goal = a_goal;
  fair = λ i j x g d at_i at_j chain.
      let here : get_or boxes i 0 ≡ x = get_or_from_slice_get boxes i x 0 at_i in
      let there : goal_at b j ≡ g = get_or_from_slice_get (goals_of b) j g 0 at_j in
      let inside : i < length boxes = slice_get_within boxes i x at_i in
      let within : j < length v = let exists = slice_get_within (goals_of b) j g at_j in omega (arith, exists, a_goal) in
      ((fair.each i inside).each j within).cheap d (subst (λ h. Chain b (get_or boxes i 0) h d) (sym there) (subst (λ s. Chain b s g d) (sym here) chain));
  enough = enough;
}

pub AreFair-Priced : (b : BoardView) (boxes u v : List ℕ) (n : ℕ) → Priced b boxes u v n → AreFair b boxes u v
AreFair-Priced b boxes u v n priced = record {
  each = λ place inside. record {
    each = λ goal within. record {
      cheap = λ pushes chain.
          let exists : goal < length (goals_of b) = let a_goal = priced.a_price_a_goal in omega (arith, within, a_goal) in
          priced.fair place goal (get_or boxes place 0) (goal_at b goal) pushes (slice_get-get_or boxes place 0 inside)
          (slice_get-get_or (goals_of b) goal 0 exists) chain;
    };
  };
}

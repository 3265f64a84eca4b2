-- Lifts raise what prices show: a push lowers the price of its box by one, less what it wastes, and the lifts of pairs by no more than that.
use Rattle.std.proofs.lemmas.Option.{option_and_then_some}
use Rattle.sok_rules.proofs.{Runs.pushes-append, Runs.run-append, Runs.solves_on, Steps.IsStanding-step, Walking.Same-refl}
use Rattle.sok_rules.specs.Squares.{Rows, opposite}
use Rattle.sok_rules.specs.Play.{AtLeastFrom}
use Rattle.sok_board.specs.Area.{beside}
use Rattle.sok_board.proofs.{AreaLaws.number-InArea, AreaLaws.number_of-spot_of, AreaLaws.same_number, Beside.beside-is}
use Rattle.sok_price.proofs.Words.{ℕ, ◌≡◌, ◌≤◌, ◌<◌, ◌+◌, ◌-◌, ◌∙◌, inl, inr, refl, sym, ap, subst, Bool, List, [], ◌∷◌, ◌++◌, Some, IsSomeAnd, true, false}
use Rattle.sok_price.proofs.Words.{true≢false, Contains, arith, length, get_or, map, set, sum, option_and_then, option_map_or, cases_Bool, cases_lt}
use Rattle.sok_price.proofs.Words.{false_from_ne_true, or_from, or_left, length-set, Contains-get_or, Dir, Position, After, next, step, run, pushes, one_if}
use Rattle.sok_price.proofs.Words.{AllOnGoals, SolvesFrom, push_step, walk_step, BoardView, IsArea, spot_of, position_of, goals_of, is_among, is_decoration}
use Rattle.sok_price.proofs.Words.{ArePlaced, Contains-goals_of, among_numbers, lone_push, Priced}
use Rattle.sok_price.proofs.{CarriedLaws.Stands, CarriedLaws.no_decoration, CarriedLaws.place_at, CarriedLaws.stands_push, CarriedLaws.stands_walk}
use Rattle.sok_price.proofs.{DualityLaws.AtLeast-Priced, States.stands_same}
use Rattle.sok_lift.proofs.Lifting.{AreSpread, IsPushAt, lifts_pushed, lifts_solved, lifts_walked}
use Rattle.sok_lift.proofs.Wasting.{AreFairPrices, fair_lowered, lowered, sum_lowered}
use Rattle.sok_price.proofs.Words.{get_or-replicate, length-replicate, replicate, slice_get_within, sum_by-cons, sum_by-replicate}
use Rattle.sok_lift.specs.Lifts.{ArePairs, HasLifts, IsLift, LiftsRaisePrices, LostPairsNeverSolve, lift_of, lifts}

-- ---- what letters do to positions

-- a lone push goes to the square beside
lone_push-beside : (b : BoardView) (d : Dir) (s t : ℕ) → lone_push b d s ≡ Some t → beside b s d ≡ Some t
lone_push-beside b d s t goes = option_and_then_some (λ _. beside b s d) (beside b s (opposite d)) t goes (λ k behind ahead. ahead)

-- the position has its boxes on these squares and its player on that one, each on its own
pub record StandsAt (b : BoardView) (q : ℕ) (x : Position) (ns : List ℕ) : Type 0 where
  pub stands : Stands b x ns
  pub exists : q < length b.area
  pub there : spot_of b q ≡ x.man
  pub no_box : x.boxes x.man ≡ false

-- so they are apart by their numbers
spread_at : (b : BoardView) (q : ℕ) (x : Position) (ns : List ℕ) → StandsAt b q x ns → AreSpread b q ns
spread_at b q x ns at = record {
  player_exists = at.exists;
  within = at.stands.within;
  apart = at.stands.apart;
  free = λ i inside same.
      let among = among_numbers b ns q (subst (Contains ns) (sym same) (Contains-get_or ns i 0 inside)) in
      let box : x.boxes (spot_of b q) ≡ true = ap (λ g. g (spot_of b q)) at.stands.boxes
      ∙ or_left (is_among (map (spot_of b) ns) (spot_of b q)) (is_decoration b (spot_of b q)) among in
      true≢false (sym box ∙ ap x.boxes at.there ∙ at.no_box);
}

module _ (b : BoardView) (area : IsArea b.rows b.area) where
  -- a square of the area beside the player's, by its number
  ahead_at : (d : Dir) (q r : ℕ) (x : Position) → r < length b.area → spot_of b q ≡ x.man → next d x.man ≡ Some (spot_of b r) → beside b q d ≡ Some r
  ahead_at d q r x exists there ahead = beside-is b d q x.man (spot_of b r) r there ahead (number_of-spot_of b area r exists)

  -- a letter without a push
  pub record WalkedAt (d : Dir) (q : ℕ) (ns : List ℕ) (y : Position) : Type 0 where
    pub to : ℕ
    pub ahead : beside b q d ≡ Some to
    pub at : StandsAt b to y ns

  -- where it leads, by the number of the square
  walked_at : (d : Dir) (q : ℕ) (x : Position) (ns : List ℕ) (a : After) → StandsAt b q x ns → step b.rows d x ≡ Some a → a.pushed ≡ false
      → WalkedAt d q ns a.position
  walked_at d q x ns a at steps quiet =
      let walk = walk_step b.rows d x a steps quiet in
      let stands = stands_walk b d x ns a at.stands steps quiet in
      let (r, _, exists, there) = number-InArea b area a.position.man stands.man in
      let man : a.position.man ≡ walk.to = ap (λ (y : After). y.position.man) walk.leads in
      record {
        to = r;
        ahead = ahead_at d q r x exists at.there (walk.ahead ∙ ap Some (sym (there ∙ man)));
        at = record { stands = stands; exists = exists; there = there; no_box = (IsStanding-step b.rows d x a steps).no_box };
      }

  -- a letter with a push
  pub record PushedAt (d : Dir) (q : ℕ) (ns : List ℕ) (y : Position) : Type 0 where
    pub place : ℕ
    pub to : ℕ
    pub push : IsPushAt b d q ns place to
    pub at : StandsAt b (get_or ns place 0) y (set ns place to)

  -- which box it moves, and where to
  pushed_at : (d : Dir) (q : ℕ) (x : Position) (ns : List ℕ) (a : After) → StandsAt b q x ns → step b.rows d x ≡ Some a → a.pushed ≡ true
      → PushedAt d q ns a.position
  pushed_at d q x ns a at steps pushed =
      let push = stands_push b area d x ns a at.stands (push_step b.rows d x a steps pushed) in
      let k = push.place in
      let exists = at.stands.within k 0 push.within in
      let after : StandsAt b (get_or ns k 0) a.position (set ns k push.to) = record {
        stands = push.stands;
        exists = exists;
        there = push.man;
        no_box = (IsStanding-step b.rows d x a steps).no_box;
      } in
      record {
        place = k;
        to = push.to;
        push = record {
          inside = push.within;
          ahead = ahead_at d q (get_or ns k 0) x exists at.there push.ahead;
          beyond = lone_push-beside b d (get_or ns k 0) push.to push.goes;
          goes = push.goes;
          before = spread_at b q x ns at;
          after = spread_at b (get_or ns k 0) a.position (set ns k push.to) after;
        };
        at = after;
      }

-- ---- what prices and lifts show

-- the letters after the first are as many pushes, but for its own
pushes-step : (rows : Rows) (d : Dir) (w : List Dir) (x : Position) (a : After) (pushed : Bool) → step rows d x ≡ Some a → a.pushed ≡ pushed
    → pushes rows x (d ∷ w) ≡ one_if pushed + pushes rows a.position w
pushes-step rows d w x a pushed steps is =
    ap (λ o. option_map_or (λ (after : After). one_if after.pushed + pushes rows after.position w) o 0) steps
    ∙ ap (λ p. one_if p + pushes rows a.position w) is

module _ (b : BoardView) (area : IsArea b.rows b.area) where
  -- boxes that all stand on goals have no prices above those of goals
  fair_solved : (x : Position) (ns u v : List ℕ) → Stands b x ns → AreFairPrices b ns u v → AllOnGoals b.rows x → sum u ≤ sum v
  fair_solved x ns u v stands fair solved = elim (cases_lt (sum v) (sum u)) [
    | inr less ↦ less
    | inl more ↦
        let none = AtLeast-Priced b area x ns u v (sum u - sum v) stands (record {
          a_price_a_box = fair.a_price_a_box;
          a_price_a_goal = fair.a_price_a_goal;
          fair = fair.fair;
          enough = omega (arith, more);
        }) [] solved in
        omega (arith, none)
  ]

  -- each box of a solved position stands on a goal
  on_goals : (x : Position) (ns : List ℕ) → Stands b x ns → AllOnGoals b.rows x → (i : ℕ) → i < length ns → Contains (goals_of b) (get_or ns i 0)
  on_goals x ns stands solved i within =
      let s = spot_of b (get_or ns i 0) in
      let among = among_numbers b ns (get_or ns i 0) (Contains-get_or ns i 0 within) in
      let there = ap (λ g. g s) stands.boxes ∙ or_left (is_among (map (spot_of b) ns) s) (is_decoration b s) among in
      Contains-goals_of b (get_or ns i 0) (stands.within i 0 within) (solved s there)

  module _ (f : ℕ → ℕ → ℕ → ℕ) (lift : IsLift b f) (pairs : List (ℕ × ℕ)) (v : List ℕ) where
    -- fair prices of the boxes and the lifts of pairs together are no more than the prices of the goals and the pushes of a list that solves
    lifted : (w : List Dir) (q : ℕ) (x : Position) (ns u : List ℕ) → StandsAt b q x ns → ArePairs (length ns) pairs → AreFairPrices b ns u v
        → SolvesFrom b.rows x w → sum u + lifts f q ns pairs ≤ sum v + pushes b.rows x w
    lifted [] q x ns u at are fair solves =
        let none = lifts_solved b f lift q ns pairs (spread_at b q x ns at) (on_goals x ns at.stands solves) are in
        let less = fair_solved x ns u v at.stands fair solves in
        omega (arith, none, less)
    lifted (d ∷ w) q x ns u at are fair solves = solves_on b.rows d w x solves (λ a steps rest. elim (cases_Bool a.pushed) [
      | inr quiet ↦
          let walk = walked_at b area d q x ns a at steps quiet in
          let here = lifts_walked b f lift d q walk.to ns pairs (spread_at b q x ns at) (spread_at b walk.to a.position ns walk.at) walk.ahead are in
          let later = lifted w walk.to a.position ns u walk.at are fair rest in
          omega (arith, here, later, pushes-step b.rows d w x a false steps quiet)
      | inl pushed ↦
          let is = pushed_at b area d q x ns a at steps pushed in
          let k = is.place in
          let inside = is.push.inside in
          let here = lifts_pushed b f lift d q ns k is.to pairs is.push are in
          let room : k < length u = omega (arith, inside, fair.a_price_a_box) in
          let prices = fair_lowered b ns u v k is.to here.waste inside fair here.wastes in
          let later = lifted w (get_or ns k 0) a.position (set ns k is.to) (lowered u k here.waste) is.at
          (subst (λ n. ArePairs n pairs) (sym (length-set ns k is.to)) are) prices rest in
          omega (arith, here.lowers, sum_lowered u k here.waste room, later, pushes-step b.rows d w x a true steps pushed)
    ])

  -- what prices show is raised by lifts, at a position and from where the player stands
  pub AtLeast-lifted : (q : ℕ) (x : Position) (ns u v : List ℕ) (n : ℕ) (f : ℕ → ℕ → ℕ → ℕ) (pairs : List (ℕ × ℕ)) → StandsAt b q x ns → Priced b ns u v n
      → IsLift b f → ArePairs (length ns) pairs → AtLeastFrom b.rows x (n + lifts f q ns pairs)
  AtLeast-lifted q x ns u v n f pairs at priced lift are w solves =
      let fair : AreFairPrices b ns u v = record { a_price_a_box = priced.a_price_a_box; a_price_a_goal = priced.a_price_a_goal; fair = priced.fair } in
      let all = lifted f lift pairs v w q x ns u at are fair solves in
      omega (arith, all, priced.enough)

  -- the position for which a player and boxes stand, each on its own square
  stands_placed : (player : ℕ) (boxes : List ℕ) → ArePlaced b player boxes → (Contains boxes player → ⊥) → StandsAt b player (position_of b player boxes) boxes
  stands_placed player boxes placed free =
      let s = spot_of b player in
      let gone : is_among (map (spot_of b) boxes) s ≡ false = false_from_ne_true (is_among (map (spot_of b) boxes) s) (λ among.
      let (k, within, is) = place_at b boxes s among in
      let same = same_number b area (get_or boxes k 0) player (placed.boxes_exist k 0 within) placed.player_exists is in
      free (subst (Contains boxes) same (Contains-get_or boxes k 0 within))) in
      record {
        stands = stands_same b area player boxes placed (position_of b player boxes) (Same-refl b.rows (position_of b player boxes));
        exists = placed.player_exists;
        there = refl;
        no_box = or_from (is_among (map (spot_of b) boxes) s) (is_decoration b s) gone (no_decoration b area player placed.player_exists);
      }

  -- and at each position of the state
  pub AtLeast-lifted_same : LiftsRaisePrices b
  AtLeast-lifted_same player boxes u v n more f placed free priced lift has x (walk, leads, quiet) w solves =
      let from = position_of b player boxes in
      let on = subst (λ o. IsSomeAnd o (AllOnGoals b.rows)) (sym (run-append b.rows walk w from ∙ ap (option_and_then (λ y. run b.rows y w)) leads)) solves in
      let all = AtLeast-lifted player from boxes u v n f has.pairs (stands_placed player boxes placed free) priced lift has.are (walk ++ w) on in
      let joined = pushes-append b.rows walk w from x leads in
      let total = has.total in
      omega (arith, all, joined, quiet, total)

-- prices that show nothing
Priced-none : (b : BoardView) (boxes : List ℕ) → Priced b boxes (replicate (length boxes) 0) (replicate (length (goals_of b)) 0) 0
Priced-none b boxes = record {
  a_price_a_box = length-replicate {A = ℕ} (length boxes) 0;
  a_price_a_goal = length-replicate {A = ℕ} (length (goals_of b)) 0;
  fair = λ i j x g d box goal chain.
      let none = get_or-replicate {A = ℕ} (length boxes) i 0 0 (slice_get_within boxes i x box) in
      omega (arith, none);
  enough = let none = sum_by-replicate (λ (n : ℕ). n) (length (goals_of b)) 0 in omega (arith, none);
}

-- boxes that are lost would need more pushes than any list makes
pub Never-lifted : (b : BoardView) → IsArea b.rows b.area → LostPairsNeverSolve b
Never-lifted b area player boxes p placed free lost x same w solves =
    let (f, lift, enough) = lost.each (pushes b.rows x w + 1) in
    let has : HasLifts f player boxes (pushes b.rows x w + 1) = record {
      pairs = p ∷ [];
      are = lost.are;
      total = let one = sum_by-cons (lift_of f player boxes) p [] in omega (arith, one, enough);
    } in
    let all = AtLeast-lifted_same b area player boxes (replicate (length boxes) 0) (replicate (length (goals_of b)) 0) 0 (pushes b.rows x w + 1) f placed free
    (Priced-none b boxes) lift has x same w solves in
    omega (arith, all)

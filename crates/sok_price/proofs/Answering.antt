-- What a search for all boxes answers, in the words of the board: prices with an assignment, or a crowd.
use Rattle.sok_price.proofs.Words.{ℕ, ◌≡◌, ◌≢◌, ◌<◌, ◌≤◌, ◌+◌, ◌-◌, ◌∙◌, inl, inr, refl, sym, ap, subst, List, AllPairs, Contains, Option, Some, None, Bool}
use Rattle.sok_price.proofs.Words.{true, arith, length, get_or, map, drop, filter, range_with_len, cases_Bool, slice_get_within, get_or_from_slice_get}
use Rattle.sok_price.proofs.Words.{get_or_default, get_or-drop, get_or-map, length-drop, length-map, All-from_get_or, get_or-range_with_len}
use Rattle.sok_price.proofs.Words.{length-range_with_len, BoardView, goals_of, Contains-filter, Contains-from_filter, below-chosen, rising-chosen, goal_at}
use Rattle.sok_price.proofs.Words.{Chain, TellsDistance, Branch, TellCosts, Costing, low, IsCrowd, Growth, IsSeen, ReachesNoOther, branch_at, is_marked, is_met}
use Rattle.sok_price.proofs.Words.{All, sum, sum_by-le, Match, Prices, Crowd, PathSearch, ArePrices, HasPrices, IsMatch, AreFair, IsAssignment, Priced, IsReady}
use Rattle.sok_price.proofs.Words.{members_of, Costs, cost_of, growth_of, HasWorth, IsWhole, square_limit}
use Rattle.sok_price.proofs.{Branching.box-at, Branching.boxes_of, Branching.boxes-apart, Branching.branch-met, Branching.few-branches}
use Rattle.sok_price.proofs.{Branching.length-boxes_of, Branching.met-branch, Branching.no_branch, Branching.price-at, Branching.member-within}
use Rattle.sok_price.proofs.{CostRows.AreShort-costs, CostRows.short-some, Places.Contains-map, Places.pigeonhole, Places.listed, Places.prices_of-all}
use Rattle.sok_price.proofs.{Places.sum-along, AssignmentLaws.IsCarrying-IsAssignment, CrowdLaws.Excludes-IsCrowd}

chain-some : (b : BoardView) (goal square d : ℕ) (cost : Option ℕ) → TellsDistance b goal square cost → Chain b square goal d → (pushes : ℕ) ×
    (cost ≡ Some pushes)
chain-some b goal square d None tells chain = absurd (tells d chain)
chain-some b goal square d (Some pushes) tells chain = (pushes, refl)

-- a number that passes a test is chosen
chosen-at : (met : ℕ → Bool) (n i : ℕ) → i < n → met i ≡ true → Contains (filter met (range_with_len 0 n)) i
chosen-at met n i within passes =
    let here : i < length (range_with_len 0 n) = omega (arith, within, length-range_with_len 0 n) in
    Contains-filter met (range_with_len 0 n) i (i, here, omega (arith, get_or-range_with_len 0 n i i within)) passes

-- different rows of chosen numbers are no more than these
few-chosen : (met : ℕ → Bool) (row : ℕ → ℕ) (rows : List ℕ) (n : ℕ) → AllPairs ◌≢◌ rows
    → ((at : ℕ) → at < length rows → (i : ℕ) × (i < n) × (row i ≡ get_or rows at 0) × (met i ≡ true)) → length rows ≤ length (filter met (range_with_len 0 n))
few-chosen met row rows n apart own =
    let chosen : List ℕ = filter met (range_with_len 0 n) in
    let most = pigeonhole rows (map row chosen) apart (All-from_get_or (Contains (map row chosen)) rows 0 (λ at within.
    let (i, i_in, i_is, passes) = own at within in
    subst (Contains (map row chosen)) i_is (Contains-map row chosen i (chosen-at met n i i_in passes)))) in
    omega (arith, most, length-map chosen row)

-- the goals of a tree, one fewer than its boxes
abbrev tree_goals : List Branch → List ℕ
tree_goals branches = map (λ (b : Branch). b.goal) (drop 1 branches)

length-tree_goals : (branches : List Branch) → length (tree_goals branches) ≡ length branches - 1
length-tree_goals branches = length-map (drop 1 branches) (λ (b : Branch). b.goal) ∙ length-drop 1 branches

module _ {cost : Costing} {members goals : ℕ} {g : Growth} (growing : IsSeen cost members goals g) (closed : ReachesNoOther g) where
  -- a goal that a box of the tree reaches is one of the tree
  goal-closed : (at goal pushes : ℕ) → at < length g.branches → goal < goals → cost (branch_at g.branches at).member goal ≡ Some pushes → pushes ≤ square_limit
      → Contains (tree_goals g.branches) goal
  goal-closed at goal pushes within inside way short = elim (cases_Bool (is_marked g.taken goal)) [
    | inl taken ↦
        let (to, later, to_within, is) = growing.taken.of goal taken in
        let place : to - 1 < length (drop 1 g.branches) = omega (arith, length-drop 1 g.branches, later, to_within) in
        let next : 1 + (to - 1) ≡ to = omega (arith, later) in (
          to - 1,
          omega (arith, place, length-map (drop 1 g.branches) (λ (b : Branch). b.goal)),
          get_or-map (λ (b : Branch). b.goal) (drop 1 g.branches) (to - 1) no_branch goal place
              ∙ ap (λ (b : Branch). b.goal) (get_or-drop 1 g.branches (to - 1) no_branch ∙ ap (branch_at g.branches) next) ∙ is,
        )
    | inr free ↦
        let bound = growing.bounds at goal within within inside free pushes way in
        let far = closed goal (omega (arith, inside, growing.matched.a_price_a_goal)) free in
        let price = price-at (low members g.floor) g.v goal growing.low.goals in
        let few = few-branches g.goal_of g.branches members growing.tree growing.more in
        let close = growing.rises.close 0 at growing.tree.some within in
        absurd (omega (arith, bound, far, close, growing.rises.root, price, few, growing.few, growing.bounded, short))
  ]

  -- no box of the tree reaches all goals for nothing, where there are as many boxes as goals: all goals would be of the tree
  pub none-free : (at : ℕ) → at < length g.branches → members ≡ goals
      → ((goal : ℕ) → goal < goals → cost (branch_at g.branches at).member goal ≡ Some 0) → ⊥
  none-free at within square free =
      let all = range_with_len 0 goals in
      let long = length-range_with_len 0 goals in
      let apart : AllPairs ◌≢◌ all = λ i j d before inside same.
      grind (arith, same, before, inside, long, get_or-range_with_len 0 goals i d, get_or-range_with_len 0 goals j d) in
      let most = pigeonhole all (tree_goals g.branches) apart (All-from_get_or (Contains (tree_goals g.branches)) all 0 (λ i inside.
      let here = get_or-range_with_len 0 goals i 0 (omega (arith, inside, long)) in
      let below : get_or all i 0 < goals = omega (arith, here, inside, long) in
      goal-closed at (get_or all i 0) 0 within below (free (get_or all i 0) below) (omega arith))) in
      omega (arith, most, long, length-tree_goals g.branches, few-branches g.goal_of g.branches members growing.tree growing.more, square, growing.tree.some)

  -- the boxes whose rows are in the tree, where each row of the tree is that of a box
  pub IsCrowd-closed : (b : BoardView) (boxes : List ℕ) (row : ℕ → ℕ) → goals ≡ length (goals_of b) → TellCosts b boxes goals (λ i goal. cost (row i) goal)
      → ((at : ℕ) → at < length g.branches → (i : ℕ) × (i < length boxes) × (row i ≡ (branch_at g.branches at).member))
      → IsCrowd b boxes (filter (λ i. is_met g.branches (row i)) (range_with_len 0 (length boxes)))
  IsCrowd-closed b boxes row goals_are told own =
      let n = length boxes in
      let met = λ (i : ℕ). is_met g.branches (row i) in
      record {
        listed = record { rising = rising-chosen met n; within = below-chosen met n };
        goals = map (goal_at b) (tree_goals g.branches);
        all_reached = λ x goal d (i, member, at) (j, j_within, j_is) chain.
            let (_, is_met_) = Contains-from_filter met (range_with_len 0 n) i member in
            let (to, to_in, to_is) = branch-met g.branches (row i) is_met_ in
            let i_within = slice_get_within boxes i x at in
            let x_is : x ≡ get_or boxes i 0 = sym (get_or_from_slice_get boxes i x 0 at) in
            let goal_is : goal ≡ goal_at b j = sym j_is ∙ get_or_default (goals_of b) j goal 0 j_within in
            let inside : j < goals = omega (arith, j_within, goals_are) in
            let (pushes, way) = chain-some b (goal_at b j) (get_or boxes i 0) d (cost (row i) j) (told i j i_within inside).exact
            (subst (λ k. Chain b k (goal_at b j) d) x_is (subst (λ k. Chain b x k d) goal_is chain)) in
            let short = short-some (cost (row i) j) pushes (told i j i_within inside).short way in
            subst (Contains (map (goal_at b) (tree_goals g.branches))) (sym goal_is)
            (Contains-map (goal_at b) (tree_goals g.branches) j (goal-closed to j pushes to_in inside (ap (λ t. cost t j) to_is ∙ way) short));
        fewer =
            let most = few-chosen met row (boxes_of g.branches) n (boxes-apart g.goal_of g.branches growing.tree) (λ at within.
            let inside : at < length g.branches = omega (arith, within, length-boxes_of g.branches) in
            let (i, i_in, i_is) = own at inside in
            (i, i_in, i_is ∙ sym (box-at g.branches at inside), ap (is_met g.branches) i_is ∙ met-branch g.branches at inside)) in
            omega (arith, most, length-boxes_of g.branches, length-map (tree_goals g.branches) (goal_at b), length-tree_goals g.branches, growing.tree.some);
      }

-- the cost of the way of a box to its goal, and that its price is exact
abbrev Exact : Costing → List ℕ → List ℕ → List ℕ → ℕ → ℕ → Type 0
Exact cost u v goal_of member pushes = (cost member (get_or goal_of member 0) ≡ Some pushes)
    × (get_or u member 0 ≡ get_or v (get_or goal_of member 0) 0 + pushes)

-- the costs of all boxes, whose sum is that of their prices less that of all goals
pub record HasSums (cost : Costing) (u v goal_of : List ℕ) : Type 0 where
  pub distances : List ℕ
  pub whole : length distances ≡ length goal_of
  pub exact : (member : ℕ) → member < length goal_of → Exact cost u v goal_of member (get_or distances member 0)
  pub sums : sum u ≡ sum v + sum distances

-- goals that no box has cost nothing
abbrev pub AreIdle : ℕ → Growth → Type 0
AreIdle goals g = (goal : ℕ) → goal < goals → (Contains g.goal_of goal → ⊥) → get_or g.v goal 0 ≡ 0

pub idle-floor : {cost : Costing} {members goals : ℕ} {g : Growth} → IsReady cost members goals g → g.floor ≡ 0 → AreIdle goals g
idle-floor ready none goal within free = let bound = ready.matched.idle goal within free in omega (arith, bound, none)

pub HasSums-ready : {cost : Costing} {members goals : ℕ} {g : Growth} → IsReady cost members goals g → length g.goal_of ≡ members → AreIdle goals g
    → HasSums cost g.u g.v g.goal_of
HasSums-ready {cost = cost} {g = g} ready all idle =
    let matched = ready.matched in
    let (distances, whole, exact) = listed (length g.goal_of) (Exact cost g.u g.v g.goal_of)
    (λ member within. let tight = matched.exact member within in (tight.pushes, (tight.way, tight.exact))) in
    let price : (member : ℕ) → member < length g.u → get_or g.u member 0 ≡ get_or g.v (get_or g.goal_of member 0) 0 + get_or distances member 0 =
    λ member within. (exact member (omega (arith, within, matched.a_price_a_box, all))).1 in
    let along = (sum-along g.u g.v g.goal_of distances (omega (arith, all, matched.a_price_a_box)) (omega (arith, whole, all, matched.a_price_a_box))
    (λ member within. omega (arith, price member within))).1 price in
    let others = prices_of-all g.goal_of g.v matched.apart (λ k d within. let there = matched.exist k d within in omega (arith, there, matched.a_price_a_goal))
    (λ goal within none. idle goal (omega (arith, within, matched.a_price_a_goal)) none) in
    record { distances = distances; whole = whole; exact = exact; sums = omega (arith, along, others) }

-- a chain to a goal costs at least what is told
pub fair-told : (b : BoardView) (goal square d price goal_price : ℕ) (cost : Option ℕ) → TellsDistance b goal square cost
    → ((pushes : ℕ) → cost ≡ Some pushes → price ≤ goal_price + pushes) → Chain b square goal d → price ≤ goal_price + d
fair-told b goal square d price goal_price None tells fair chain = absurd (tells d chain)
fair-told b goal square d price goal_price (Some pushes) tells fair chain = let least = tells.1 d chain in let bound = fair pushes refl in
    omega (arith, least, bound)

-- prices that are fair where costs are told bound the pushes
pub Priced-told : (b : BoardView) (boxes : List ℕ) (goals : ℕ) (cost : Costing) (u v : List ℕ) (n : ℕ) → TellCosts b boxes goals cost
    → goals ≡ length (goals_of b) → length u ≡ length boxes → length v ≡ goals → AreFair cost u v → n + sum v ≤ sum u → Priced b boxes u v n
Priced-told b boxes goals cost u v n told goals_are u_long v_long fair enough = record {
  a_price_a_box = u_long;
  a_price_a_goal = v_long ∙ goals_are;
  fair = λ i j x goal d at at_goal chain.
      let i_within = slice_get_within boxes i x at in
      let j_within = slice_get_within (goals_of b) j goal at_goal in
      let inside : j < goals = omega (arith, j_within, goals_are) in
      let x_is : x ≡ get_or boxes i 0 = sym (get_or_from_slice_get boxes i x 0 at) in
      let goal_is : goal ≡ goal_at b j = sym (get_or_from_slice_get (goals_of b) j goal 0 at_goal) in
      fair-told b (goal_at b j) (get_or boxes i 0) d (get_or u i 0) (get_or v j 0) (cost i j) (told i j i_within inside).exact
      (λ pushes way. fair i j pushes (omega (arith, i_within, u_long)) (omega (arith, inside, v_long)) way)
      (subst (λ k. Chain b k (goal_at b j) d) x_is (subst (λ k. Chain b x k d) goal_is chain));
  enough = enough;
}

-- goals of their own at costs that are told are an assignment
pub IsAssignment-told : (b : BoardView) (boxes : List ℕ) (goals : ℕ) (cost : Costing) (goal_of distances : List ℕ) → TellCosts b boxes goals cost
    → goals ≡ length (goals_of b) → length goal_of ≡ length boxes → length distances ≡ length boxes → All (λ goal. goal < goals) goal_of
    → AllPairs ◌≢◌ goal_of → ((i : ℕ) → i < length boxes → cost i (get_or goal_of i 0) ≡ Some (get_or distances i 0)) → IsAssignment b boxes goal_of distances
IsAssignment-told b boxes goals cost goal_of distances told goals_are goals_long distances_long exist apart way = record {
  a_goal_a_box = goals_long;
  a_distance_a_box = distances_long;
  exist = λ k d within. let exists = exist k d within in omega (arith, exists, goals_are);
  apart = apart;
  exact = λ i within.
      let goal = get_or goal_of i 0 in
      subst (TellsDistance b (goal_at b goal) (get_or boxes i 0)) (way i within) (told i goal within (exist i 0 (omega (arith, within, goals_long)))).exact;
}

-- prices and goals of all boxes, on a board whose distances are told
pub ArePrices-ready : (b : BoardView) (boxes : List ℕ) (goals : ℕ) (cost : Costing) (g : Growth) (total : ℕ) → TellCosts b boxes goals cost
    → goals ≡ length (goals_of b) → IsReady cost (length boxes) goals g
    → g.floor ≡ 0 → length boxes ≤ 128 → length g.goal_of ≡ length boxes → total + sum g.v ≡ sum g.u → ArePrices b boxes g.u g.v total g.goal_of
ArePrices-ready b boxes goals cost g total told goals_are ready none few all equal =
    let has = HasSums-ready ready all (idle-floor ready none) in
    let limit : low (length boxes) g.floor ≤ 1000000 = omega (arith, none, few) in
    let assignment = IsAssignment-told b boxes goals cost g.goal_of has.distances told goals_are all (has.whole ∙ all) ready.matched.exist ready.matched.apart
    (λ i within. (has.exact i (omega (arith, within, all))).0) in
    record {
      priced = Priced-told b boxes goals cost g.u g.v total told goals_are ready.matched.a_price_a_box ready.matched.a_price_a_goal ready.matched.fair
          (omega (arith, equal));
      equal = equal;
      small_boxes = λ k d within. let here = ready.low.boxes k d within in omega (arith, here, limit);
      small_goals = λ k d within. let here = ready.low.goals k d within in omega (arith, here, limit);
      distances = has.distances;
      assignment = assignment;
      cost = omega (arith, has.sums, equal);
      no_crowd = λ members crowd. Excludes-IsCrowd b boxes g.goal_of has.distances members
          (IsCarrying-IsAssignment b boxes g.goal_of has.distances assignment) crowd;
    }

-- a matching of all rows has a worth
pub HasWorth-sums : (costs : Costs) (rows : List ℕ) (search : PathSearch) → IsWhole costs rows search
    → HasSums (cost_of costs rows) search.u.items search.v.items search.goal_of.items → HasWorth search
HasWorth-sums costs rows search whole has =
    let g = growth_of search in
    let few = whole.shaped.few in
    let fits = sum_by-le (λ price. price) 1073741824 g.u (λ k d within.
    let here = whole.ready.low.boxes k d within in omega (arith, here, few, whole.ready.bounded)) in
    let bound = sum_by-le (λ d. d) square_limit has.distances (λ k d within.
    let exact = has.exact k (omega (arith, within, has.whole)) in
    let short = AreShort-costs whole.shaped k (get_or g.goal_of k 0) (get_or has.distances k 0) exact.0 in
    let same = get_or_default has.distances k d 0 within in
    omega (arith, short, same)) in
    record {
      fits = omega (arith, fits, few, whole.ready.matched.a_price_a_box);
      covered = omega (arith, has.sums);
      small = omega (arith, bound, has.sums, has.whole, few, whole.whole);
    }

-- the boxes of a tree that reaches no other goal are a crowd
pub IsCrowd-members : (b : BoardView) (boxes : List ℕ) (goals : ℕ) (cost : Costing) (g : Growth) → TellCosts b boxes goals cost → goals ≡ length (goals_of b)
    → IsSeen cost (length boxes) goals g → ReachesNoOther g → IsCrowd b boxes (members_of g.branches (length boxes))
IsCrowd-members b boxes goals cost g told goals_are growing closed = IsCrowd-closed growing closed b boxes (λ i. i) goals_are told
    (λ at within. ((branch_at g.branches at).member, member-within g.goal_of g.branches (length boxes) growing.tree growing.more at within, refl))

-- what holds of the lists of a search holds of the prices and goals that are answered
pub IsMatch-prices : (b : BoardView) (boxes : List ℕ) (search : PathSearch) (answer : Match) → HasPrices search answer
    → ((total : ℕ) → total + sum search.v.items ≡ sum search.u.items → ArePrices b boxes search.u.items search.v.items total search.goal_of.items)
    → IsMatch b boxes answer
IsMatch-prices b boxes search (Prices u v total goal_of) (u_is, v_is, goals_are, equal) prices =
    subst (λ (T : Type 0). T) (λ i. ArePrices b boxes (sym u_is i).items (sym v_is i).items total (sym goals_are i).items) (prices total equal)
IsMatch-prices b boxes search (Crowd members) none prices = absurd none

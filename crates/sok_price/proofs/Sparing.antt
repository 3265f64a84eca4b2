-- What a matching with a row for each goal tells of its boxes: the spare rows fall away.
use Rattle.sok_price.proofs.Words.{ℕ, ◌≡◌, ◌≢◌, ◌<◌, ◌≤◌, ◌+◌, ◌*◌, ◌-◌, ◌⊎◌, ◌∙◌, inl, inr, refl, sym, ap, subst, List, [], ◌∷◌, Some, None, All, range_with_len}
use Rattle.sok_price.proofs.Words.{AllPairs, Contains, arith, filter, length, get_or, map, min, sum, zero, suc, cases_eq, cases_lt, same_Some, get_or_default}
use Rattle.sok_price.proofs.Words.{get_or-map, length-map, All-from_get_or, sum_by-cons, sum-map, BoardView, goals_of, Costs, cost_in, cost_of, TellCosts}
use Rattle.sok_price.proofs.Words.{All-head, All-tail, AreExactly, HasWorth, IsAssignment, IsMatchedTo, Priced, Serves}
use Rattle.sok_price.proofs.Words.{TellsCost, AreKept, IsBounded, TellsLeast, Costing, Growth, IsReady, branch_at, is_met, IsWhole, PathSearch, growth_of}
use Rattle.sok_price.proofs.Words.{AreSet, Bool, Tells, true, false, get_or-range_with_len, length-range_with_len, AreOfBoxes, IsShaped, CanMove}
use Rattle.sok_price.proofs.Words.{IsCopied, KeptMatching, IsCrowd, AreTabled, IsChange, AreMoved, AreRows, Holds, IsMoved, IsStrictlyIncreasing}
use Rattle.sok_price.specs.Kept.{IsSettled}
use Rattle.sok_price.specs.Matched.{IsSound}
use Rattle.sok_price.proofs.{Answering.HasSums, Answering.HasSums-ready, Answering.IsAssignment-told, Answering.Priced-told, Answering.IsCrowd-closed}
use Rattle.sok_price.proofs.{Answering.none-free, Branching.member-within, Exchanging.rows-apart, Exchanging.AreExactly-moved}
use Rattle.sok_price.proofs.{Exchanging.AreRows-moved, Places.all_below, Places.apart_from, Places.apart_rising, Places.places_apart, Places.places_in}
use Rattle.sok_price.proofs.{Answering.HasWorth-sums, Places.ArePlaces, Places.same_place, Places.prices_of-all}

-- a matching is sound with other rows, whether they are settled or not, and as many marks
pub IsSound-set : {squares : ℕ} {costs : Costs} {rows others : List ℕ} {search new : PathSearch} {matched settled : Bool} {trial : PathSearch}
    {trial_rows boxes : List ℕ} {marks other_marks : List Bool} → IsSound squares costs rows search matched trial trial_rows marks
    → AreSet squares costs rows others → IsShaped (length others) costs.goals new → (settled ≡ true → IsSettled squares boxes costs others new)
    → length other_marks ≡ length marks → IsSound squares costs others new settled trial trial_rows other_marks
IsSound-set {costs = costs} {trial = trial} sound set shaped settles as_many = record {
  shaped = set.shaped;
  square = set.whole ∙ sound.square;
  are_rows = set.are_rows;
  small = sound.small;
  entries = sound.entries;
  search_shaped = shaped;
  trial_shaped = subst (λ n. IsShaped n costs.goals trial) (sym set.whole) sound.trial_shaped;
  as_many = sound.as_many ∙ sym set.whole;
  a_mark_a_square = as_many ∙ sound.a_mark_a_square;
  whole = λ is. (settles is).whole;
  low = λ is. (settles is).low;
}

-- where each goal has a row, what the rows cost less what the goals cost is the sum of the costs
sums-whole : {cost : Costing} {members goals : ℕ} {g : Growth} → IsReady cost members goals g → members ≡ goals → length g.goal_of ≡ members
    → HasSums cost g.u g.v g.goal_of
sums-whole {goals = goals} {g = g} ready square all = HasSums-ready ready all (λ goal within none.
    absurd (all_below goals g.goal_of (all ∙ square) ready.matched.exist ready.matched.apart goal within none))

-- the row of each box of a list, by its place; the other rows cost nothing
pub record AreRowsOf (b : BoardView) (boxes : List ℕ) (costs : Costs) (rows places : List ℕ) : Type 0 where
  pub goals_are : costs.goals ≡ length (goals_of b)
  pub square : length rows ≡ costs.goals
  pub whole : length places ≡ length boxes
  pub within : (i : ℕ) → i < length boxes → get_or places i 0 < length rows
  pub apart : AllPairs ◌≢◌ places
  pub told : TellCosts b boxes costs.goals (λ i goal. cost_of costs rows (get_or places i 0) goal)
  pub owner : (k : ℕ) → k < length rows → ((i : ℕ) × (i < length boxes) × (get_or places i 0 ≡ k))
      ⊎ ((goal : ℕ) → goal < costs.goals → cost_of costs rows k goal ≡ Some 0)

pub AreRowsOf-places : (b : BoardView) (costs : Costs) (rows boxes places : List ℕ) → AreKept b costs rows boxes → ArePlaces boxes rows places
    → AreRowsOf b boxes costs rows places
AreRowsOf-places b costs rows boxes places kept are = record {
  goals_are = kept.tabled.goals_are;
  square = kept.square;
  whole = are.whole;
  within = are.within;
  apart = places_apart boxes rows places are (apart_rising boxes kept.rising);
  told = λ i goal within inside.
      let k = get_or places i 0 in
      let is = are.there i within in
      let below = kept.exist i 0 within in
      subst (λ s. TellsCost b goal s (cost_of costs rows k goal)) is (kept.tabled.told (get_or rows k 0) goal (omega (arith, is, below)) inside);
  owner = λ k within.
      let row = get_or rows k 0 in
      elim (cases_lt row (length b.area)) [
        | inr past ↦ inr (λ goal inside.
            let last : row ≡ length b.area = omega (arith, kept.are_rows.within k 0 within, past) in
            ap (λ r. cost_in costs.goals costs.entries.items r goal) last ∙ kept.tabled.spare goal inside)
        | inl below ↦
            let (i, i_within, is) = kept.exactly.of k within below in
            let other = get_or places i 0 in
            let same : get_or rows other 0 ≡ row = are.there i i_within ∙ get_or_default boxes i 0 row i_within ∙ is in
            elim (cases_eq k other) [
              | inl here ↦ inl (i, i_within, sym here)
              | inr apart ↦ absurd (rows-apart (length b.area) rows kept.are_rows k other apart within (are.within i i_within) below (sym same))
            ]
      ];
}

pub AreRowsOf-kept : (b : BoardView) (costs : Costs) (rows boxes : List ℕ) → AreKept b costs rows boxes → (places : List ℕ) × AreRowsOf b boxes costs rows places
AreRowsOf-kept b costs rows boxes kept =
    let (places, are) = places_in boxes rows kept.exactly.each in (places, AreRowsOf-places b costs rows boxes places kept are)

-- what is counted of the rows of boxes alone, by their places
abbrev pub of_boxes : List ℕ → List ℕ → List ℕ
of_boxes xs places = map (λ k. get_or xs k 0) places

of_boxes-at : (xs places : List ℕ) (i : ℕ) → i < length places → get_or (of_boxes xs places) i 0 ≡ get_or xs (get_or places i 0) 0
of_boxes-at xs places i within = get_or-map (λ k. get_or xs k 0) places i 0 0 within

-- prices less one amount
abbrev pub less : ℕ → List ℕ → List ℕ
less m xs = map (λ x. x - m) xs

less-at : (m : ℕ) (xs : List ℕ) (k : ℕ) → get_or (less m xs) k 0 ≡ get_or xs k 0 - m
less-at m [] k = omega arith
less-at m (x ∷ xs) zero = refl
less-at m (x ∷ xs) (suc k) = less-at m xs k

sum-less : (m : ℕ) (xs : List ℕ) → All (λ x. m ≤ x) xs → sum xs ≡ sum (less m xs) + m * length xs
sum-less m [] above = omega arith
sum-less m (x ∷ xs) above =
    let part = sum_by-cons (λ (n : ℕ). n) (x - m) (less m xs) in
    omega (arith, sum-less m xs (All-tail (λ x. m ≤ x) x xs above), All-head (λ x. m ≤ x) x xs above, sum_by-cons (λ (n : ℕ). n) x xs, part)

-- the least of some prices, the first of them apart
least-of : (f : ℕ → ℕ) (first n : ℕ) → (m : ℕ) × ((j : ℕ) → j < n → m ≤ f j) × ((c : ℕ) → c ≤ first → ((j : ℕ) → j < n → c ≤ f j) → c ≤ m)
least-of f first zero = (first, λ j within. absurd (omega (arith, within)), λ c start each. start)
least-of f first (suc n) =
    let (m, below, greatest) = least-of f first n in (
      min m (f n),
      λ j within. let old = below j in grind (arith, old, within),
      λ c start each. let rest = greatest c start (λ j within. each j (omega (arith, within))) in omega (arith, rest, each n (omega arith)),
    )

-- an amount that each goal costs at least, and that a row costs no more than where each goal costs at least as much as the row
pub record IsFloor (m : ℕ) (u v : List ℕ) : Type 0 where
  pub below : All (λ price. m ≤ price) v
  pub most : (k : ℕ) → k < length u → All (λ price. get_or u k 0 ≤ price) v → get_or u k 0 ≤ m

-- the least price is one, where there are as many rows as goals
floor-of : (u v : List ℕ) → length u ≡ length v → (m : ℕ) × IsFloor m u v
floor-of u v square =
    let (m, below, greatest) = least-of (λ j. get_or v j 0) (get_or v 0 0) (length v) in (
      m,
      record {
        below = All-from_get_or (λ price. m ≤ price) v 0 below;
        most = λ k within all. greatest (get_or u k 0) (all 0 0 (omega (arith, within, square))) (λ j inside. all j 0 inside);
      },
    )

module _ {b : BoardView} {boxes : List ℕ} {costs : Costs} {rows places : List ℕ} (is : AreRowsOf b boxes costs rows places) where
  -- a row of no box costs nothing
  spare-row : (k goal : ℕ) → k < length rows → (Contains places k → ⊥) → goal < costs.goals → cost_of costs rows k goal ≡ Some 0
  spare-row k goal within free inside = elim (is.owner k within) [
    | inr spare ↦ spare goal inside
    | inl (i, i_in, same) ↦
        let place : i < length places = omega (arith, i_in, is.whole) in
        absurd (free (i, place, get_or_default places i k 0 place ∙ same))
  ]

  -- places of rows are within
  places-below : (n : ℕ) → n ≡ length rows → All (λ k. k < n) places
  places-below n same = All-from_get_or (λ k. k < n) places 0 (λ i within.
      let here = is.within i (omega (arith, within, is.whole)) in omega (arith, here, same))

  of_boxes-sum : (xs : List ℕ) → length xs ≡ length rows → ((k : ℕ) → k < length xs → (Contains places k → ⊥) → get_or xs k 0 ≡ 0)
      → sum (of_boxes xs places) ≡ sum xs
  of_boxes-sum xs long others = sum-map (λ k. get_or xs k 0) places
      ∙ prices_of-all places xs is.apart (places-below (length xs) long) others

  module _ (g : Growth) (total : ℕ) (ready : IsReady (cost_of costs rows) (length rows) costs.goals g) (all : length g.goal_of ≡ length rows)
      (equal : total + sum g.v ≡ sum g.u) where
    -- the prices of a matching, less a floor, prove its total for the boxes of its rows, and add up to it
    pub priced-rows : (m : ℕ) → IsFloor m g.u g.v → Priced b boxes (map (λ k. get_or g.u k 0 - m) places) (less m g.v) total
        × (total + sum (less m g.v) ≡ sum (map (λ k. get_or g.u k 0 - m) places))
    priced-rows m floor =
        let u_long = ready.matched.a_price_a_box in
        let v_long = ready.matched.a_price_a_goal in
        let us = map (λ k. get_or g.u k 0 - m) places in
        let us_long = length-map places (λ k. get_or g.u k 0 - m) in
        let vs_long = length-map g.v (λ x. x - m) in
        let less_long = length-map g.u (λ x. x - m) in
        let same : us ≡ of_boxes (less m g.u) places = λ i. map (λ k. sym (less-at m g.u k) i) places in
        let boxes_sum = ap (λ xs. sum xs) same ∙ of_boxes-sum (less m g.u) (less_long ∙ u_long) (λ k within free.
        let inside : k < length g.u = omega (arith, within, less_long) in
        let bound = floor.most k inside (All-from_get_or (λ price. get_or g.u k 0 ≤ price) g.v 0 (λ j there.
        let fair = ready.matched.fair k j 0 inside there (spare-row k j (omega (arith, inside, u_long)) free (omega (arith, there, v_long))) in
        omega (arith, fair))) in
        omega (arith, less-at m g.u k, bound)) in
        let u_sum = sum-less m g.u (All-from_get_or (λ price. m ≤ price) g.u 0 (λ k within.
        let tight = ready.matched.exact k (omega (arith, within, u_long, all)) in
        let goal = get_or g.goal_of k 0 in
        let exists = ready.matched.exist k 0 (omega (arith, within, u_long, all)) in
        let bound = floor.below goal 0 (omega (arith, exists, v_long)) in
        omega (arith, tight.exact, bound))) in
        let v_sum = sum-less m g.v floor.below in
        let as_long : length g.u ≡ length g.v = omega (arith, u_long, v_long, is.square) in
        let shifts = ap (λ n. m * n) as_long in
        let sums : total + sum (less m g.v) ≡ sum us = omega (arith, boxes_sum, u_sum, v_sum, shifts, equal) in (
          Priced-told b boxes costs.goals (λ i goal. cost_of costs rows (get_or places i 0) goal) us (less m g.v) total is.told is.goals_are
              (us_long ∙ is.whole) (vs_long ∙ v_long)
              (λ i j pushes i_within j_within way.
              let k = get_or places i 0 in
              let place : i < length places = omega (arith, i_within, us_long) in
              let inside = is.within i (omega (arith, place, is.whole)) in
              let there : j < length g.v = omega (arith, j_within, vs_long) in
              let bound = ready.matched.fair k j pushes (omega (arith, inside, u_long)) there way in
              let box = get_or-map (λ k. get_or g.u k 0 - m) places i 0 0 place in
              omega (arith, box, less-at m g.v j, bound, floor.below j 0 there))
              (omega (arith, sums)),
          sums,
        )

    -- the goals of the boxes of its rows cost as much
    pub assigned-rows : (distances : List ℕ) × IsAssignment b boxes (of_boxes g.goal_of places) distances × (sum distances ≡ total)
    assigned-rows =
        let goal_of = g.goal_of in
        let has = sums-whole ready is.square all in
        let far = has.distances in
        let goals_long = length-map places (λ k. get_or goal_of k 0) in
        let own : (i : ℕ) → i < length places → get_or places i 0 < length goal_of = λ i within. let here = is.within i (omega (arith, within, is.whole)) in
        omega (arith, here, all) in
        let exist = All-from_get_or (λ goal. goal < costs.goals) (of_boxes goal_of places) 0 (λ i within.
        let here = ready.matched.exist (get_or places i 0) 0 in
        let same = of_boxes-at goal_of places i in
        grind (arith, own i, here, same, goals_long, within)) in
        let apart = apart_from (of_boxes goal_of places) (λ i j i_within j_within same.
        let one = same_place places is.apart i j in
        let goal = same_place goal_of ready.matched.apart (get_or places i 0) (get_or places j 0) in
        grind (arith, one, goal, own i, own j, of_boxes-at goal_of places i, of_boxes-at goal_of places j, i_within, j_within, goals_long, same)) in
        let way : (i : ℕ) → i < length boxes
        → cost_of costs rows (get_or places i 0) (get_or (of_boxes goal_of places) i 0) ≡ Some (get_or (of_boxes far places) i 0) = λ i within.
        let place : i < length places = omega (arith, within, is.whole) in
        ap (cost_of costs rows (get_or places i 0)) (of_boxes-at goal_of places i place) ∙ (has.exact (get_or places i 0) (own i place)).0
        ∙ ap Some (sym (of_boxes-at far places i place)) in
        let boxes_sum = of_boxes-sum far (has.whole ∙ all) (λ k within free.
        let inside : k < length goal_of = omega (arith, within, has.whole) in
        same_Some (get_or far k 0) 0 (sym (has.exact k inside).0
        ∙ spare-row k (get_or goal_of k 0) (omega (arith, inside, all)) free (ready.matched.exist k 0 inside))) in (
          of_boxes far places,
          IsAssignment-told b boxes costs.goals (λ i goal. cost_of costs rows (get_or places i 0) goal) (of_boxes goal_of places) (of_boxes far places)
              is.told is.goals_are (goals_long ∙ is.whole) (length-map places (λ k. get_or far k 0) ∙ is.whole) exist apart way,
          omega (arith, boxes_sum, has.sums, equal),
        )

-- a matching of all rows tells the least total of its boxes
pub TellsLeast-whole : (b : BoardView) (costs : Costs) (rows : List ℕ) (search : PathSearch) (total : ℕ) (boxes : List ℕ) → AreKept b costs rows boxes
    → IsWhole costs rows search → total + sum search.v.items ≡ sum search.u.items → TellsLeast b boxes (Some total)
TellsLeast-whole b costs rows search total boxes kept is equal =
    let g = growth_of search in
    let (places, of) = AreRowsOf-kept b costs rows boxes kept in
    let square : length g.u ≡ length g.v = omega (arith, is.ready.matched.a_price_a_box, is.ready.matched.a_price_a_goal, kept.square) in
    let (m, floor) = floor-of g.u g.v square in
    let (distances, assignment, cost) = assigned-rows of g total is.ready is.whole equal in (
      (map (λ k. get_or g.u k 0 - m) places, less m g.v, (priced-rows of g total is.ready is.whole equal m floor).0),
      (of_boxes g.goal_of places, distances, assignment, cost),
    )

-- a matching of all rows has a worth
pub HasWorth-whole : {costs : Costs} {rows : List ℕ} {search : PathSearch} → IsWhole costs rows search → length rows ≡ costs.goals → HasWorth search
HasWorth-whole {costs = costs} {rows = rows} {search = search} is square = HasWorth-sums costs rows search is (sums-whole is.ready square is.whole)

-- a matching that keeps its costs serves the board as before
pub Serves-same : {b : BoardView} {before after : KeptMatching}
    → after ≡ record before { rows = after.rows; search = after.search; matched = after.matched } → Serves b before → Serves b after
Serves-same {b = b} same serves = subst (Serves b) (sym same) (record { squares = serves.squares; tabled = serves.tabled })

-- a matching of some boxes holds them, and its rows are kept for them
pub Holds-matched : {b : BoardView} {boxes : List ℕ} {kept : KeptMatching} → Serves b kept → IsMatchedTo boxes kept → Holds b boxes kept
Holds-matched {boxes = boxes} {kept = kept} serves is =
    record { serves = serves; matched = is.matched; exactly = subst (λ n. AreExactly n kept.rows boxes) serves.squares is.exactly }

pub AreKept-matched : {b : BoardView} {boxes : List ℕ} {kept : KeptMatching} → Serves b kept → IsMatchedTo boxes kept
    → AreKept b kept.costs kept.rows boxes
AreKept-matched {boxes = boxes} {kept = kept} serves is = record {
  tabled = serves.tabled;
  square = is.square;
  are_rows = subst (λ n. AreRows n kept.rows) serves.squares is.are_rows;
  exactly = (Holds-matched serves is).exactly;
  exist = subst (λ n. All (λ square. square < n) boxes) serves.squares is.exist;
  rising = is.rising;
}

-- the boxes of a tree that reaches no other goal are a crowd
pub IsBounded-closed : (b : BoardView) (costs : Costs) (rows : List ℕ) (search : PathSearch) (boxes : List ℕ) {found : Bool} → AreKept b costs rows boxes
    → Tells costs rows search found → found ≡ false → IsBounded b boxes None
IsBounded-closed b costs rows search boxes kept tells none =
    let g = growth_of search in
    let growing = tells.tree none in
    let (places, is) = AreRowsOf-kept b costs rows boxes kept in
    let row = λ (i : ℕ). get_or places i 0 in (
      filter (λ i. is_met g.branches (row i)) (range_with_len 0 (length boxes)),
      IsCrowd-closed growing (tells.closed none) b boxes row is.goals_are is.told (λ at within. elim
          (is.owner (branch_at g.branches at).member (member-within g.goal_of g.branches (length rows) growing.tree growing.more at within)) [
            | inl of ↦ of
            | inr spare ↦ absurd (none-free growing (tells.closed none) at within is.square spare)
          ]),
    )

-- a matching's prices and goals in other scratch lists
pub IsWhole-copied : (costs : Costs) (rows : List ℕ) (search scratch copy : PathSearch) → IsWhole costs rows search → IsShaped (length rows) costs.goals scratch
    → IsCopied search scratch copy → IsWhole costs rows copy
IsWhole-copied costs rows search scratch copy whole shaped is = record {
  shaped = whole.shaped;
  ready = subst (IsReady (cost_of costs rows) (length rows) costs.goals) (sym is.same) (record {
    matched = whole.ready.matched;
    bounded = whole.ready.bounded;
    low = whole.ready.low;
    roomy = record { taken = shaped.roomy.taken; slacks = shaped.roomy.slacks; takers = shaped.roomy.takers };
  });
  whole = ap (λ (g : Growth). length g.goal_of) is.same ∙ whole.whole;
}

-- the row of a box that may be moved may be exchanged
pub IsChange-can : (kept : KeptMatching) (row from to : ℕ) → CanMove kept from to → row < length kept.rows → IsChange kept.squares kept.rows row to
IsChange-can kept row from to can inside =
    let squares = can.holds.serves.squares in
    record {
      within = inside;
      below = omega (arith, can.within, squares);
      fresh = λ _ k k_in there. can.free (subst (Contains can.boxes) there (can.holds.exactly.of k k_in (omega (arith, there, can.within))));
    }

-- rows of which that of a box that may be moved is exchanged
pub AreKept-moved : (b : BoardView) (kept : KeptMatching) (boxes after changed : List ℕ) (row from to : ℕ) → AreRows kept.squares kept.rows
    → length kept.rows ≡ kept.costs.goals → Holds b boxes kept → CanMove kept from to → row < length kept.rows → get_or kept.rows row 0 ≡ from
    → AreMoved row to kept.rows changed → IsMoved boxes from to after → All (λ square. square < length b.area) after → IsStrictlyIncreasing after
    → AreKept b kept.costs changed after
AreKept-moved b kept boxes after changed row from to are square holds can inside row_is is moved exist rising =
    let here = λ (rows : List ℕ) (set : AreRows kept.squares rows). subst (λ n. AreRows n rows) holds.serves.squares set in
    record {
      tabled = holds.serves.tabled;
      square = omega (arith, is.whole, is.kept, square);
      are_rows = here changed (AreRows-moved are (IsChange-can kept row from to can inside) is);
      exactly = AreExactly-moved (length b.area) row to kept.rows changed boxes after (here kept.rows are)
          (record { within = inside; exactly = holds.exactly; moved = subst (λ s. IsMoved boxes s to after) (sym row_is) moved }) is;
      exist = exist;
      rising = rising;
    }

-- boxes that are more than the goals are a crowd
pub IsCrowd-many : (b : BoardView) (boxes : List ℕ) → length (goals_of b) < length boxes → IsCrowd b boxes (range_with_len 0 (length boxes))
IsCrowd-many b boxes more =
    let n = length boxes in
    let long = length-range_with_len 0 n in
    record {
      listed = record {
        rising = λ k within. grind (arith, within, long, get_or-range_with_len 0 n k 0, get_or-range_with_len 0 n (k + 1) 0);
        within = λ k d within. grind (arith, within, long, get_or-range_with_len 0 n k d);
      };
      goals = goals_of b;
      all_reached = λ x g d member goal chain. goal;
      fewer = omega (arith, more, long);
    }

-- costs of rows that are the squares of boxes
pub AreOfBoxes-rows : (b : BoardView) (boxes rows : List ℕ) (costs : Costs) → AreTabled b costs.goals costs.entries.items
    → All (λ square. square < length b.area) boxes → length rows ≡ length boxes
    → ((k : ℕ) → k < length boxes → get_or rows k 0 ≡ get_or boxes k 0) → AreOfBoxes b boxes costs rows
AreOfBoxes-rows b boxes rows costs tabled exist whole each = record {
  members = whole;
  goals = tabled.goals_are;
  told = λ member goal within inside.
      let is = each member within in
      let below = exist member 0 within in
      subst (λ square. TellsCost b goal square (cost_in costs.goals costs.entries.items (get_or rows member 0) goal)) is
      (tabled.told (get_or rows member 0) goal (omega (arith, is, below)) inside);
}

-- What is read of a matching of all rows: the prices and goals of the boxes of its rows.
use Rattle.sok_price.proofs.Words.{ℕ, ◌≡◌, ◌<◌, ◌≤◌, ◌+◌, ◌-◌, ◌++◌, ◌∙◌, sym, ap, subst, List, [], ◌∷◌, All, All-push, arith, get_or, get_or-map, length}
use Rattle.sok_price.proofs.Words.{length-map, map, map-append, sum, BoardView, Costs, PathSearch, AreKept, AreRead, ArePrices, IsWhole}
use Rattle.sok_price.proofs.Words.{growth_of}
use Rattle.sok_price.proofs.{AssignmentLaws.IsCarrying-IsAssignment, CrowdLaws.Excludes-IsCrowd, Places.ArePlaces}
use Rattle.sok_price.proofs.Sparing.{AreRowsOf, AreRowsOf-places, IsFloor, assigned-rows, less, of_boxes, priced-rows}

-- nothing is read of no boxes
pub AreRead-none : (amount : ℕ) (rows : List ℕ) (search : PathSearch) {boxes u goal_of : List ℕ} → boxes ≡ [] → u ≡ [] → goal_of ≡ []
    → AreRead amount rows search boxes u goal_of
AreRead-none amount rows search no_boxes no_prices no_goals = record {
  places = [];
  within = λ k d inside. absurd (omega (arith, inside));
  boxes_are = no_boxes;
  prices_are = no_prices;
  goals_are = no_goals;
}

-- the price and the goal of one more box
pub AreRead-more : {amount : ℕ} {rows : List ℕ} {search : PathSearch} {boxes u goal_of more prices goals : List ℕ} (row : ℕ)
    → AreRead amount rows search boxes u goal_of → row < length rows → more ≡ boxes ++ get_or rows row 0 ∷ []
    → prices ≡ u ++ (get_or search.u.items row 0 - amount) ∷ [] → goals ≡ goal_of ++ get_or search.goal_of.items row 0 ∷ []
    → AreRead amount rows search more prices goals
AreRead-more {amount = amount} {rows = rows} {search = search} row are inside boxes_are prices_are goals_are =
    let price = λ (k : ℕ). get_or search.u.items k 0 - amount in
    record {
      places = are.places ++ row ∷ [];
      within = All-push (λ k. k < length rows) are.places row are.within inside;
      boxes_are = boxes_are ∙ ap (λ xs. xs ++ get_or rows row 0 ∷ []) are.boxes_are ∙ sym (map-append (λ k. get_or rows k 0) are.places (row ∷ []));
      prices_are = prices_are ∙ ap (λ xs. xs ++ price row ∷ []) are.prices_are ∙ sym (map-append price are.places (row ∷ []));
      goals_are = goals_are ∙ ap (λ xs. xs ++ get_or search.goal_of.items row 0 ∷ []) are.goals_are
          ∙ sym (map-append (λ k. get_or search.goal_of.items k 0) are.places (row ∷ []));
    }

-- the places of the rows are those of the boxes
ArePlaces-read : {amount : ℕ} {rows : List ℕ} {search : PathSearch} {boxes u goal_of : List ℕ} → (are : AreRead amount rows search boxes u goal_of)
    → ArePlaces boxes rows are.places
ArePlaces-read {rows = rows} {boxes = boxes} are =
    let row = λ (k : ℕ). get_or rows k 0 in
    let long : length boxes ≡ length are.places = ap (λ (xs : List ℕ). length xs) are.boxes_are ∙ length-map are.places row in
    record {
      whole = sym long;
      within = λ i inside. are.within i 0 (omega (arith, inside, long));
      there = λ i inside. sym (ap (λ xs. get_or xs i 0) are.boxes_are ∙ get_or-map row are.places i 0 0 (omega (arith, inside, long)));
    }

-- prices that are not too high, less a floor, are an answer, with the goals
ArePrices-rows : {b : BoardView} {boxes : List ℕ} {costs : Costs} {rows places : List ℕ} → AreRowsOf b boxes costs rows places → (search : PathSearch) (total m : ℕ)
    → IsWhole costs rows search → total + sum search.v.items ≡ sum search.u.items → IsFloor m search.u.items search.v.items
    → All (λ price. price ≤ 1000000) (map (λ k. get_or search.u.items k 0 - m) places) → All (λ price. price ≤ 1000000) (less m search.v.items)
    → ArePrices b boxes (map (λ k. get_or search.u.items k 0 - m) places) (less m search.v.items) total (of_boxes search.goal_of.items places)
ArePrices-rows {b = b} {boxes = boxes} {places = places} of search total m is equal floor small_boxes small_goals =
    let g = growth_of search in
    let (priced, sums) = priced-rows of g total is.ready is.whole equal m floor in
    let (distances, assignment, cost) = assigned-rows of g total is.ready is.whole equal in
    let goals = of_boxes g.goal_of places in
    record {
      priced = priced;
      equal = sums;
      small_boxes = small_boxes;
      small_goals = small_goals;
      distances = distances;
      assignment = assignment;
      cost = cost;
      no_crowd = λ members crowd. Excludes-IsCrowd b boxes goals distances members (IsCarrying-IsAssignment b boxes goals distances assignment) crowd;
    }

-- and so are those that are read
pub ArePrices-read : {b : BoardView} {costs : Costs} {rows : List ℕ} {search : PathSearch} {total m : ℕ} {boxes u v goal_of : List ℕ}
    → AreKept b costs rows boxes → IsWhole costs rows search → total + sum search.v.items ≡ sum search.u.items
    → IsFloor m search.u.items search.v.items → AreRead m rows search boxes u goal_of → v ≡ less m search.v.items
    → All (λ price. price ≤ 1000000) u → All (λ price. price ≤ 1000000) v → ArePrices b boxes u v total goal_of
ArePrices-read {b = b} {costs = costs} {rows = rows} {search = search} {total = total} {m = m} {boxes = boxes} kept is equal floor are v_is small_u small_v =
    let of = AreRowsOf-places b costs rows boxes are.places kept (ArePlaces-read are) in
    subst (λ (T : Type 0). T) (λ i. ArePrices b boxes (sym are.prices_are i) (sym v_is i) total (sym are.goals_are i))
    (ArePrices-rows of search total m is equal floor (subst (All (λ price. price ≤ 1000000)) are.prices_are small_u)
    (subst (All (λ price. price ≤ 1000000)) v_is small_v))

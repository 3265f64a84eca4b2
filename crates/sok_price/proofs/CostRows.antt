use Rattle.sok_price.proofs.Words.{AreCosts, AreTold, IsRow, TellsCost, AreTabled, append_assoc, get_or_append_left, get_or-append_right, get_or_push, BoardView}
use Rattle.sok_price.proofs.Words.{Costs, cost_in, cost_of, length, get_or, mul-le-mul_left, none-some, same_Some, length-append, length_push}
use Rattle.sok_price.proofs.Words.{length-range_with_len, count_by-le-length, length-filter, holds, is_goal, goals_of, spot_of, range_with_len, common_steps}
use Rattle.sok_price.proofs.Words.{get_or-replicate, length-replicate, ℕ, ◌≡◌, ◌<◌, ◌≤◌, ◌+◌, ◌*◌, ◌++◌, ◌∙◌, sym, ap, subst, List, Option, Some, None, arith}
use Rattle.sok_price.proofs.Words.{replicate, ◌-◌, inl, inr, refl, [], ◌∷◌, IfSome, All, All-weaker, AreRows, AreSmall, Costing, cases_eq, square_limit}
use Rattle.sok_price.proofs.Branching.{some-within}

-- The costs of boxes, row by row, and those of all squares of a board with a last row that costs nothing.

-- the costs are those of distances on a board
abbrev pub AreShort : Costing → Type 0
AreShort cost = (member goal pushes : ℕ) → cost member goal ≡ Some pushes → pushes ≤ square_limit

pub AreShort-costs : {costs : Costs} {rows : List ℕ} → AreCosts costs rows → AreShort (cost_of costs rows)
unfolding cost_in
AreShort-costs {costs = costs} {rows = rows} are member goal pushes there = are.small (get_or rows member 0 * costs.goals + goal) pushes there

-- one goal more
pub IsRow-more : {b : BoardView} {goals square : ℕ} {before after : List (Option ℕ)} {cost : Option ℕ} → IsRow b goals square before after
    → TellsCost b goals square cost → IsRow b (goals + 1) square before (after ++ cost ∷ [])
IsRow-more {b = b} {goals = goals} {square = square} {before = before} {cost = cost} is tells = record {
  row = is.row ++ cost ∷ [];
  added = ap (λ entries. entries ++ cost ∷ []) is.added ∙ append_assoc before is.row (cost ∷ []);
  whole = let long = length_push is.row cost in omega (arith, long, is.whole);
  told = λ goal within. elim (cases_eq goal goals) [
    | inl same ↦ subst (λ k. TellsCost b k square (get_or (is.row ++ cost ∷ []) k None)) (sym same)
        (subst (TellsCost b goals square) (sym (get_or_push is.row cost None goals is.whole)) tells)
    | inr other ↦
        let inside : goal < goals = omega (arith, within, other) in
        subst (TellsCost b goal square) (sym (get_or_append_left is.row (cost ∷ []) None goal (omega (arith, inside, is.whole))))
        (is.told goal inside)
  ];
}

-- an entry of a row before the last one
cost-before : (entries row : List (Option ℕ)) (goals members member goal : ℕ) → length entries ≡ members * goals → member < members → goal < goals
    → cost_in goals (entries ++ row) member goal ≡ cost_in goals entries member goal
unfolding cost_in
cost-before entries row goals members member goal whole below within =
    let rows = mul-le-mul_left goals (let next : member + 1 ≤ members = omega (arith, below) in next) in
    get_or_append_left entries row None (member * goals + goal) (omega (arith, rows, whole, within))

-- an entry of the last row
cost-last : (entries row : List (Option ℕ)) (goals members goal : ℕ) → length entries ≡ members * goals
    → cost_in goals (entries ++ row) members goal ≡ get_or row goal None
unfolding cost_in
cost-last entries row goals members goal whole =
    let place : (members * goals + goal) - (members * goals) ≡ goal = omega arith in
    get_or-append_right entries row (members * goals) (members * goals + goal) None whole (omega arith) ∙ ap (λ n. get_or row n None) place

pub short-some : (cost : Option ℕ) (pushes : ℕ) → IfSome cost (λ n. n ≤ square_limit) → cost ≡ Some pushes → pushes ≤ square_limit
short-some None pushes short there = absurd (none-some pushes there)
short-some (Some n) pushes short there = let same = same_Some n pushes there in omega (arith, short, same)

-- one row more
pub AreTold-more : {b : BoardView} {square_of : ℕ → ℕ} {goals members : ℕ} {entries after : List (Option ℕ)} → AreTold b square_of goals members entries
    → IsRow b goals (square_of members) entries after → AreTold b square_of goals (members + 1) after
AreTold-more {b = b} {square_of = square_of} {goals = goals} {members = members} {entries = entries} told is =
    subst (AreTold b square_of goals (members + 1)) (sym is.added) (record {
      whole = let long = length-append entries is.row in omega (arith, long, told.whole, is.whole);
      told = λ member goal below within.
          let last = cost-last entries is.row goals members goal told.whole in
          let before = cost-before entries is.row goals members member goal told.whole in
          let old = told.told member goal in
          let new = is.told goal within in
          grind (arith, old, new, last, before);
      small = λ k pushes there.
          let place = k - length entries in
          let short = λ (inside : place < goals). short-some (get_or is.row place None) pushes (is.told place inside).short in
          let past = get_or-append_right entries is.row (length entries) k None refl in
          grind (arith, common_steps, told.small k pushes, some-within is.row place pushes, short, past, is.whole, there);
    })

-- rows before an end, up to which there are entries
pub AreCosts-below : (costs : Costs) (end : ℕ) (rows : List ℕ) → All (λ row. row < end) rows → length rows ≤ square_limit → AreSmall costs.entries.items
    → end * costs.goals ≤ length costs.entries.items → AreCosts costs rows
AreCosts-below costs end rows below few small room = record {
  exist = All-weaker (λ row. row < end) (λ row. (row + 1) * costs.goals ≤ length costs.entries.items) (λ row within.
      let next : row + 1 ≤ end = omega (arith, within) in omega (arith, mul-le-mul_left costs.goals next, room)) rows below;
  few = few;
  small = small;
}

-- entries of all squares, and a last row that costs nothing
pub AreTabled-spare : (b : BoardView) (goals : ℕ) (entries : List (Option ℕ)) → goals ≡ length (goals_of b)
    → AreTold b (λ square. square) goals (length b.area) entries → AreTabled b goals (entries ++ replicate goals (Some 0))
AreTabled-spare b goals entries goals_are told =
    let row : List (Option ℕ) = replicate goals (Some 0) in
    record {
      goals_are = goals_are;
      whole = let long = length-append entries row in let part = length-replicate {A = Option ℕ} goals (Some 0) in omega (arith, long, part, told.whole);
      told = λ square goal below within.
          subst (TellsCost b goal square) (sym (cost-before entries row goals (length b.area) square goal told.whole below within))
          (told.told square goal below within);
      spare = λ goal within. cost-last entries row goals (length b.area) goal told.whole ∙ get_or-replicate goals goal (Some 0) None within;
      small = λ k pushes there. grind (arith, common_steps, told.small k pushes);
    }

-- rows that are all spare
pub AreRows-spare : (end goals : ℕ) → AreRows end (replicate goals end)
AreRows-spare end goals = record {
  within = λ k d within. grind (arith, common_steps);
  apart = λ i j before within below same. grind (arith, common_steps);
}

-- a board has no more goals than squares
pub goals-few : (b : BoardView) → length (goals_of b) ≤ length b.area
goals-few b =
    let p = λ (n : ℕ). holds is_goal b.rows (spot_of b n) in
    let squares = range_with_len 0 (length b.area) in
    let goals = length-filter p squares in
    let count = count_by-le-length p squares in
    let all = length-range_with_len 0 (length b.area) in
    omega (arith, goals, count, all)

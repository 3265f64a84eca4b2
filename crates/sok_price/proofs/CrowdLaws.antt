-- A crowd has no solution: each of its boxes would end on a goal of its own.
use Rattle.sok_price.proofs.Words.{ℕ, ◌≡◌, ◌≢◌, ◌<◌, ◌∙◌, sym, subst, List, All, AllPairs, Contains, arith, length, get_or, map, get_or-map, length-map}
use Rattle.sok_price.proofs.Words.{All-from_get_or, Contains-get_or, slice_get-get_or, Dir, holds, is_goal, Position, SolvesFrom, BoardView, IsArea, goals_of}
use Rattle.sok_price.proofs.Words.{spot_of, rising-chosen, goal_at, IsCrowd}
use Rattle.sok_price.proofs.{AssignmentLaws.IsCarrying, CarriedLaws.Stands, CarriedLaws.carried, Places.apart_from, Places.apart_rising, Places.pigeonhole}
use Rattle.sok_price.proofs.{Places.same_place}

-- the goals of a board are apart
goals_apart : (b : BoardView) → AllPairs ◌≢◌ (goals_of b)
goals_apart b = apart_rising (goals_of b) (rising-chosen (λ n. holds is_goal b.rows (spot_of b n)) (length b.area))

-- boxes that have a goal each have no crowd: its members would have as many goals as they are
pub Excludes-IsCrowd : (b : BoardView) (boxes goal_of lengths members : List ℕ) → IsCarrying b boxes goal_of lengths → IsCrowd b boxes members → ⊥
Excludes-IsCrowd b boxes goal_of lengths members carrying crowd =
    let end : ℕ → ℕ = λ i. goal_at b (get_or goal_of i 0) in
    let ends = map end members in
    let long = length-map members end in
    let end_is : (k : ℕ) → k < length ends → get_or ends k 0 ≡ end (get_or members k 0) = λ k within.
    get_or-map end members k 0 0 (omega (arith, within, long)) in
    let box : (k : ℕ) → k < length ends → get_or members k 0 < length boxes = λ k within. crowd.listed.within k 0 (omega (arith, within, long)) in
    let owns : (k : ℕ) → k < length ends → get_or members k 0 < length goal_of = λ k within.
    omega (arith, box k within, carrying.a_goal_a_box) in
    let exists : (k : ℕ) → k < length ends → get_or goal_of (get_or members k 0) 0 < length (goals_of b) = λ k within.
    carrying.exist (get_or members k 0) 0 (owns k within) in
    let apart = apart_from ends (λ i j i_in j_in same.
    let goal = same_place (goals_of b) (goals_apart b) (get_or goal_of (get_or members i 0) 0) (get_or goal_of (get_or members j 0) 0)
    (exists i i_in) (exists j j_in) (sym (end_is i i_in) ∙ same ∙ end_is j j_in) in
    same_place members (apart_rising members crowd.listed.rising) i j (omega (arith, i_in, long)) (omega (arith, j_in, long))
    (same_place goal_of carrying.apart (get_or members i 0) (get_or members j 0) (owns i i_in) (owns j j_in) goal)) in
    let each : All (Contains crowd.goals) ends = All-from_get_or (Contains crowd.goals) ends 0 (λ k within.
    let i = get_or members k 0 in
    subst (Contains crowd.goals) (sym (end_is k within)) (crowd.all_reached (get_or boxes i 0) (end i) (get_or lengths i 0)
    (i, Contains-get_or members k 0 (omega (arith, within, long)), slice_get-get_or boxes i 0 (box k within))
    (Contains-get_or (goals_of b) (get_or goal_of i 0) 0 (exists k within)) (carrying.chain i (box k within)))) in
    omega (arith, pigeonhole ends crowd.goals apart each, crowd.fewer, long)

pub Never-IsCrowd : (b : BoardView) → IsArea b.rows b.area → (x : Position) (boxes members : List ℕ) → Stands b x boxes → IsCrowd b boxes members
    → (w : List Dir) → SolvesFrom b.rows x w → ⊥
Never-IsCrowd b area x boxes members stands crowd w solves =
    let ends = carried b area w x boxes stands solves in
    Excludes-IsCrowd b boxes ends.goal_of ends.lengths members ends.carrying crowd

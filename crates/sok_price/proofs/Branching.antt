-- Marks of goals, limited prices, and the boxes and goals of a search's tree.
use Rattle.sok_price.proofs.Words.{ℕ, ◌≡◌, ◌≢◌, ◌<◌, ◌≤◌, ◌⊎◌, List, Option, Some, None, Bool, true, false, All, arith, length, get_or, set, common_steps}
use Rattle.sok_price.proofs.Words.{is_marked, ◌∙◌, ◌==◌, inl, inr, sym, ap, AllPairs, Contains, map, both_ways, cases_eq, nat_tests, get_or_default, get_or-map}
use Rattle.sok_price.proofs.Words.{length-map, All-from_get_or, Any-from_list_any, list_any_at, Branch, Costing, Growth, IsGrowing, branch_at, is_met, IsTree}
use Rattle.sok_price.proofs.Places.{apart_from, few_below, same_place}

-- where a list has something, the place is within
pub some-within : {X : Type 0} (xs : List (Option X)) (k : ℕ) (x : X) → get_or xs k None ≡ Some x → k < length xs
some-within xs k x there = grind (arith, common_steps)

-- a mark more leaves the others
pub marked-set_kept : (marks : List Bool) (k j : ℕ) → k < length marks → is_marked marks j ≡ true → is_marked (set marks k true) j ≡ true
marked-set_kept marks k j within there = grind (arith, common_steps)

pub marked-set_cases : (marks : List Bool) (k j : ℕ) → is_marked (set marks k true) j ≡ true → (j ≡ k) ⊎ ((j ≢ k) × (is_marked marks j ≡ true))
marked-set_cases marks k j there = grind (arith, common_steps)

pub marked-set_clear : (marks : List Bool) (k j : ℕ) → k < length marks → is_marked (set marks k true) j ≡ false → (j ≢ k) × (is_marked marks j ≡ false)
marked-set_clear marks k j within clear = grind (arith, common_steps)

-- a price that is limited, in the list or past its end
pub price-at : (limit : ℕ) (prices : List ℕ) (k : ℕ) → All (λ price. price ≤ limit) prices → get_or prices k 0 ≤ limit
price-at limit prices k low = grind (arith, common_steps, low k 0)

abbrev pub no_branch : Branch
no_branch = record { member = 0; goal = 0; parent = 0; rise = 0 }

-- a box that is met is that of a branch, and the other way round
pub branch-met : (branches : List Branch) (member : ℕ) → is_met branches member ≡ true
    → (at : ℕ) × (at < length branches) × ((branch_at branches at).member ≡ member)
branch-met branches member met =
    let (at, branch, within, is, same) = Any-from_list_any (λ (b : Branch). b.member == member) branches met in
    let here : branch.member ≡ member = grind (arith, nat_tests, same) in
    (at, within, ap (λ (b : Branch). b.member) (get_or_default branches at no_branch branch within ∙ is) ∙ here)

pub met-branch : (branches : List Branch) (at : ℕ) → at < length branches → is_met branches (branch_at branches at).member ≡ true
met-branch branches at within =
    let member = (branch_at branches at).member in
    let same : (member == member) ≡ true = grind (arith, nat_tests) in
    list_any_at (λ (b : Branch). b.member == member) branches at no_branch within same

-- the boxes of the branches of a tree
abbrev pub boxes_of : List Branch → List ℕ
boxes_of branches = map (λ (b : Branch). b.member) branches

pub length-boxes_of : (branches : List Branch) → length (boxes_of branches) ≡ length branches
length-boxes_of branches = length-map branches (λ (b : Branch). b.member)

pub box-at : (branches : List Branch) (at : ℕ) → at < length branches → get_or (boxes_of branches) at 0 ≡ (branch_at branches at).member
box-at branches at within = get_or-map (λ (b : Branch). b.member) branches at no_branch 0 within

-- the boxes of a tree are apart
pub boxes-apart : (goal_of : List ℕ) (branches : List Branch) → IsTree goal_of branches → AllPairs ◌≢◌ (boxes_of branches)
boxes-apart goal_of branches tree = apart_from (boxes_of branches) (λ i j i_within j_within same.
    let one = tree.apart i j in
    let other = tree.apart j i in
    grind (arith, one, other, box-at branches i, box-at branches j, length-boxes_of branches, i_within, j_within, same))

-- the box of a branch exists
pub member-within : (goal_of : List ℕ) (branches : List Branch) (members : ℕ) → IsTree goal_of branches → length goal_of < members → (at : ℕ)
    → at < length branches → (branch_at branches at).member < members
member-within goal_of branches members tree more at within = let earlier = tree.earlier at in grind (arith, earlier, tree.root, more, within)

-- a tree has no more branches than there are boxes
pub few-branches : (goal_of : List ℕ) (branches : List Branch) (members : ℕ) → IsTree goal_of branches → length goal_of < members
    → length branches ≤ members
few-branches goal_of branches members tree more =
    let long = length-boxes_of branches in
    let few = few_below members (boxes_of branches) (boxes-apart goal_of branches tree) (All-from_get_or (λ k. k < members) (boxes_of branches) 0 (λ at within.
    grind (arith, box-at branches at, member-within goal_of branches members tree more at, long, within))) in
    omega (arith, few, long)

module _ {cost : Costing} {members goals seen : ℕ} {g : Growth} (growing : IsGrowing cost members goals seen g) where
  -- the goal of a branch exists
  pub goal-within : (at : ℕ) → 0 < at → at < length g.branches → (branch_at g.branches at).goal < length g.v
  goal-within at later inside =
      let exists = growing.matched.exist (branch_at g.branches at).member 0 (growing.tree.earlier at later inside) in
      omega (arith, exists, growing.tree.has at later inside, growing.matched.a_price_a_goal)

  -- goals of different branches differ, since those of different boxes do
  pub goals-apart : (at to : ℕ) → 0 < at → at < to → to < length g.branches → (branch_at g.branches at).goal ≢ (branch_at g.branches to).goal
  goals-apart at to later before within same =
      let one = same_place g.goal_of growing.matched.apart (branch_at g.branches at).member (branch_at g.branches to).member in
      let tree = growing.tree in
      grind (arith, one, tree.apart at to, tree.earlier at, tree.earlier to, tree.has at, tree.has to, later, before, within, same)

  -- a box that is met and has a goal is that of a branch behind the root
  pub branch-matched : (member : ℕ) → member < length g.goal_of → is_met g.branches member ≡ true
      → (at : ℕ) × (0 < at) × (at < length g.branches) × ((branch_at g.branches at).member ≡ member)
  branch-matched member has met =
      let (at, within, is) = branch-met g.branches member met in
      elim (cases_eq at 0) [
        | inl first ↦ let root = ap (λ k. (branch_at g.branches k).member) first in absurd (omega (arith, root, growing.tree.root, is, has))
        | inr later ↦ (at, omega (arith, later), within, is)
      ]

  -- a box that has a goal is in the tree where its goal is
  pub partner : (member : ℕ) → member < length g.goal_of → is_met g.branches member ≡ is_marked g.taken (get_or g.goal_of member 0)
  partner member has = both_ways (is_met g.branches member) (is_marked g.taken (get_or g.goal_of member 0)) (λ met.
      let (at, later, within, is) = branch-matched member has met in
      ap (is_marked g.taken) (sym (ap (λ k. get_or g.goal_of k 0) is) ∙ growing.tree.has at later within) ∙ growing.taken.marked at later within) (λ taken.
      let (at, later, within, is) = growing.taken.of (get_or g.goal_of member 0) taken in
      ap (is_met g.branches) (same_place g.goal_of growing.matched.apart member (branch_at g.branches at).member has (growing.tree.earlier at later within)
      (sym is ∙ sym (growing.tree.has at later within))) ∙ met-branch g.branches at within)

  -- a goal of the tree is one that a box has
  pub held : (goal : ℕ) → is_marked g.taken goal ≡ true → Contains g.goal_of goal
  held goal taken =
      let (at, later, within, is) = growing.taken.of goal taken in
      let inside = growing.tree.earlier at later within in (
        (branch_at g.branches at).member,
        inside,
        get_or_default g.goal_of (branch_at g.branches at).member goal 0 inside ∙ growing.tree.has at later within
            ∙ is,
      )

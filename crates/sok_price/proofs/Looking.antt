-- A search that has begun, and what slacks tell once one more box of the tree is looked at.
use Rattle.sok_price.proofs.Words.{ℕ, ◌≡◌, ◌<◌, ◌≤◌, ◌+◌, ◌∙◌, refl, sym, ap, subst, List, [], ◌∷◌, false, true≢false, arith, length, get_or, replicate}
use Rattle.sok_price.proofs.Words.{common_steps, length-replicate, Branch, Slack, Costing, Growth, IsAhead, IsBegun, IsReady, slack_at, unreached, branch_at}
use Rattle.sok_price.proofs.Words.{AreRises, IsTree, ◌-◌, ◌⊎◌, inl, inr, Bool, Option, Some, None, nat_tests, none-some, same_Some, get_or_default, low, IsSeen}
use Rattle.sok_price.proofs.Words.{closer, smaller, is_marked, square_limit, IsBound, IsSlack}
use Rattle.sok_price.proofs.Branching.{few-branches, member-within, no_branch, price-at}

-- a list of one thing has it or nothing at each place
same_everywhere : {X : Type 0} (n k : ℕ) (x : X) → get_or (replicate n x) k x ≡ x
same_everywhere n k x = grind (arith, common_steps)

-- a tree of the next box alone
abbrev root_of : ℕ → List Branch
root_of root = record { member = root; goal = 0; parent = 0; rise = 0 } ∷ []

tree-fresh : (goal_of : List ℕ) → IsTree goal_of (root_of (length goal_of))
tree-fresh goal_of = record {
  some = omega arith;
  root = refl;
  before = λ at later within. absurd (omega (arith, later, within));
  earlier = λ at later within. absurd (omega (arith, later, within));
  has = λ at later within. absurd (omega (arith, later, within));
  apart = λ at to before within. absurd (omega (arith, before, within));
}

rises-fresh : (cost : Costing) (u v : List ℕ) (root : ℕ) → AreRises cost u v (root_of root)
rises-fresh cost u v root = record {
  way = λ at later within. absurd (omega (arith, later, within));
  bound = λ at to _ later within. absurd (omega (arith, later, within));
  last = λ at within. grind (arith, common_steps);
  root = refl;
  close = λ at to at_in to_in. grind (arith, common_steps, at_in, to_in);
}

-- what no box is looked at from
abbrev unseen : Slack
unseen = record { rise = unreached; from = 0 }

pub IsAhead-begun : {cost : Costing} {members goals : ℕ} {g after : Growth} → IsReady cost members goals g → members ≤ square_limit → length g.goal_of < members
    → IsBegun g after → IsAhead cost members goals after
IsAhead-begun {cost = cost} {members = members} {goals = goals} {g = g} ready few more begun =
    let far : (goal : ℕ) → unreached ≤ (slack_at (replicate (length g.slacks) unseen) goal).rise = λ goal.
    omega (arith, ap (λ (s : Slack). s.rise) (same_everywhere (length g.slacks) goal unseen)) in
    subst (IsAhead cost members goals) (sym begun.same) (record {
      matched = ready.matched;
      roomy = record {
        taken = length-replicate (length g.taken) false ∙ ready.roomy.taken;
        slacks = length-replicate {A = Slack} (length g.slacks) unseen ∙ ready.roomy.slacks;
        takers = begun.whole ∙ ready.roomy.takers;
      };
      few = few;
      bounded = ready.bounded;
      low = ready.low;
      more = more;
      tells = begun.tells;
      tree = tree-fresh g.goal_of;
      taken = record {
        marked = λ at later within. absurd (omega (arith, later, within));
        of = λ goal there. absurd (true≢false (sym there ∙ same_everywhere (length g.taken) goal false));
      };
      rises = rises-fresh cost g.u g.v (length g.goal_of);
      slack = λ goal _ _ reached. absurd (omega (arith, reached, far goal));
      bounds = λ at goal seen _ _ _. absurd (omega (arith, seen));
      ahead = λ goal _ _. omega (arith, far goal);
    })

-- the smaller of two is one of them, and no more than the other
smaller-cases : (rise from : ℕ) (slack : Slack)
    → ((smaller rise from slack ≡ slack) × (slack.rise ≤ rise)) ⊎ ((smaller rise from slack ≡ record { rise = rise; from = from }) × (rise < slack.rise))
unfolding smaller
smaller-cases rise from slack = grind (arith, nat_tests)

-- a slack is kept, and the way from the box is no shorter, or it is that of the way from the box
closer-cases : (o : Option ℕ) (price goal_price rise from : ℕ) (slack : Slack)
    → ((closer o price goal_price rise from slack ≡ slack) × ((pushes : ℕ) → o ≡ Some pushes → slack.rise ≤ rise + (goal_price + pushes - price)))
    ⊎ ((pushes : ℕ) × (o ≡ Some pushes) × (closer o price goal_price rise from slack ≡ record { rise = rise + (goal_price + pushes - price); from = from })
    × (rise + (goal_price + pushes - price) < slack.rise))
unfolding closer
closer-cases None price goal_price rise from slack = inl (refl, λ pushes there. absurd (none-some pushes there))
closer-cases (Some pushes) price goal_price rise from slack = elim (smaller-cases (rise + (goal_price + pushes - price)) from slack) [
  | inl kept ↦ inl (kept.0, λ other there. let same = same_Some pushes other there in omega (arith, same, kept.1))
  | inr new ↦ inr (pushes, refl, new.0, new.1)
]

abbrev last_of : Growth → ℕ
last_of g = length g.branches - 1

abbrev newest : Growth → Branch
newest g = branch_at g.branches (last_of g)

-- what holds of a goal's slack once each box of the tree is looked at
pub record IsLooked (cost : Costing) (g : Growth) (goal : ℕ) (slack : Slack) : Type 0 where
  pub way : slack.rise < unreached → IsSlack cost g.u g.v g.branches goal slack
  pub bound : (at : ℕ) → at < length g.branches → IsBound cost g.u g.v g.branches slack.rise at goal
  pub ahead : (newest g).rise ≤ slack.rise

-- slacks after those of the goals outside a tree are looked at from a box of it, with its row of costs, its price, and its branch
abbrev pub LooksCloser : List (Option ℕ) → ℕ → List ℕ → List Bool → ℕ → ℕ → List Slack → List Slack → Type 0
LooksCloser row price v taken rise from before after = (goal : ℕ) → goal < length after → is_marked taken goal ≡ false
    → slack_at after goal ≡ closer (get_or row goal None) price (get_or v goal 0) rise from (slack_at before goal)

-- the slacks of goals outside the tree, looked at from the newest box
abbrev pub AreCloser : Costing → Growth → List Slack → Type 0
AreCloser cost g slacks = (goal : ℕ) → goal < length slacks → is_marked g.taken goal ≡ false → slack_at slacks goal
    ≡ closer (cost (newest g).member goal) (get_or g.u (newest g).member 0) (get_or g.v goal 0) (newest g).rise (last_of g) (slack_at g.slacks goal)

module _ {cost : Costing} {members goals : ℕ} {g : Growth} (growing : IsAhead cost members goals g) where
  -- what is asked where a goal is looked at from the newest box: that its price is fair
  pub look-fair : (branch : Branch) → newest g ≡ branch → (goal pushes : ℕ) → goal < goals → cost branch.member goal ≡ Some pushes
      → get_or g.u branch.member 0 ≤ get_or g.v goal 0 + pushes
  look-fair branch is goal pushes inside way =
      let last : last_of g < length g.branches = omega (arith, growing.tree.some) in
      let exists = member-within g.goal_of g.branches members growing.tree growing.more (last_of g) last in
      growing.matched.fair branch.member goal pushes (omega (arith, exists, ap (λ (b : Branch). b.member) is, growing.matched.a_price_a_box))
      (omega (arith, inside, growing.matched.a_price_a_goal)) way

  looked : (goal : ℕ) (slack : Slack) → goal < goals → is_marked g.taken goal ≡ false
      → slack ≡ closer (cost (newest g).member goal) (get_or g.u (newest g).member 0) (get_or g.v goal 0) (newest g).rise (last_of g) (slack_at g.slacks goal)
      → IsLooked cost g goal slack
  looked goal slack within free is =
      let last = last_of g in
      let inside : last < length g.branches = omega (arith, growing.tree.some) in
      let price = get_or g.u (newest g).member 0 in
      let fair : (pushes : ℕ) → cost (newest g).member goal ≡ Some pushes → price ≤ get_or g.v goal 0 + pushes = λ pushes way.
      look-fair (newest g) refl goal pushes within way in
      elim (closer-cases (cost (newest g).member goal) price (get_or g.v goal 0) (newest g).rise last (slack_at g.slacks goal)) [
        | inl (kept, new) ↦
            let same : slack ≡ slack_at g.slacks goal = is ∙ kept in
            let rise = ap (λ (s : Slack). s.rise) same in
            record {
              way = λ reached. subst (IsSlack cost g.u g.v g.branches goal) (sym same) (growing.slack goal within free (omega (arith, reached, rise)));
              bound = λ at here pushes way.
                  let old = growing.bounds at goal in
                  grind (arith, new pushes, fair pushes, rise, old, here, within, free, way);
              ahead = omega (arith, growing.ahead goal within free, rise);
            }
        | inr (pushes, way, new, less) ↦
            let same = is ∙ new in
            let rise = ap (λ (s : Slack). s.rise) same in
            let from = ap (λ (s : Slack). s.from) same in
            let fair' = fair pushes way in
            record {
              way = λ _. record {
                within = omega (arith, inside, from);
                pushes = pushes;
                way = ap (λ k. cost (branch_at g.branches k).member goal) from ∙ way;
                exact = grind (arith, from, rise, fair');
              };
              bound = λ at here pushes' way'.
                  let old = growing.bounds at goal in
                  grind (arith, way, way', rise, fair', less, old, here, within, free);
              ahead = omega (arith, rise);
            }
      ]

  -- the newest branch, as it is read
  pub newest-read : (count : ℕ) (branch : Branch) → count ≡ length g.branches → branch ≡ get_or g.branches (count - 1) branch → newest g ≡ branch
  newest-read count branch counted read =
      let last : last_of g ≡ count - 1 = omega (arith, counted) in
      ap (branch_at g.branches) last ∙ get_or_default g.branches (count - 1) no_branch branch (omega (arith, growing.tree.some, last)) ∙ sym read

  -- its price, as it is read
  pub price-read : (branch : Branch) (price : ℕ) → newest g ≡ branch → price ≡ get_or g.u branch.member price → get_or g.u branch.member 0 ≡ price
  price-read branch price is read =
      let last : last_of g < length g.branches = omega (arith, growing.tree.some) in
      let exists = member-within g.goal_of g.branches members growing.tree growing.more (last_of g) last in
      get_or_default g.u branch.member 0 price (omega (arith, exists, ap (λ (b : Branch). b.member) is, growing.matched.a_price_a_box)) ∙ sym read

  -- and that the rise and the goal's price are not large
  pub look-small : (branch : Branch) → newest g ≡ branch → (price : ℕ) → price ≤ low members g.floor → branch.rise + price ≤ 2147483648
  look-small branch is price bound =
      let last : last_of g < length g.branches = omega (arith, growing.tree.some) in
      let own = price-at (low members g.floor) g.u (newest g).member growing.low.boxes in
      let few = few-branches g.goal_of g.branches members growing.tree growing.more in
      let close = growing.rises.close 0 (last_of g) growing.tree.some last in
      omega (arith, bound, own, close, growing.rises.root, few, growing.few, growing.bounded, ap (λ (b : Branch). b.rise) is)

  -- slacks that are looked at from the newest branch as it is read
  pub closer-read : (branch : Branch) (from price : ℕ) (row : List (Option ℕ)) (slacks : List Slack) → newest g ≡ branch → last_of g ≡ from
      → get_or g.u branch.member 0 ≡ price → ((goal : ℕ) → goal < goals → get_or row goal None ≡ cost branch.member goal) → length slacks ≡ length g.slacks
      → LooksCloser row price g.v g.taken branch.rise from g.slacks slacks → AreCloser cost g slacks
  closer-read branch from price row slacks is last priced told long closer_ goal within free =
      let way = told goal (omega (arith, within, long, growing.roomy.slacks)) ∙ ap (λ (b : Branch). cost b.member goal) (sym is) in
      let price_is = sym priced ∙ ap (λ (b : Branch). get_or g.u b.member 0) (sym is) in
      closer_ goal within free
      ∙ (λ i. closer (way i) (price_is i) (get_or g.v goal 0) (sym is i).rise (sym last i) (slack_at g.slacks goal))

  -- once the newest box is looked at, the slacks are those of all boxes of the tree
  pub IsSeen-looked : (slacks : List Slack) → length slacks ≡ length g.slacks → AreCloser cost g slacks
      → IsSeen cost members goals (record g { slacks = slacks })
  IsSeen-looked slacks long closer_ =
      let each : (goal : ℕ) → goal < goals → is_marked g.taken goal ≡ false → IsLooked cost g goal (slack_at slacks goal) = λ goal within free.
      looked goal (slack_at slacks goal) within free (closer_ goal (omega (arith, within, long, growing.roomy.slacks)) free) in
      record {
        matched = growing.matched;
        roomy = record { taken = growing.roomy.taken; slacks = long ∙ growing.roomy.slacks; takers = growing.roomy.takers };
        few = growing.few;
        bounded = growing.bounded;
        low = growing.low;
        more = growing.more;
        tells = growing.tells;
        tree = growing.tree;
        taken = growing.taken;
        rises = growing.rises;
        slack = λ goal within free. (each goal within free).way;
        bounds = λ at goal _ here within free. (each goal within free).bound at here;
        ahead = λ goal within free. (each goal within free).ahead;
      }

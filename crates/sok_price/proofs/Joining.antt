-- A goal that is reached joins the tree, with the box that has it; the goal that is next, and what is told of it.
use Rattle.sok_price.proofs.Words.{ℕ, ◌≡◌, ◌≢◌, ◌<◌, ◌≤◌, ◌+◌, ◌*◌, ◌-◌, ◌∙◌, ◌++◌, inl, inr, refl, sym, ap, subst, List, [], ◌∷◌, Some, true}
use Rattle.sok_price.proofs.Words.{arith, length, get_or, set, cases_eq, get_or_append_left, get_or_push, length_push, length-set, Branch, Slack, Near, Costing}
use Rattle.sok_price.proofs.Words.{Growth, IsAhead, IsNext, IsSeen, joined, slack_at, is_marked, branch_at, AreRises, AreTaken, IsBound, IsSlack, IsTree}
use Rattle.sok_price.proofs.Words.{Option, None, get_or_default, TellsTaker, TellsNext, TellsNearest, false, get_or-set_same, square_limit}
use Rattle.sok_price.proofs.Branching.{few-branches, goal-within, no_branch, marked-set_kept, marked-set_cases, marked-set_clear}
use Rattle.sok_price.proofs.CostRows.{AreShort}

module _ {cost : Costing} {members goals : ℕ} {g : Growth} {near : Near} (growing : IsSeen cost members goals g) (next : IsNext cost g near) where
  -- the next goal exists
  pub next-within : near.goal < goals
  next-within = omega (arith, next.within, growing.matched.a_price_a_goal)

  -- each rise of the tree is at most that of the goal that is next
  pub rises-next : (at : ℕ) → at < length g.branches → (branch_at g.branches at).rise ≤ near.slack.rise
  rises-next at inside =
      omega (arith, growing.rises.last at inside, growing.ahead near.goal next-within next.outside, ap (λ (s : Slack). s.rise) next.slack)

  -- no box of the tree reaches the next goal earlier
  bound-next : (at : ℕ) → at < length g.branches → IsBound cost g.u g.v g.branches near.slack.rise at near.goal
  bound-next at inside pushes way =
      omega (arith, growing.bounds at near.goal inside inside next-within next.outside pushes way, ap (λ (s : Slack). s.rise) next.slack)

-- what a goal and a box join with: the box has the goal, which the tree reaches next
pub record IsJoining (cost : Costing) (members goals : ℕ) (g : Growth) (near : Near) (member : ℕ) : Type 0 where
  pub short : AreShort cost
  pub growing : IsSeen cost members goals g
  pub next : IsNext cost g near
  pub earlier : member < length g.goal_of
  pub has : get_or g.goal_of member 0 ≡ near.goal

abbrev pub branch_of : Near → ℕ → Branch
branch_of near member = record { member = member; goal = near.goal; parent = near.slack.from; rise = near.slack.rise }

abbrev grown_by : Growth → Near → ℕ → List Branch
grown_by g near member = g.branches ++ branch_of near member ∷ []

module _ (g : Growth) (near : Near) (member : ℕ) where
  long-grown : length (grown_by g near member) ≡ length g.branches + 1
  long-grown = length_push g.branches (branch_of near member)

  branch-old : (at : ℕ) → at < length g.branches → branch_at (grown_by g near member) at ≡ branch_at g.branches at
  branch-old at within = get_or_append_left g.branches (branch_of near member ∷ []) no_branch at within

  branch-new : (at : ℕ) → at ≡ length g.branches → branch_at (grown_by g near member) at ≡ branch_of near member
  branch-new at same = get_or_push g.branches (branch_of near member) no_branch at (sym same)

  -- what holds of each branch of the tree and of the new one holds of each
  each_branch : (P : ℕ → Branch → Type 0) → ((at : ℕ) → at < length g.branches → P at (branch_at g.branches at)) → P (length g.branches) (branch_of near member)
      → (at : ℕ) → at < length (grown_by g near member) → P at (branch_at (grown_by g near member) at)
  each_branch P old new at within = elim (cases_eq at (length g.branches)) [
    | inl same ↦ subst (P at) (sym (branch-new at same)) (subst (λ k. P k (branch_of near member)) (sym same) new)
    | inr other ↦
        let inside : at < length g.branches = omega (arith, within, long-grown, other) in
        subst (P at) (sym (branch-old at inside)) (old at inside)
  ]

  -- a way of the tree is one of the grown tree
  slack-grown : (cost : Costing) (goal : ℕ) (slack : Slack) → IsSlack cost g.u g.v g.branches goal slack
      → IsSlack cost g.u g.v (grown_by g near member) goal slack
  slack-grown cost goal slack old =
      let same = branch-old slack.from old.within in
      record {
        within = omega (arith, old.within, long-grown);
        pushes = old.pushes;
        way = ap (λ (b : Branch). cost b.member goal) same ∙ old.way;
        exact = grind (arith, old.exact, same);
      }

module _ {cost : Costing} {members goals : ℕ} {g : Growth} {near : Near} {member : ℕ} (is : IsJoining cost members goals g near member) where
  -- the box is not in the tree yet, since its goal is not
  unmet : (at : ℕ) → at < length g.branches → (branch_at g.branches at).member ≢ member
  unmet at within same =
      let marked = is.growing.taken.marked at in
      let has = is.growing.tree.has at in
      grind (arith, marked, has, is.growing.tree.root, is.next.outside, is.earlier, is.has, same, within)

  tree-joined : IsTree g.goal_of (grown_by g near member)
  tree-joined =
      let tree = is.growing.tree in
      record {
        some = omega (arith, long-grown g near member);
        root = ap (λ (b : Branch). b.member) (branch-old g near member 0 tree.some) ∙ tree.root;
        before = λ at later within. each_branch g near member (λ k b. 0 < k → b.parent < k) (λ k inside after. tree.before k after inside)
            (λ _. is.next.way.within) at within later;
        earlier = λ at later within. each_branch g near member (λ k b. 0 < k → b.member < length g.goal_of) (λ k inside after. tree.earlier k after inside)
            (λ _. is.earlier) at within later;
        has = λ at later within. each_branch g near member (λ k b. 0 < k → get_or g.goal_of b.member 0 ≡ b.goal) (λ k inside after. tree.has k after inside)
            (λ _. is.has) at within later;
        apart = λ at to before within.
            let inside : at < length g.branches = omega (arith, before, within, long-grown g near member) in
            subst (λ (b : Branch). b.member ≢ (branch_at (grown_by g near member) to).member) (sym (branch-old g near member at inside))
            (each_branch g near member (λ k b. at < k → (branch_at g.branches at).member ≢ b.member) (λ k k_in after. tree.apart at k after k_in)
            (λ _. unmet at inside) to within before);
      }

  -- not all boxes are of the tree, so there is room for one more
  pub fewer-branches : length g.branches < members
  fewer-branches =
      omega (arith, few-branches g.goal_of (grown_by g near member) members tree-joined is.growing.more, long-grown g near member)

  taken-room : near.goal < length g.taken
  taken-room = omega (arith, next-within is.growing is.next, is.growing.roomy.taken)

  taken-joined : AreTaken (set g.taken near.goal true) (grown_by g near member)
  taken-joined = record {
    marked = λ at later within. each_branch g near member (λ k b. 0 < k → is_marked (set g.taken near.goal true) b.goal ≡ true)
        (λ k inside after. marked-set_kept g.taken near.goal (branch_at g.branches k).goal taken-room (is.growing.taken.marked k after inside))
        (λ _. get_or-set_same g.taken near.goal true false taken-room) at within later;
    of = λ goal there. elim (marked-set_cases g.taken near.goal goal there) [
      | inl same ↦ (
        length g.branches,
        is.growing.tree.some,
        omega (arith, long-grown g near member),
        ap (λ (b : Branch). b.goal) (branch-new g near member (length g.branches) refl) ∙ sym same,
      )
      | inr old ↦
          let (at, later, inside, is_at) = is.growing.taken.of goal old.1 in
          (at, later, omega (arith, inside, long-grown g near member), ap (λ (b : Branch). b.goal) (branch-old g near member at inside) ∙ is_at)
    ];
  }

  rises-joined : AreRises cost g.u g.v (grown_by g near member)
  rises-joined =
      let growing = is.growing in
      let next = is.next in
      let bs = grown_by g near member in
      let long = long-grown g near member in
      let from = next.way.within in
      let short = is.short (branch_at g.branches near.slack.from).member near.goal next.way.pushes next.way.way in
      let own = growing.matched.exact member is.earlier in
      let own_short = is.short member (get_or g.goal_of member 0) own.pushes own.way in
      let goal_price = ap (λ k. get_or g.v k 0) is.has in
      let last_rise = ap (λ (b : Branch). b.rise) (branch-new g near member (length bs - 1) (omega (arith, long))) in
      let fair : (goal pushes : ℕ) → goal < length g.v → cost member goal ≡ Some pushes → get_or g.u member 0 ≤ get_or g.v goal 0 + pushes =
      λ goal pushes inside way. growing.matched.fair member goal pushes (omega (arith, is.earlier, growing.more, growing.matched.a_price_a_box)) inside way in
      record {
        way = λ at later inside. each_branch g near member (λ k b. 0 < k → IsSlack cost g.u g.v bs b.goal (record { rise = b.rise; from = b.parent }))
            (λ k k_in after. slack-grown g near member cost (branch_at g.branches k).goal
            (record { rise = (branch_at g.branches k).rise; from = (branch_at g.branches k).parent }) (growing.rises.way k after k_in))
            (λ _. slack-grown g near member cost near.goal near.slack next.way) at inside later;
        bound = λ at to at_in later to_in. each_branch g near member (λ _ a. (pushes : ℕ) → cost a.member (branch_at bs to).goal ≡ Some pushes
            → (branch_at bs to).rise + get_or g.u a.member 0 ≤ a.rise + get_or g.v (branch_at bs to).goal 0 + pushes)
            (λ k k_in. each_branch g near member (λ t b. 0 < t → (pushes : ℕ) → cost (branch_at g.branches k).member b.goal ≡ Some pushes
            → b.rise + get_or g.u (branch_at g.branches k).member 0 ≤ (branch_at g.branches k).rise + get_or g.v b.goal 0 + pushes)
            (λ t t_in after. growing.rises.bound k t k_in after t_in) (λ _. bound-next growing next k k_in) to to_in later)
            (each_branch g near member (λ t b. 0 < t → (pushes : ℕ) → cost member b.goal ≡ Some pushes
            → b.rise + get_or g.u member 0 ≤ near.slack.rise + get_or g.v b.goal 0 + pushes)
            (λ t t_in after pushes way. let bound = fair (branch_at g.branches t).goal pushes (goal-within growing t after t_in) way in
            omega (arith, bound, rises-next growing next t t_in))
            (λ _ pushes way. let bound = fair near.goal pushes next.within way in omega (arith, bound)) to to_in later) at at_in;
        last = λ at inside. each_branch g near member (λ _ b. b.rise ≤ (branch_at bs (length bs - 1)).rise)
            (λ k k_in. omega (arith, rises-next growing next k k_in, last_rise)) (omega (arith, last_rise)) at inside;
        root = ap (λ (b : Branch). b.rise) (branch-old g near member 0 growing.tree.some) ∙ growing.rises.root;
        close = λ at to at_in to_in. each_branch g near member
            (λ _ a. get_or g.u a.member 0 + (branch_at bs to).rise ≤ get_or g.u (branch_at bs to).member 0 + a.rise + square_limit * (length bs - 1))
            (λ k k_in. each_branch g near member
            (λ _ b. get_or g.u (branch_at g.branches k).member 0 + b.rise ≤ get_or g.u b.member 0 + (branch_at g.branches k).rise + square_limit * (length bs - 1))
            (λ t t_in. omega (arith, growing.rises.close k t k_in t_in, long))
            (let parent = growing.rises.close k near.slack.from k_in from in omega (arith, next.way.exact, own.exact, short, goal_price, parent, long)) to to_in)
            (each_branch g near member (λ _ b. get_or g.u member 0 + b.rise ≤ get_or g.u b.member 0 + near.slack.rise + square_limit * (length bs - 1))
            (λ t t_in. let parent = growing.rises.close near.slack.from t from t_in in
            omega (arith, next.way.exact, own.exact, own_short, goal_price, parent, long)) (omega arith) to to_in) at at_in;
      }

  -- once it has joined, all but the new box are looked at
  pub IsAhead-joined : IsAhead cost members goals (joined near member g)
  unfolding joined
  IsAhead-joined =
      let growing = is.growing in
      let long = long-grown g near member in
      let last_rise = ap (λ (b : Branch). b.rise) (branch-new g near member (length (grown_by g near member) - 1) (omega (arith, long))) in
      record {
        matched = growing.matched;
        roomy = record {
          taken = length-set g.taken near.goal true ∙ growing.roomy.taken;
          slacks = growing.roomy.slacks;
          takers = growing.roomy.takers;
        };
        few = growing.few;
        bounded = growing.bounded;
        low = growing.low;
        more = growing.more;
        tells = growing.tells;
        tree = tree-joined;
        taken = taken-joined;
        rises = rises-joined;
        slack = λ goal within clear reached. slack-grown g near member cost goal (slack_at g.slacks goal)
            (growing.slack goal within (marked-set_clear g.taken near.goal goal taken-room clear).1 reached);
        bounds = λ at goal seen _ within clear.
            let inside : at < length g.branches = omega (arith, seen, long) in
            subst (λ (b : Branch). (pushes : ℕ) → cost b.member goal ≡ Some pushes
            → (slack_at g.slacks goal).rise + get_or g.u b.member 0 ≤ b.rise + get_or g.v goal 0 + pushes) (sym (branch-old g near member at inside))
            (growing.bounds at goal inside inside within (marked-set_clear g.taken near.goal goal taken-room clear).1);
        ahead = λ goal within clear.
            let least = is.next.least goal (omega (arith, within, growing.matched.a_price_a_goal))
            (marked-set_clear g.taken near.goal goal taken-room clear).1 in
            omega (arith, least, last_rise);
      }

-- a nearest goal is next
pub TellsNext-nearest : {cost : Costing} {members goals : ℕ} {g : Growth} (near : Option Near) → IsSeen cost members goals g
    → TellsNearest g.taken g.slacks (length g.slacks) near → TellsNext cost g near
TellsNext-nearest None growing none =
    λ goal within free. none goal (omega (arith, within, growing.matched.a_price_a_goal, growing.roomy.slacks)) free
TellsNext-nearest {cost = cost} {g = g} (Some near) growing nearest =
    let rise = ap (λ (s : Slack). s.rise) nearest.slack in
    record {
      within = omega (arith, nearest.within, growing.matched.a_price_a_goal, growing.roomy.slacks);
      outside = nearest.free;
      slack = nearest.slack;
      way = subst (IsSlack cost g.u g.v g.branches near.goal) nearest.slack
          (growing.slack near.goal (omega (arith, nearest.within, growing.roomy.slacks)) nearest.free (omega (arith, nearest.reached, rise)));
      least = λ goal inside free. nearest.least goal (omega (arith, inside, growing.matched.a_price_a_goal, growing.roomy.slacks)) free;
    }

-- a next goal that a box has joins, with the box, as the entry that is read tells
pub IsJoining-next : {cost : Costing} {members goals : ℕ} {g : Growth} {near : Near} {member : ℕ} {found : Option Near} (entry : Option ℕ) → AreShort cost
    → IsSeen cost members goals g → TellsNext cost g found → found ≡ Some near → entry ≡ get_or g.takers near.goal entry → entry ≡ Some member
    → IsJoining cost members goals g near member
IsJoining-next {cost = cost} {g = g} {near = near} entry short growing tells found read is =
    let next = subst (TellsNext cost g) found tells in
    let inside : near.goal < length g.takers = omega (arith, next-within growing next, growing.roomy.takers) in
    let tells = subst (TellsTaker g.goal_of (length g.goal_of) near.goal) (get_or_default g.takers near.goal None entry inside ∙ sym read ∙ is)
    (growing.tells near.goal inside) in
    record { short = short; growing = growing; next = next; earlier = tells.0; has = tells.1 }

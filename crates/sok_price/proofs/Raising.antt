-- Prices of a tree, raised until its next goal is reached, stay fair and exact; then the next box has a goal.
use Rattle.sok_price.proofs.Words.{ℕ, ◌≡◌, ◌<◌, ◌≤◌, ◌∙◌, inl, inr, sym, ap, false, true≢false, arith, length, get_or, cases_Bool, get_or_default, Near}
use Rattle.sok_price.proofs.Words.{AreFair, AreTight, Costing, IsMatched, IsTight, low, Growth, IsNext, IsRaised, IsSeen, branch_at, is_marked, is_met}
use Rattle.sok_price.proofs.Words.{GoesTight, List, All-from_get_or, IsReady, IsRematched, Rematches}
use Rattle.sok_price.proofs.{Branching.branch-matched, Branching.branch-met, Branching.few-branches, Branching.held, Branching.met-branch, Branching.partner}
use Rattle.sok_price.proofs.{Branching.price-at, CostRows.AreShort, Joining.rises-next}

-- a search before and after the prices of its tree are raised to its next goal
pub record AreLifted (cost : Costing) (members goals : ℕ) (g : Growth) (near : Near) (u v : List ℕ) : Type 0 where
  pub short : AreShort cost
  pub growing : IsSeen cost members goals g
  pub next : IsNext cost g near
  pub raised : IsRaised near.slack.rise g u v

module _ {cost : Costing} {members goals : ℕ} {g : Growth} {near : Near} {u v : List ℕ} (are : AreLifted cost members goals g near u v) where
  u-unmet : (member : ℕ) → is_met g.branches member ≡ false → get_or u member 0 ≡ get_or g.u member 0
  u-unmet member unmet = are.raised.boxes.others member
      (λ at _ within same. true≢false (sym (met-branch g.branches at within) ∙ ap (is_met g.branches) same ∙ unmet))

  v-free : (goal : ℕ) → is_marked g.taken goal ≡ false → get_or v goal 0 ≡ get_or g.v goal 0
  v-free goal free = are.raised.goals.others goal
      (λ at later within same. true≢false (sym (are.growing.taken.marked at later within) ∙ ap (is_marked g.taken) same ∙ free))

  rise-of : (at : ℕ) → at < length g.branches → (branch_at g.branches at).rise ≤ near.slack.rise
  rise-of at within = rises-next are.growing are.next at within

  -- no price falls
  v-rises : (goal : ℕ) → get_or g.v goal 0 ≤ get_or v goal 0
  v-rises goal = elim (cases_Bool (is_marked g.taken goal)) [
    | inr free ↦ omega (arith, v-free goal free)
    | inl taken ↦
        let (at, later, within, is) = are.growing.taken.of goal taken in
        omega (arith, are.raised.goals.raised at later within, ap (λ k. get_or g.v k 0) is, ap (λ k. get_or v k 0) is)
  ]

  fair-raised : AreFair cost u v
  fair-raised member goal pushes member_within goal_within way =
      let growing = are.growing in
      let fair = growing.matched.fair member goal pushes (omega (arith, member_within, are.raised.boxes.whole))
      (omega (arith, goal_within, are.raised.goals.whole)) way in
      elim (cases_Bool (is_met g.branches member)) [
        | inr unmet ↦ omega (arith, fair, u-unmet member unmet, v-rises goal)
        | inl met ↦
            let (at, within, is) = branch-met g.branches member met in
            let price = are.raised.boxes.raised at (omega arith) within in
            let way' = ap (λ k. cost k goal) is ∙ way in
            let rise = rise-of at within in
            elim (cases_Bool (is_marked g.taken goal)) [
              | inl taken ↦
                  let (to, later, to_within, to_is) = growing.taken.of goal taken in
                  let bound = growing.rises.bound at to within later to_within pushes (ap (cost (branch_at g.branches at).member) to_is ∙ way') in
                  let to_rise = rise-of to to_within in
                  grind (arith, price, is, are.raised.goals.raised to later to_within, to_is, bound, rise, to_rise)
              | inr free ↦
                  let inside : goal < length g.v = omega (arith, goal_within, are.raised.goals.whole) in
                  let bound = growing.bounds at goal within within (omega (arith, inside, growing.matched.a_price_a_goal)) free pushes way' in
                  grind (arith, price, is, v-free goal free, bound, are.next.least goal inside free, rise)
            ]
      ]

  exact-raised : AreTight cost u v g.goal_of
  exact-raised member has =
      let tight = are.growing.matched.exact member has in
      record {
        pushes = tight.pushes;
        way = tight.way;
        exact = elim (cases_Bool (is_met g.branches member)) [
          | inr unmet ↦ omega (arith, u-unmet member unmet, v-free (get_or g.goal_of member 0) (sym (partner are.growing member has) ∙ unmet), tight.exact)
          | inl met ↦
              let (at, later, within, is) = branch-matched are.growing member has met in
              let goal_price = are.raised.goals.raised at later within in
              let goal_is = sym (are.growing.tree.has at later within) ∙ ap (λ k. get_or g.goal_of k 0) is in
              grind (arith, are.raised.boxes.raised at (omega arith) within, goal_price, is, goal_is, tight.exact)
        ];
      }

  -- each way of the tree becomes exact
  pub tight-raised : GoesTight cost u v g.branches
  tight-raised at later within =
      let way = are.growing.rises.way at later within in
      let parent = (branch_at g.branches at).parent in
      let price = are.raised.boxes.raised parent (omega arith) way.within in
      let goal_price = are.raised.goals.raised at later within in
      record { pushes = way.pushes; way = way.way; exact = omega (arith, price, goal_price, way.exact, rise-of at within, rise-of parent way.within) }

  -- and so does that to the next goal
  pub tight-next : IsTight cost u v (branch_at g.branches near.slack.from).member near.goal
  tight-next =
      let way = are.next.way in
      let price = are.raised.boxes.raised near.slack.from (omega arith) way.within in
      let goal_price = v-free near.goal are.next.outside in
      record { pushes = way.pushes; way = way.way; exact = omega (arith, price, goal_price, way.exact, rise-of near.slack.from way.within) }

  pub IsMatched-raised : IsMatched cost members goals g.floor u v g.goal_of
  IsMatched-raised = record {
    a_price_a_box = are.raised.boxes.whole ∙ are.growing.matched.a_price_a_box;
    a_price_a_goal = are.raised.goals.whole ∙ are.growing.matched.a_price_a_goal;
    exist = are.growing.matched.exist;
    apart = are.growing.matched.apart;
    fair = fair-raised;
    exact = exact-raised;
    idle = λ goal within none. elim (cases_Bool (is_marked g.taken goal)) [
      | inl taken ↦ absurd (none (held are.growing goal taken))
      | inr free ↦ omega (arith, v-free goal free, are.growing.matched.idle goal within none)
    ];
  }

  -- prices of the boxes of a tree are close to that of a goal that no box has
  low-box : get_or g.v near.goal 0 ≤ g.floor → (member : ℕ) → get_or g.u member 0 ≤ low members g.floor → get_or u member 0 ≤ low members g.floor
  low-box idle member old_low = elim (cases_Bool (is_met g.branches member)) [
    | inr unmet ↦ omega (arith, u-unmet member unmet, old_low)
    | inl met ↦
        let (at, within, is) = branch-met g.branches member met in
        let way = are.next.way in
        let short = are.short (branch_at g.branches near.slack.from).member near.goal way.pushes way.way in
        let rise = rise-of at within in
        let close = are.growing.rises.close at near.slack.from within way.within in
        let few = few-branches g.goal_of g.branches members are.growing.tree are.growing.more in
        grind (arith, are.raised.boxes.raised at (omega arith) within, is, way.exact, short, rise, close, few, idle)
  ]

  -- after a raise to a goal that no box has prices are low
  pub low-raised : get_or g.v near.goal 0 ≤ g.floor → ((member : ℕ) → get_or u member 0 ≤ low members g.floor)
      × ((goal : ℕ) → get_or v goal 0 ≤ low members g.floor)
  low-raised idle =
      let boxes : (member : ℕ) → get_or u member 0 ≤ low members g.floor = λ member.
      low-box idle member (price-at (low members g.floor) g.u member are.growing.low.boxes) in (
        boxes,
        λ goal. elim (cases_Bool (is_marked g.taken goal)) [
          | inr free ↦ omega (arith, v-free goal free, price-at (low members g.floor) g.v goal are.growing.low.goals)
          | inl taken ↦
              let (member, within, has) = held are.growing goal taken in
              let goal_is = ap (λ k. get_or v k 0) (get_or_default g.goal_of member 0 goal within ∙ has) in
              omega (arith, (exact-raised member within).exact, goal_is, boxes member)
        ],
      )

-- the rise to a next goal is small
pub rise-small : {cost : Costing} {members goals : ℕ} {g : Growth} {near : Near} → AreShort cost → IsSeen cost members goals g → IsNext cost g near
    → near.slack.rise ≤ 2147483648
rise-small {members = members} {g = g} {near = near} short growing next =
    let way = next.way in
    let pushes = short (branch_at g.branches near.slack.from).member near.goal way.pushes way.way in
    let close = growing.rises.close 0 near.slack.from growing.tree.some way.within in
    let few = few-branches g.goal_of g.branches members growing.tree growing.more in
    let price = price-at (low members g.floor) g.v near.goal growing.low.goals in
    omega (arith, way.exact, pushes, close, growing.rises.root, few, growing.few, growing.bounded, price)

-- all of a search after its prices are raised
abbrev pub lifted : Growth → List ℕ → List ℕ → Growth
lifted g u v = record g { u = u; v = v }

module _ {cost : Costing} {members goals : ℕ} {g : Growth} {near : Near} {u v : List ℕ} (are : AreLifted cost members goals g near u v)
    (free : (member : ℕ) → member < length g.goal_of → get_or g.goal_of member 0 ≡ near.goal → ⊥) where
  -- the next goal, if no box has it, is reached
  pub IsRematched-raised : (goal_of : List ℕ) → Rematches (lifted g u v) near goal_of → IsRematched cost (lifted g u v) goal_of
  IsRematched-raised goal_of rematches = rematches cost members goals g.floor (IsMatched-raised are) (tight-raised are)
      (record { within = omega (arith, are.next.within, are.raised.goals.whole); free = free; from = are.next.way.within; tight = tight-next are })

  -- after it all is ready for the next box
  pub IsReady-rematched : (goal_of : List ℕ) → IsRematched cost (lifted g u v) goal_of
      → IsReady cost members goals (record (lifted g u v) { goal_of = goal_of })
  IsReady-rematched goal_of rematched =
      let growing = are.growing in
      let matched = IsMatched-raised are in
      let idle = growing.matched.idle near.goal (omega (arith, are.next.within, growing.matched.a_price_a_goal))
      (λ (k, inside, has). free k inside (get_or_default g.goal_of k 0 near.goal inside ∙ has)) in
      let (boxes, prices) = low-raised are idle in
      record {
        matched = record {
          a_price_a_box = matched.a_price_a_box;
          a_price_a_goal = matched.a_price_a_goal;
          exist = λ k d inside. omega (arith, rematched.exist k d inside, matched.a_price_a_goal);
          apart = rematched.apart;
          fair = matched.fair;
          exact = rematched.exact;
          idle = λ goal inside none. matched.idle goal inside (λ among. none (rematched.kept goal among));
        };
        bounded = growing.bounded;
        low = record {
          boxes = All-from_get_or (λ price. price ≤ low members g.floor) u 0 (λ member _. boxes member);
          goals = All-from_get_or (λ price. price ≤ low members g.floor) v 0 (λ goal _. prices goal);
        };
        roomy = record { taken = growing.roomy.taken; slacks = growing.roomy.slacks; takers = growing.roomy.takers };
      }

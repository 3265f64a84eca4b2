-- Goals that move up a path of a tree, each to the box before, so that the next box has one too.
use Rattle.sok_price.proofs.Words.{ℕ, ◌≡◌, ◌≢◌, ◌<◌, ◌≤◌, ◌+◌, ◌∙◌, ◌++◌, inl, inr, refl, sym, subst, List, [], ◌∷◌, All, AllPairs, Contains, arith, length}
use Rattle.sok_price.proofs.Words.{get_or, SwappedAt, IsPermutation, cases_eq, get_or_append_left, get_or_push, get_or_default, length_push, All-push}
use Rattle.sok_price.proofs.Words.{Contains-append_left, all_pairs_push, All-permutation, Contains-permutation, Near, Costing, IsTight, IsMatched, Growth}
use Rattle.sok_price.proofs.Words.{IsReached, IsRematched, branch_at, GoesTight, IsTree}
use Rattle.sok_price.proofs.Places.{apart_from, same_place}

-- elements that are apart stay so when two are exchanged
pub swapped-apart : (xs ys : List ℕ) (a b : ℕ) → length ys ≡ length xs → a < length xs → b < length xs → SwappedAt xs ys a b → AllPairs ◌≢◌ xs → AllPairs ◌≢◌ ys
swapped-apart xs ys a b long a_within b_within swapped apart = apart_from ys (λ i j i_within j_within same.
    let one = same_place xs apart in
    grind (arith, long, swapped.0 0, swapped.1 0, swapped.2 i 0, swapped.2 j 0, one i j, one i a, one i b, one a j, one b j, one a b, one b a))

-- goals of all boxes and the next, where only the next box's goal is not yet exact: it is for the box at a branch
pub record IsPath (cost : Costing) (g : Growth) (at : ℕ) (goal_of : List ℕ) : Type 0 where
  pub more : length goal_of ≡ length g.goal_of + 1
  pub apart : AllPairs ◌≢◌ goal_of
  pub kept : (goal : ℕ) → Contains g.goal_of goal → Contains goal_of goal
  pub exist : All (λ goal. goal < length g.v) goal_of
  pub exact : (member : ℕ) → member < length g.goal_of → IsTight cost g.u g.v member (get_or goal_of member 0)
  pub next : IsTight cost g.u g.v (branch_at g.branches at).member (get_or goal_of (length g.goal_of) 0)
  pub waits : (earlier : ℕ) → 0 < earlier → earlier ≤ at → get_or goal_of (branch_at g.branches earlier).member 0 ≡ (branch_at g.branches earlier).goal

-- the next box is given the goal that was reached
pub IsPath-begun : (cost : Costing) (members goals floor : ℕ) (g : Growth) (near : Near) → IsMatched cost members goals floor g.u g.v g.goal_of
    → IsTree g.goal_of g.branches → IsReached cost g near → IsPath cost g near.slack.from (g.goal_of ++ near.goal ∷ [])
IsPath-begun cost members goals floor g near matched tree reached = record {
  more = length_push g.goal_of near.goal;
  apart = all_pairs_push ◌≢◌ g.goal_of near.goal matched.apart (λ k d within same. reached.free k within (get_or_default g.goal_of k 0 d within ∙ same));
  kept = λ goal among. Contains-append_left g.goal_of (near.goal ∷ []) goal among;
  exist = All-push (λ goal. goal < length g.v) g.goal_of near.goal
      (λ k d within. let exists = matched.exist k d within in omega (arith, exists, matched.a_price_a_goal)) reached.within;
  exact = λ member within. subst (IsTight cost g.u g.v member) (sym (get_or_append_left g.goal_of (near.goal ∷ []) 0 member within))
      (matched.exact member within);
  next = subst (IsTight cost g.u g.v (branch_at g.branches near.slack.from).member)
      (sym (get_or_push g.goal_of near.goal 0 (length g.goal_of) refl)) reached.tight;
  waits = λ earlier later before.
      let within : earlier < length g.branches = omega (arith, before, reached.from) in
      get_or_append_left g.goal_of (near.goal ∷ []) 0 (branch_at g.branches earlier).member (tree.earlier earlier later within) ∙ tree.has earlier later within;
}

-- the box at a branch takes the next box's goal, and the next box the goal of the branch
pub IsPath-swapped : (cost : Costing) (g : Growth) (at : ℕ) (goal_of after : List ℕ) → IsTree g.goal_of g.branches → GoesTight cost g.u g.v g.branches
    → at < length g.branches → 0 < at → IsPath cost g at goal_of
    → length after ≡ length goal_of → SwappedAt goal_of after (branch_at g.branches at).member (length g.goal_of) → IsPermutation goal_of after
    → IsPath cost g (branch_at g.branches at).parent after
IsPath-swapped cost g at goal_of after tree tight within later path long swapped permuted =
    let member = (branch_at g.branches at).member in
    let parent = (branch_at g.branches at).parent in
    let root = length g.goal_of in
    let earlier = tree.earlier at later within in
    let before = tree.before at later within in
    record {
      more = long ∙ path.more;
      apart = swapped-apart goal_of after member root long (omega (arith, earlier, path.more)) (omega (arith, path.more)) swapped path.apart;
      kept = λ goal among. Contains-permutation goal_of after goal permuted (path.kept goal among);
      exist = All-permutation (λ goal. goal < length g.v) goal_of after permuted path.exist;
      exact = λ other inside. elim (cases_eq other member) [
        | inl same ↦ subst (λ k. IsTight cost g.u g.v k (get_or after k 0)) (sym same) (subst (IsTight cost g.u g.v member) (sym (swapped.0 0)) path.next)
        | inr apart ↦ subst (IsTight cost g.u g.v other) (sym (swapped.2 other 0 apart (omega (arith, inside)))) (path.exact other inside)
      ];
      next = subst (IsTight cost g.u g.v (branch_at g.branches parent).member) (sym (path.waits at later (omega arith)) ∙ sym (swapped.1 0))
          (tight at later within);
      waits = λ k after_root up.
          let here : k < at = omega (arith, up, before) in
          let own = tree.earlier k after_root (omega (arith, here, within)) in
          swapped.2 (branch_at g.branches k).member 0 (tree.apart k at here within) (omega (arith, own)) ∙ path.waits k after_root (omega (arith, here));
    }

-- at the root the next box's goal is exact
pub IsRematched-path : (cost : Costing) (g : Growth) (goal_of : List ℕ) → IsTree g.goal_of g.branches → IsPath cost g 0 goal_of → IsRematched cost g goal_of
IsRematched-path cost g goal_of tree path = record {
  more = path.more;
  apart = path.apart;
  kept = path.kept;
  exist = path.exist;
  exact = λ member within. elim (cases_eq member (length g.goal_of)) [
    | inl same ↦ subst (λ k. IsTight cost g.u g.v k (get_or goal_of k 0)) (sym same)
        (subst (λ k. IsTight cost g.u g.v k (get_or goal_of (length g.goal_of) 0)) tree.root path.next)
    | inr other ↦ path.exact member (omega (arith, within, path.more, other))
  ];
}

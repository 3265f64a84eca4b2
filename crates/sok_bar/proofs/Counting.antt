-- How many goals are reached: as many as the shortest list that has them all.
use Rattle.std.proofs.Common.{ℕ, ◌≡◌, ◌≢◌, true, true≢false, Option, Some, None, is_some, ◌<◌, ◌≤◌, ◌+◌, inl, inr, refl, sym, ap, ◌∙◌, subst, List, ◌∷◌}
use Rattle.std.proofs.Common.{Contains, arith, length, get_or}
use Rattle.std.specs.List.{remove}
use Rattle.std.specs.List.Sorted.{IsStrictlyIncreasing}
use Rattle.std.proofs.lemmas.Bool.{cases_lt}
use Rattle.std.proofs.lemmas.List.{get_or_default}
use Rattle.std.proofs.lemmas.List.Edits.{length-remove}
use Rattle.sok_board.specs.Area.{BoardView, goals_of}
use Rattle.sok_board.proofs.Lists.{Contains-cons}
use Rattle.sok_distance.specs.Pushing.{Chain, TellsDistance}
use Rattle.sok_distance.specs.Distances.{goal_at}
use Rattle.sok_bar.specs.Reached.{Reaches, IsReachedBy, HasReached}
use Rattle.sok_bar.proofs.Removal.{Contains-remove}
use Rattle.sok_bar.proofs.Rising.{below_later}

-- what the distance of a square to a goal tells
pub told_reaches : (b : BoardView) (square goal : ℕ) (o : Option ℕ) → TellsDistance b (goal_at b goal) square o → (is_some o ≡ true → Reaches b square goal)
    × (Reaches b square goal → is_some o ≡ true)
told_reaches b square goal (Some d) told = ((λ _. record { pushes = d; chain = told.0 }), λ _. refl)
told_reaches b square goal None told = ((λ none. absurd (true≢false (sym none))), λ reaches. absurd (told reaches.pushes reaches.chain))

-- of the first goals, each that is reached is in a list
abbrev pub HasFirst : BoardView → List ℕ → List ℕ → ℕ → List ℕ → Type 0
HasFirst b boxes members k goals = (goal : ℕ) → goal < k → IsReachedBy b boxes members goal → Contains goals (goal_at b goal)

-- so many of the first goals are reached
pub record Counts (b : BoardView) (boxes members : List ℕ) (k count : ℕ) : Type 0 where
  pub low : count ≤ k
  pub goals : List ℕ
  pub enough : HasFirst b boxes members k goals
  pub many : length goals ≡ count
  pub least : (others : List ℕ) → HasFirst b boxes members k others → count ≤ length others

-- one more goal that is not reached
pub Counts-missed : (b : BoardView) (boxes members : List ℕ) (k count : ℕ) → Counts b boxes members k count → (IsReachedBy b boxes members k → ⊥)
    → Counts b boxes members (k + 1) count
Counts-missed b boxes members k count counts missed = record {
  low = let low = counts.low in omega (arith, low);
  goals = counts.goals;
  enough = λ goal before reached. elim (cases_lt goal k) [
    | inl earlier ↦ counts.enough goal earlier reached
    | inr later ↦ let here : goal ≡ k = omega (arith, before, later) in absurd (missed (subst (IsReachedBy b boxes members) here reached))
  ];
  many = counts.many;
  least = λ others has. counts.least others (λ goal before reached. has goal (omega (arith, before)) reached);
}

-- one more goal that is reached
pub Counts-reached : (b : BoardView) (boxes members : List ℕ) (k count : ℕ) → IsStrictlyIncreasing (goals_of b) → k < length (goals_of b)
    → Counts b boxes members k count → IsReachedBy b boxes members k → Counts b boxes members (k + 1) (count + 1)
Counts-reached b boxes members k count rising exists counts here = record {
  low = let low = counts.low in omega (arith, low);
  goals = goal_at b k ∷ counts.goals;
  enough = λ goal before reached. elim (cases_lt goal k) [
    | inl earlier ↦ Contains-cons (goal_at b k) (goal_at b goal) counts.goals (counts.enough goal earlier reached)
    | inr later ↦ let same : k ≡ goal = omega (arith, before, later) in (0, omega arith, ap (goal_at b) same)
  ];
  many = let many = counts.many in omega (arith, many);
  least = λ others has.
      let (place, inside, is) = has k (omega arith) here in
      let at : get_or others place 0 ≡ goal_at b k = get_or_default others place 0 (goal_at b k) inside ∙ is in
      let fewer : HasFirst b boxes members k (remove others place) = λ goal before reached.
      let apart : goal_at b goal ≢ get_or others place 0 = λ same. let less = below_later (goals_of b) goal k rising before exists in
      omega (arith, less, same, at) in
      Contains-remove others place (goal_at b goal) inside apart (has goal (omega (arith, before)) reached) in
      let rest = counts.least (remove others place) fewer in
      let shorter = length-remove others place inside in
      omega (arith, rest, shorter);
}

-- all goals
pub HasReached-first : (b : BoardView) (boxes members goals : List ℕ) → HasFirst b boxes members (length (goals_of b)) goals → HasReached b boxes members goals
HasReached-first b boxes members goals first = λ x g n member (j, within, is) chain.
    let at : goal_at b j ≡ g = get_or_default (goals_of b) j 0 g within ∙ is in
    subst (Contains goals) at (first j within (record {
      from = x;
      member = member;
      reaches = record {
        pushes = n;
        chain =
            subst (λ h. Chain b x h n) (sym at) chain;
      };
    }))

pub HasFirst-reached : (b : BoardView) (boxes members goals : List ℕ) → HasReached b boxes members goals → HasFirst b boxes members (length (goals_of b)) goals
HasFirst-reached b boxes members goals has = λ goal within reached.
    has reached.from (goal_at b goal) reached.reaches.pushes reached.member (goal, within, get_or_default (goals_of b) goal (goal_at b goal) 0 within)
    reached.reaches.chain

-- What a push wastes, and fair prices behind it.
use Rattle.std.proofs.Common.{slice_get}
use Rattle.sok_board.proofs.{Lists.Contains-at}
use Rattle.sok_price.proofs.Words.{ℕ, ◌≡◌, ◌≤◌, ◌<◌, ◌+◌, ◌-◌, ◌∙◌, inl, inr, sym, ap, subst, List, ◌∷◌, Some, IsSomeAnd, arith, length, get_or, set, sum}
use Rattle.sok_price.proofs.Words.{option_and_then, cases_eq, get_or-set_same, get_or-set_other, length-set, get_or_from_slice_get, slice_get_within}
use Rattle.sok_price.proofs.Words.{slice_get-get_or, sum_by-set, Dir, BoardView, goals_of, lone_push, lone_pushes, Chain, Option, None, IfSome}
use Rattle.sok_price.proofs.Words.{TellsDistance}
use Rattle.sok_lift.specs.Lifts.{Wastes}
use Rattle.sok_distance.specs.Pushing.{IsStuck}

-- ---- what a push wastes

-- a push that may waste nothing
pub Wastes-none : (b : BoardView) (d : Dir) (s t : ℕ) → lone_push b d s ≡ Some t → Wastes b s t 0
Wastes-none b d s t goes = record {
  each = λ g n goal (w, leads, count). (
    n + 1,
    (d ∷ w, ap (option_and_then (λ u. lone_pushes b u w)) goes ∙ leads, omega (arith, count)),
    omega arith,
  );
}

-- a push onto a square from which no goal is reached wastes anything
pub Wastes-stuck : (b : BoardView) (from to waste : ℕ) → IsStuck b to → Wastes b from to waste
Wastes-stuck b from to waste stuck = record { each = λ g n goal chain. absurd (stuck g n goal chain) }

-- one goal, by its distances
pub wasted_at : (b : BoardView) (g from to waste n : ℕ) (before after : Option ℕ) → TellsDistance b g from before → TellsDistance b g to after
    → IfSome after (λ n. IsSomeAnd before (λ m. m + waste ≤ n + 1)) → Chain b to g n → (m : ℕ) × Chain b from g m × (m + waste ≤ n + 1)
wasted_at b g from to waste n before None tells_from tells_to told chain = absurd (tells_to n chain)
wasted_at b g from to waste n None (Some t) tells_from tells_to told chain = absurd told
wasted_at b g from to waste n (Some s) (Some t) tells_from tells_to told chain =
    let least = tells_to.1 n chain in (s, tells_from.0, omega (arith, told, least))

-- ---- prices behind a push

-- prices of boxes and goals, by which no box costs more than a goal and a chain to it
pub record AreFairPrices (b : BoardView) (boxes u v : List ℕ) : Type 0 where
  pub a_price_a_box : length u ≡ length boxes
  pub a_price_a_goal : length v ≡ length (goals_of b)
  pub fair : (i j x g d : ℕ) → slice_get boxes i ≡ Some x → slice_get (goals_of b) j ≡ Some g → Chain b x g d → get_or u i 0 ≤ get_or v j 0 + d

-- the prices behind a push of a box: its own is one less, but for what is wasted
abbrev pub lowered : List ℕ → ℕ → ℕ → List ℕ
lowered u k waste = set u k (get_or u k 0 + waste - 1)

-- they are fair
pub fair_lowered : (b : BoardView) (ns u v : List ℕ) (k to waste : ℕ) → k < length ns → AreFairPrices b ns u v → Wastes b (get_or ns k 0) to waste
    → AreFairPrices b (set ns k to) (lowered u k waste) v
fair_lowered b ns u v k to waste within fair wastes = record {
  a_price_a_box = length-set u k (get_or u k 0 + waste - 1) ∙ fair.a_price_a_box ∙ sym (length-set ns k to);
  a_price_a_goal = fair.a_price_a_goal;
  fair = λ i j x g d box goal chain.
      let inside : i < length ns = let below = slice_get_within (set ns k to) i x box in omega (arith, below, length-set ns k to) in
      let at : get_or (set ns k to) i 0 ≡ x = get_or_from_slice_get (set ns k to) i x 0 box in
      elim (cases_eq i k) [
        | inl same ↦
            let here : to ≡ x = sym (ap (λ t. get_or (set ns k to) t 0) same ∙ get_or-set_same ns k to 0 within) ∙ at in
            let (m, from, few) = wastes.each g d (Contains-at (goals_of b) g j goal) (subst (λ s. Chain b s g d) (sym here) chain) in
            let before = fair.fair k j (get_or ns k 0) g m (slice_get-get_or ns k 0 within) goal from in
            let now : get_or (lowered u k waste) i 0 ≡ get_or u k 0 + waste - 1 = ap (λ t. get_or (lowered u k waste) t 0) same
            ∙ get_or-set_same u k (get_or u k 0 + waste - 1) 0 (omega (arith, within, fair.a_price_a_box)) in
            omega (arith, before, few, now)
        | inr other ↦
            let kept : get_or ns i 0 ≡ x = sym (get_or-set_other ns k i to 0 other) ∙ at in
            let before = fair.fair i j x g d (slice_get-get_or ns i 0 inside ∙ ap Some kept) goal chain in
            let now = get_or-set_other u k i (get_or u k 0 + waste - 1) 0 other in
            omega (arith, before, now)
      ];
}

-- and lose one in all, but for what is wasted
pub sum_lowered : (u : List ℕ) (k waste : ℕ) → k < length u → sum u + waste ≤ sum (lowered u k waste) + 1
sum_lowered u k waste within = let all = sum_by-set (λ (t : ℕ). t) u k (get_or u k 0 + waste - 1) 0 within in omega (arith, all)

-- What letters do to lifts: a walk leaves no less, and a push lowers those of all pairs together by no more than it wastes.
use Rattle.sok_board.specs.Area.{beside}
use Rattle.sok_price.proofs.Words.{ℕ, ◌≡◌, ◌≢◌, ◌≤◌, ◌<◌, ◌∙◌, inl, inr, refl, sym, subst, List, [], ◌∷◌, Some, All, AllPairs, Contains, arith, length}
use Rattle.sok_price.proofs.Words.{get_or, set, cases_eq, get_or-set_same, get_or-set_other, length-set, All-head, All-tail, sum_by-cons, Dir, BoardView}
use Rattle.sok_price.proofs.Words.{goals_of, lone_push}
use Rattle.sok_price.proofs.Places.{same_place}
use Rattle.sok_lift.proofs.Pairing.{first_pair}
use Rattle.sok_lift.proofs.Wasting.{Wastes-none}
use Rattle.sok_lift.specs.Lifts.{AreTwo, ArePairs, IsLift, LowersByWaste, lift_of, lifts, places_of}

-- ---- boxes apart

-- a player and boxes, each on a square of its own
pub record AreSpread (b : BoardView) (player : ℕ) (ns : List ℕ) : Type 0 where
  pub player_exists : player < length b.area
  pub within : All (λ n. n < length b.area) ns
  pub apart : AllPairs ◌≢◌ ns
  pub free : (i : ℕ) → i < length ns → player ≢ get_or ns i 0

-- two of them
two_of : (b : BoardView) (q : ℕ) (ns : List ℕ) (i j : ℕ) → AreSpread b q ns → i < length ns → j < length ns → i ≢ j
    → AreTwo b q (get_or ns i 0) (get_or ns j 0)
two_of b q ns i j spread i_in j_in other = record {
  player_exists = spread.player_exists;
  first_exists = spread.within i 0 i_in;
  second_exists = spread.within j 0 j_in;
  apart = λ same. other (same_place ns spread.apart i j i_in j_in same);
  off_first = spread.free i i_in;
  off_second = spread.free j j_in;
}

-- a push of the box at a place
pub record IsPushAt (b : BoardView) (d : Dir) (q : ℕ) (ns : List ℕ) (k to : ℕ) : Type 0 where
  pub inside : k < length ns
  pub ahead : beside b q d ≡ Some (get_or ns k 0)
  pub beyond : beside b (get_or ns k 0) d ≡ Some to
  pub goes : lone_push b d (get_or ns k 0) ≡ Some to
  pub before : AreSpread b q ns
  pub after : AreSpread b (get_or ns k 0) (set ns k to)

-- no other box stands where it goes
free_of_other : (b : BoardView) (d : Dir) (q : ℕ) (ns : List ℕ) (k to j : ℕ) → IsPushAt b d q ns k to → j < length ns → j ≢ k → to ≢ get_or ns j 0
free_of_other b d q ns k to j push inside other = λ same.
    let long = length-set ns k to in
    let now = get_or-set_same ns k to 0 push.inside in
    let kept = get_or-set_other ns k j to 0 other in
    other (same_place (set ns k to) push.after.apart j k (omega (arith, inside, long)) (let within = push.inside in omega (arith, within, long))
    (kept ∙ sym same ∙ sym now))

-- ---- what letters do to lifts

module _ (b : BoardView) (f : ℕ → ℕ → ℕ → ℕ) (lift : IsLift b f) where
  -- boxes on goals have none
  pub lifts_solved : (q : ℕ) (ns : List ℕ) (pairs : List (ℕ × ℕ)) → AreSpread b q ns → ((i : ℕ) → i < length ns → Contains (goals_of b) (get_or ns i 0))
      → ArePairs (length ns) pairs → lifts f q ns pairs ≡ 0
  lifts_solved q ns [] spread on are = refl
  lifts_solved q ns (p ∷ pairs) spread on are =
      let first = first_pair (length ns) p pairs are in
      let here = lift.solved q (get_or ns p.0 0) (get_or ns p.1 0) (two_of b q ns p.0 p.1 spread first.first_within first.second_within first.apart)
      (on p.0 first.first_within) (on p.1 first.second_within) in
      let rest = lifts_solved q ns pairs spread on first.rest in
      omega (arith, here, rest, sum_by-cons (lift_of f q ns) p pairs)

  -- a walk leaves no less
  pub lifts_walked : (d : Dir) (q r : ℕ) (ns : List ℕ) (pairs : List (ℕ × ℕ)) → AreSpread b q ns → AreSpread b r ns → beside b q d ≡ Some r
      → ArePairs (length ns) pairs → lifts f q ns pairs ≤ lifts f r ns pairs
  lifts_walked d q r ns [] spread after ahead are = omega arith
  lifts_walked d q r ns (p ∷ pairs) spread after ahead are =
      let first = first_pair (length ns) p pairs are in
      let here = lift.walked d q r (get_or ns p.0 0) (get_or ns p.1 0) (two_of b q ns p.0 p.1 spread first.first_within first.second_within first.apart)
      (two_of b r ns p.0 p.1 after first.first_within first.second_within first.apart) ahead in
      let rest = lifts_walked d q r ns pairs spread after ahead first.rest in
      omega (arith, here, rest, sum_by-cons (lift_of f q ns) p pairs, sum_by-cons (lift_of f r ns) p pairs)

  -- nor does a push, for pairs without its box
  lift_other : (d : Dir) (q : ℕ) (ns : List ℕ) (k to : ℕ) (p : ℕ × ℕ) → IsPushAt b d q ns k to → p.0 < length ns → p.1 < length ns → p.0 ≢ p.1
      → p.0 ≢ k → p.1 ≢ k → lift_of f q ns p ≤ lift_of f (get_or ns k 0) (set ns k to) p
  lift_other d q ns k to p push first second apart off_first off_second =
      let s = get_or ns k 0 in
      let long = length-set ns k to in
      let x_kept = get_or-set_other ns k p.0 to 0 off_first in
      let y_kept = get_or-set_other ns k p.1 to 0 off_second in
      let after : AreTwo b s (get_or ns p.0 0) (get_or ns p.1 0) = subst (λ x. AreTwo b s x (get_or ns p.1 0)) x_kept
      (subst (AreTwo b s (get_or (set ns k to) p.0 0)) y_kept
      (two_of b s (set ns k to) p.0 p.1 push.after (omega (arith, first, long)) (omega (arith, second, long)) apart)) in
      rw (x_kept, y_kept) (lift.walked d q s (get_or ns p.0 0) (get_or ns p.1 0) (two_of b q ns p.0 p.1 push.before first second apart) after push.ahead)

  -- nor for all of those pairs together
  lifts_others : (d : Dir) (q : ℕ) (ns : List ℕ) (k to : ℕ) (pairs : List (ℕ × ℕ)) → IsPushAt b d q ns k to → ArePairs (length ns) pairs
      → All (λ i. k ≢ i) (places_of pairs) → lifts f q ns pairs ≤ lifts f (get_or ns k 0) (set ns k to) pairs
  lifts_others d q ns k to [] push are off = omega arith
  lifts_others d q ns k to (p ∷ pairs) push are off =
      let first = first_pair (length ns) p pairs are in
      let off_first = All-head (λ i. k ≢ i) p.0 (p.1 ∷ places_of pairs) off in
      let off_later = All-tail (λ i. k ≢ i) p.0 (p.1 ∷ places_of pairs) off in
      let off_second = All-head (λ i. k ≢ i) p.1 (places_of pairs) off_later in
      let here = lift_other d q ns k to p push first.first_within first.second_within first.apart (λ same. off_first (sym same)) (λ same. off_second (sym same)) in
      let rest = lifts_others d q ns k to pairs push first.rest (All-tail (λ i. k ≢ i) p.1 (places_of pairs) off_later) in
      omega (arith, here, rest, sum_by-cons (lift_of f q ns) p pairs, sum_by-cons (lift_of f (get_or ns k 0) (set ns k to)) p pairs)

  -- and for the pair with its box it lowers the lift by no more than it wastes
  lift_first : (d : Dir) (q : ℕ) (ns : List ℕ) (to : ℕ) (p : ℕ × ℕ) → IsPushAt b d q ns p.0 to → p.1 < length ns → p.0 ≢ p.1
      → LowersByWaste b (get_or ns p.0 0) to (lift_of f q ns p) (lift_of f (get_or ns p.0 0) (set ns p.0 to) p)
  lift_first d q ns to p push second apart =
      let off : p.1 ≢ p.0 = λ same. apart (sym same) in
      rw (get_or-set_same ns p.0 to 0 push.inside, get_or-set_other ns p.0 p.1 to 0 off)
      (lift.pushed_first d q (get_or ns p.0 0) to (get_or ns p.1 0) (two_of b q ns p.0 p.1 push.before push.inside second apart) push.ahead push.beyond
      (free_of_other b d q ns p.0 to p.1 push second off))

  -- the same where its box is the second of the pair
  lift_second : (d : Dir) (q : ℕ) (ns : List ℕ) (to : ℕ) (p : ℕ × ℕ) → IsPushAt b d q ns p.1 to → p.0 < length ns → p.0 ≢ p.1
      → LowersByWaste b (get_or ns p.1 0) to (lift_of f q ns p) (lift_of f (get_or ns p.1 0) (set ns p.1 to) p)
  lift_second d q ns to p push first apart =
      rw (get_or-set_same ns p.1 to 0 push.inside, get_or-set_other ns p.1 p.0 to 0 apart)
      (lift.pushed_second d q (get_or ns p.0 0) (get_or ns p.1 0) to (two_of b q ns p.0 p.1 push.before first push.inside apart) push.ahead push.beyond
      (free_of_other b d q ns p.1 to p.0 push first apart))

  -- so it lowers all lifts together by no more than it wastes, since its box is in one pair at most
  pub lifts_pushed : (d : Dir) (q : ℕ) (ns : List ℕ) (k to : ℕ) (pairs : List (ℕ × ℕ)) → IsPushAt b d q ns k to → ArePairs (length ns) pairs
      → LowersByWaste b (get_or ns k 0) to (lifts f q ns pairs) (lifts f (get_or ns k 0) (set ns k to) pairs)
  lifts_pushed d q ns k to [] push are = record { waste = 0; wastes = Wastes-none b d (get_or ns k 0) to push.goes; lowers = omega arith }
  lifts_pushed d q ns k to (p ∷ pairs) push are =
      let s = get_or ns k 0 in
      let first = first_pair (length ns) p pairs are in
      let old = sum_by-cons (lift_of f q ns) p pairs in
      let new = sum_by-cons (lift_of f s (set ns k to)) p pairs in
      elim (cases_eq p.0 k) [
        | inl same ↦
            let here : LowersByWaste b s to (lift_of f q ns p) (lift_of f s (set ns k to) p) = subst
            (λ k. IsPushAt b d q ns k to → LowersByWaste b (get_or ns k 0) to (lift_of f q ns p) (lift_of f (get_or ns k 0) (set ns k to) p)) same
            (λ at. lift_first d q ns to p at first.second_within first.apart) push in
            let others = lifts_others d q ns k to pairs push first.rest (subst (λ k. All (λ i. k ≢ i) (places_of pairs)) same first.first_alone) in
            record { waste = here.waste; wastes = here.wastes; lowers = let less = here.lowers in omega (arith, less, others, old, new) }
        | inr off_first ↦ elim (cases_eq p.1 k) [
          | inl same ↦
              let here : LowersByWaste b s to (lift_of f q ns p) (lift_of f s (set ns k to) p) = subst
              (λ k. IsPushAt b d q ns k to → LowersByWaste b (get_or ns k 0) to (lift_of f q ns p) (lift_of f (get_or ns k 0) (set ns k to) p)) same
              (λ at. lift_second d q ns to p at first.first_within first.apart) push in
              let others = lifts_others d q ns k to pairs push first.rest (subst (λ k. All (λ i. k ≢ i) (places_of pairs)) same first.second_alone) in
              record { waste = here.waste; wastes = here.wastes; lowers = let less = here.lowers in omega (arith, less, others, old, new) }
          | inr off_second ↦
              let here = lift_other d q ns k to p push first.first_within first.second_within first.apart off_first off_second in
              let later = lifts_pushed d q ns k to pairs push first.rest in
              record { waste = later.waste; wastes = later.wastes; lowers = let less = later.lowers in omega (arith, less, here, old, new) }
        ]
      ]

-- ---- the order of two boxes

-- the same of a number that does not depend on the order of the boxes: pushes of the first are enough
pub record IsEvenLift (b : BoardView) (f : ℕ → ℕ → ℕ → ℕ) : Type 0 where
  pub even : (q x y : ℕ) → f q x y ≡ f q y x
  pub solved : (q x y : ℕ) → AreTwo b q x y → Contains (goals_of b) x → Contains (goals_of b) y → f q x y ≡ 0
  pub walked : (d : Dir) (q r x y : ℕ) → AreTwo b q x y → AreTwo b r x y → beside b q d ≡ Some r → f q x y ≤ f r x y
  pub pushed : (d : Dir) (q x to y : ℕ) → AreTwo b q x y → beside b q d ≡ Some x → beside b x d ≡ Some to → to ≢ y
      → LowersByWaste b x to (f q x y) (f x to y)

-- two in the other order
AreTwo-sym : (b : BoardView) (q x y : ℕ) → AreTwo b q x y → AreTwo b q y x
AreTwo-sym b q x y two = record {
  player_exists = two.player_exists;
  first_exists = two.second_exists;
  second_exists = two.first_exists;
  apart = λ same. two.apart (sym same);
  off_first = two.off_second;
  off_second = two.off_first;
}

-- a number that does not depend on the order of the boxes
pub IsLift-IsEvenLift : (b : BoardView) (f : ℕ → ℕ → ℕ → ℕ) → IsEvenLift b f → IsLift b f
IsLift-IsEvenLift b f lift = record {
  solved = lift.solved;
  walked = lift.walked;
  pushed_first = lift.pushed;
  pushed_second = λ d q x y to two ahead beyond free.
      let less = lift.pushed d q y to x (AreTwo-sym b q x y two) ahead beyond free in
      record { waste = less.waste; wastes = less.wastes; lowers = rw (lift.even q x y, lift.even y x to) less.lowers };
}

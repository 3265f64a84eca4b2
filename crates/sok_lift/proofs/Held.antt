-- What is tested of numbers for two boxes and a player, and that it makes them a lift.
use Rattle.std.specs.Option.{option_and_then}
use Rattle.std.proofs.Common.{[], ℕ, ◌≡◌, ◌≢◌, ◌≤◌, ◌<◌, ◌∙◌, inl, inr, refl, sym, ap, subst, Some, None, arith, length, nat_lt, true, false, cond, ◌+◌, ◌==◌}
use Rattle.std.proofs.lemmas.Bool.{cases_Bool, cases_eq, cases_lt}
use Rattle.std.proofs.lemmas.Option.{none-some, same_Some}
use Rattle.std.proofs.lemmas.Bool.Decides.{nat_tests}
use Rattle.sok_rules.specs.declared.cell.Dir.{Dir}
use Rattle.sok_rules.specs.Squares.{opposite}
use Rattle.sok_board.specs.Area.{BoardView, IsArea, beside}
use Rattle.sok_board.proofs.Beside.{beside-back}
use Rattle.sok_lift.specs.Lifts.{AreTwo, IsLift, Wastes}
use Rattle.sok_distance.specs.Pushing.{IsStuck}
use Rattle.sok_lift.proofs.Wasting.{Wastes-none, Wastes-stuck}
use Rattle.sok_lift.proofs.Lifting.{IsLift-IsEvenLift}
use Rattle.sok_lift.specs.Checked.{HoldsPush, HoldsSolved, HoldsWalk, IsHeld, IsKept, IsSpared}
use Rattle.sok_lift.specs.Numbers.{AreLifts, LiftTable, beyond, entry_in, lift_in, lost}

-- there is no push where the player has no square to push from
pub HoldsPush-corner : (b : BoardView) → IsArea b.rows b.area → (t : LiftTable) (d : Dir) (x : ℕ) → beside b x (opposite d) ≡ None → HoldsPush b t d x
HoldsPush-corner b area t d x wall = record {
  each = λ q to y q_in y_in ahead beyond. absurd (none-some q (sym wall ∙ beside-back b area d q x q_in ahead));
}

-- a push onto a stuck square is held
pub HoldsPush-stuck : (b : BoardView) (t : LiftTable) (d : Dir) (x to : ℕ) → beside b x d ≡ Some to → IsStuck b to → HoldsPush b t d x
HoldsPush-stuck b t d x to ahead stuck = record {
  each = λ q to' y q_in y_in before beyond. inl (subst (IsStuck b) (same_Some to to' (sym ahead ∙ beyond)) stuck);
}

-- a push is held that is so wherever the other box stands
pub HoldsPush-spared : (b : BoardView) → IsArea b.rows b.area → (t : LiftTable) (d : Dir) (x to player waste : ℕ) → beside b x d ≡ Some to
    → beside b x (opposite d) ≡ Some player → Wastes b x to waste → ((y : ℕ) → y < length b.area → IsSpared t player x to waste y) → HoldsPush b t d x
HoldsPush-spared b area t d x to player waste ahead behind wastes each = record {
  each = λ q to' y q_in y_in before beyond.
      let player_is : player ≡ q = same_Some player q (sym behind ∙ beside-back b area d q x q_in before) in
      let told : IsHeld b t q x to y = inr (waste, wastes, subst (λ p. IsSpared t p x to waste y) player_is (each y y_in)) in
      subst (λ s. IsHeld b t q x s y) (same_Some to to' (sym ahead ∙ beyond)) told;
}

-- the number does not depend on the order of the boxes
lift_in-even : (t : LiftTable) (q x y : ℕ) → lift_in t q x y ≡ lift_in t q y x
unfolding lift_in
lift_in-even t q x y = elim (cases_lt x y) [
  | inl less ↦ let here : nat_lt x y ≡ true = grind (arith, nat_tests, less) in let there : nat_lt y x ≡ false = grind (arith, nat_tests, less) in
      ap (λ v. cond v (entry_in t q x y) (entry_in t q y x)) here ∙ sym (ap (λ v. cond v (entry_in t q y x) (entry_in t q x y)) there)
  | inr more ↦ elim (cases_eq x y) [
    | inl same ↦ ap (λ z. lift_in t q x z) (sym same) ∙ ap (λ z. lift_in t q z x) same
    | inr other ↦ let here : nat_lt x y ≡ false = grind (arith, nat_tests, more) in let there : nat_lt y x ≡ true = grind (arith, nat_tests, more, other) in
        ap (λ v. cond v (entry_in t q x y) (entry_in t q y x)) here ∙ sym (ap (λ v. cond v (entry_in t q y x) (entry_in t q x y)) there)
  ]
]

-- a walk that is held with boxes on rising squares is held with boxes on two
walked : (b : BoardView) (t : LiftTable) (d : Dir) (q r x y : ℕ) → HoldsWalk b t d q → AreTwo b q x y → AreTwo b r x y → beside b q d ≡ Some r
    → lift_in t q x y ≡ lift_in t r x y
walked b t d q r x y holds two after ahead = elim (cases_lt y x) [
  | inl less ↦ holds.each r x y two.first_exists less ahead two.off_first two.off_second after.off_first after.off_second
  | inr more ↦
      let less : x < y = let apart = two.apart in let other : x ≢ y = apart in omega (arith, more, other) in
      let told = holds.each r y x two.second_exists less ahead two.off_second two.off_first after.off_second after.off_first in
      lift_in-even t q x y ∙ told ∙ lift_in-even t r y x
]

-- a walk against a wall
pub HoldsWalk-wall : (b : BoardView) (t : LiftTable) (d : Dir) (q : ℕ) → beside b q d ≡ None → HoldsWalk b t d q
HoldsWalk-wall b t d q wall = record { each = λ r x y x_in less ahead. absurd (none-some r (sym wall ∙ ahead)) }

-- a walk that is held wherever the boxes stand
pub HoldsWalk-kept : (b : BoardView) (t : LiftTable) (d : Dir) (q r : ℕ) → beside b q d ≡ Some r
    → ((x : ℕ) → x < length b.area → (y : ℕ) → y < x → IsKept t q r x y) → HoldsWalk b t d q
HoldsWalk-kept b t d q r ahead each = record {
  each = λ r' x y x_in less ahead'. subst (λ s. IsKept t q s x y) (same_Some r r' (sym ahead ∙ ahead')) (each x x_in y less);
}

-- pushes that are held, walks that are held, and none for boxes on goals make a lift of what rises with the numbers
lift_by : (b : BoardView) (t : LiftTable) (g : ℕ → ℕ) → g 0 ≡ 0
    → ((waste before after : ℕ) → before ≤ waste + after → (before ≡ lost → after ≡ lost) → g before ≤ waste + g after) → HoldsSolved b t
    → ((q : ℕ) → q < length b.area → (d : Dir) → HoldsWalk b t d q) → ((x : ℕ) → x < length b.area → (d : Dir) → HoldsPush b t d x)
    → IsLift b (λ q x y. g (lift_in t q x y))
lift_by b t g none rises solved walks pushes = IsLift-IsEvenLift b (λ q x y. g (lift_in t q x y)) (record {
  even = λ q x y. ap g (lift_in-even t q x y);
  solved = λ q x y two x_goal y_goal. ap g (solved.each x y x_goal y_goal q two.player_exists) ∙ none;
  walked = λ d q r x y two after ahead.
      let same = ap g (walked b t d q r x y (walks q two.player_exists d) two after ahead) in omega (arith, same);
  pushed = λ d q x to y two ahead beyond free.
      elim ((pushes x two.first_exists d).each q to y two.player_exists two.second_exists ahead beyond) [
        | inl stuck ↦ record { waste = g (lift_in t q x y); wastes = Wastes-stuck b x to (g (lift_in t q x y)) stuck; lowers = omega arith }
        | inr (waste, wastes, spared) ↦
            let told = spared free in
            record { waste = waste; wastes = wastes; lowers = rises waste (lift_in t q x y) (lift_in t x to y) told.0 told.1 }
      ];
})

-- what is more where boxes are lost
pub beyond-lost : (more number : ℕ) → number ≡ lost → beyond more number ≡ lost + more
unfolding beyond
beyond-lost more number is = let test : (number == lost) ≡ true = grind (arith, nat_tests, is) in ap (λ v. cond v (lost + more) number) test

beyond-other : (more number : ℕ) → number ≢ lost → beyond more number ≡ number
unfolding beyond
beyond-other more number other = let test : (number == lost) ≡ false = grind (arith, nat_tests, other) in ap (λ v. cond v (lost + more) number) test

beyond-rises : (more waste before after : ℕ) → before ≤ waste + after → (before ≡ lost → after ≡ lost) → beyond more before ≤ waste + beyond more after
beyond-rises more waste before after less stays = elim (cases_eq after lost) [
  | inr other ↦
      let here = beyond-other more before (λ is. other (stays is)) in
      let later = beyond-other more after other in
      omega (arith, here, later, less)
  | inl is ↦
      let later = beyond-lost more after is in
      elim (cases_eq before lost) [
        | inl lost_before ↦ let here = beyond-lost more before lost_before in omega (arith, here, later)
        | inr other ↦ let here = beyond-other more before other in omega (arith, here, later, less, is)
      ]
]

-- so numbers of which all is held are lifts
pub AreLifts-held : (b : BoardView) (t : LiftTable) → HoldsSolved b t → ((q : ℕ) → q < length b.area → (d : Dir) → HoldsWalk b t d q)
    → ((x : ℕ) → x < length b.area → (d : Dir) → HoldsPush b t d x) → AreLifts b t
AreLifts-held b t solved walks pushes = record {
  is = lift_by b t (λ n. n) refl (λ waste before after less stays. less) solved walks pushes;
  beyond = λ more. lift_by b t (beyond more) (beyond-other more 0 (λ is. absurd (omega (arith, is)))) (beyond-rises more) solved walks pushes;
}

-- where nothing is kept all numbers are 0
lift_in-none : (squares q x y : ℕ) → lift_in (record { squares = squares; numbers = [] }) q x y ≡ 0
unfolding lift_in entry_in
lift_in-none squares q x y = elim (cases_Bool (nat_lt x y)) [
  | inl less ↦ ap (λ v. cond v 0 0) less
  | inr more ↦ ap (λ v. cond v 0 0) more
]

-- and then all is held, since a push wastes no less
pub AreLifts-none : (b : BoardView) → IsArea b.rows b.area → (squares : ℕ) → AreLifts b (record { squares = squares; numbers = [] })
AreLifts-none b area squares =
    let t : LiftTable = record { squares = squares; numbers = [] } in
    AreLifts-held b t (record { each = λ x y x_goal y_goal q q_in. lift_in-none squares q x y })
    (λ q q_in d. record { each = λ r x y x_in less ahead _ _ _ _. lift_in-none squares q x y ∙ sym (lift_in-none squares r x y) })
    (λ x x_in d. record {
      each = λ q to y q_in y_in ahead beyond. inr (
        0,
        Wastes-none b d x to (ap (option_and_then (λ _. beside b x d)) (beside-back b area d q x q_in ahead) ∙ beyond),
        λ free. let none = lift_in-none squares q x y in (omega (arith, none), λ is. absurd (omega (arith, none, is))),
      );
    })

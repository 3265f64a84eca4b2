use Rattle.std.proofs.Common.{ℕ, ◌≡◌, ◌∙◌, ◌+◌, ◌++◌, ◌∷◌, ◌⊎◌, [], inl, inr, refl, sym, ap, subst, arith, get_or, length, List}
use Rattle.std.specs.List.{insert}
use Rattle.std.specs.List.Sorted.{IsStrictlyIncreasing}
use Rattle.std.proofs.lemmas.List.{take_all}
use Rattle.std.proofs.lemmas.List.Kept.{IsStrictlyIncreasing-filter}
use Rattle.arrayvec.specs.ArrayVec.{ArrayVec}
use Rattle.sok_board.specs.BoxSets.{IsMoved}
use Rattle.sok_state.specs.PackedKeys.{apart, list_state}
use Rattle.sok_state.proofs.ListKeys.{IsKept, IsKept-low, IsKept-high, IsKept-out, IsMoved-insert, IsSplit, IsStrictlyIncreasing-insert, TakesList-insert, length-apart_take}
use Rattle.sok_state.proofs.list_key.ListKeyPacked.moved.Goals as goal
use Rattle.sok_state.proofs.list_key.ListKeyPacked.moved.Goals.{then-square-from+then-square-to+then-square-to-2, then-square-from+then-square-to+else-square-to-2, else-square-from}
use Rattle.sok_state.proofs.list_key.ListKeyPacked.moved.Goals.{else-square-from-via-then-square-from+else-square-to, else-square-from-via-else-square-from, After-insert}

pub push-requires : goal.push-requires
push-requires c =
    let items : List ℕ = c.as_slice-square-items.result.now in
    let so_far = length-apart_take c.args.from c.args.to c.loop-square.square-index items in
    let long = ap (λ (xs : List ℕ). length xs) c.loop-square.invariant.listed in
    let all = ap (λ (xs : List ℕ). length (apart c.args.from c.args.to xs)) c.as_slice-square-items.ensures.value in
    let few = c.requires.takes.few in
    (omega arith, omega (arith, so_far, long, all, few))

pub loop-square-preserved : goal.loop-square-preserved
loop-square-preserved c =
    let from = c.args.from in
    let to = c.args.to in
    let items : List ℕ = c.as_slice-square-items.result.now in
    let i = c.loop-square.square-index in
    let inside = c.loop-square-test.true in
    let rising = subst IsStrictlyIncreasing (sym c.as_slice-square-items.ensures.value) c.requires.fits.rising in
    let kept : List ℕ = c.loop-square.boxes.items in
    let below = c.loop-square.below in
    let is = c.loop-square.invariant in
    elim c.if-square-from.branch [
      | then-square-from+then-square-to+then-square-to-2 w ↦
          let listed : c.if-square-from.boxes.items ≡ kept ++ get_or items i 0 ∷ [] = ap (λ (b : ArrayVec ℕ). b.items) w.boxes-is ∙ w.push.ensures.items in
          let place = w.below-is ∙ w.len-below.ensures.value ∙ ap (λ (xs : List ℕ). length xs) w.push.ensures.items in
          subst (λ b. IsKept from to items (i + 1) c.if-square-from.boxes.items b) (sym place)
          (subst (λ xs. IsKept from to items (i + 1) xs (length (kept ++ get_or items i 0 ∷ []))) (sym {A = List ℕ} listed)
          (IsKept-low from to items i inside kept below is rising w.if-square-from.true w.if-square-to.true w.if-square-to-2.true))
      | then-square-from+then-square-to+else-square-to-2 w ↦
          let listed : c.if-square-from.boxes.items ≡ kept ++ get_or items i 0 ∷ [] = ap (λ (b : ArrayVec ℕ). b.items) w.boxes-is ∙ w.push.ensures.items in
          subst (λ b. IsKept from to items (i + 1) c.if-square-from.boxes.items b) (sym w.below-is)
          (subst (λ xs. IsKept from to items (i + 1) xs below) (sym {A = List ℕ} listed)
          (IsKept-high from to items i inside kept below is w.if-square-from.true w.if-square-to.true w.if-square-to-2.false))
      | else-square-from w ↦
          let part : (get_or items i 0 ≡ from) ⊎ (get_or items i 0 ≡ to) = elim w.else-square-from.branch [
            | else-square-from-via-then-square-from+else-square-to v ↦ inr v.if-square-to.false
            | else-square-from-via-else-square-from v ↦ inl v.if-square-from.false
          ] in
          subst (λ b. IsKept from to items (i + 1) c.if-square-from.boxes.items b) (sym w.below-is)
          (subst (λ (b : ArrayVec ℕ). IsKept from to items (i + 1) b.items below) (sym w.boxes-is)
          (IsKept-out from to items i inside kept below is part))
    ]

-- what is kept is apart from the push
whole : (c : After-insert) → c.loop-square.boxes.items ≡ apart c.args.from c.args.to c.args.self.now.boxes.items
whole c =
    c.loop-square.invariant.listed ∙ ap (λ (xs : List ℕ). apart c.args.from c.args.to xs)
    (take_all c.loop-square.square-index c.as_slice-square-items.result.now c.loop-square-test.false ∙ c.as_slice-square-items.ensures.value)

made : (c : After-insert) → c.insert.new.self.items ≡ insert (apart c.args.from c.args.to c.args.self.now.boxes.items) c.loop-square.below c.args.to
made c = c.insert.ensures.items ∙ ap (λ (xs : List ℕ). insert xs c.loop-square.below c.args.to) (whole c)

split : (c : After-insert) → IsSplit c.args.to (apart c.args.from c.args.to c.args.self.now.boxes.items) c.loop-square.below
split c = subst (λ (xs : List ℕ). IsSplit c.args.to xs c.loop-square.below) (whole c) c.loop-square.invariant.split

rises : (c : After-insert) → IsStrictlyIncreasing c.insert.new.self.items
rises c = subst IsStrictlyIncreasing (sym {A = List ℕ} (made c))
    (IsStrictlyIncreasing-insert c.args.to (apart c.args.from c.args.to c.args.self.now.boxes.items) c.loop-square.below
    (IsStrictlyIncreasing-filter _ c.args.self.now.boxes.items c.requires.fits.rising) (split c))

pub returns-clause-next : goal.returns-clause-next
returns-clause-next c = record {
  moved = subst (λ (xs : List ℕ). IsMoved c.args.self.now.boxes.items c.args.from c.args.to xs) (sym {A = List ℕ} (made c))
      (IsMoved-insert c.args.from c.args.to c.args.self.now.boxes.items c.loop-square.below);
  rising = rises c;
  least_is = refl;
}

pub returns-clause-fits : goal.returns-clause-fits
returns-clause-fits c = record {
  taken = TakesList-insert (list_state c.args.self.now) _ c.args.from c.args.to c.loop-square.below c.requires.takes c.requires.fits.taken
      (split c).within (made c);
  rising = rises c;
}

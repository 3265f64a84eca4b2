-- A box moves in a layout.
use Rattle.std.proofs.Common.{ℕ, ◌≡◌, ◌<◌, ◌⊎◌, ◌↔◌, ◌==◌, ◌++◌, ◌∷◌, [], inl, inr, refl, sym, ap, ◌∙◌, subst, List, true, false, All}
use Rattle.std.proofs.Common.{Contains, Some, arith, length}
use Rattle.std.proofs.Common.{get_or, map, if◌then◌else◌}
use Rattle.std.proofs.lemmas.Bool.{cases_eq}
use Rattle.std.proofs.lemmas.Bool.Decides.{nat_tests}
use Rattle.std.proofs.lemmas.List.{get_or-map, length-map}
use Rattle.std.proofs.lemmas.List.Elements.{Contains-append_left, Contains-get_or, Contains-push, Contains-push_cases}
use Rattle.std.proofs.lemmas.Option.{same_Some}
use Rattle.sok_rules.specs.declared.cell.Spot.{Spot}
use Rattle.sok_board.specs.Area.{BoardView, number_of, spot_of}
use Rattle.sok_board.proofs.AreaLaws.{spot_of-number_of}
use Rattle.sok_field.specs.Fields.{has}
use Rattle.sok_field.specs.Numbers.{Draws}
use Rattle.sok_board.specs.BoxSets.{IsMoved}
use Rattle.sok_region.specs.Layouts.{IsLaidOut, Laid, replaced}

-- a square drawn with its number has that number
number_is : (b : BoardView) (s : Spot) (n k : ℕ) → number_of b s ≡ Some n → number_of b (spot_of b k) ≡ Some k → s ≡ spot_of b k → n ≡ k
number_is b s n k number numbered same = same_Some n k (sym number ∙ ap (number_of b) same ∙ numbered)

-- one box more is drawn
pub Draws-boxed : (b : BoardView) (old new boxes : List ℕ) (k : ℕ) → number_of b (spot_of b k) ≡ Some k
    → ((s : Spot) → (has new s ≡ true) ↔ ((s ≡ spot_of b k) ⊎ (has old s ≡ true)))
    → Draws b (Contains boxes) old → Draws b (Contains (boxes ++ k ∷ [])) new
Draws-boxed b old new boxes k numbered put draws s = (
  λ e. elim ((put s).0 e) [
    | inl same ↦ (k, ap (number_of b) same ∙ numbered, Contains-push boxes k)
    | inr before ↦ let (n, number, listed) = (draws s).0 before in (n, number, Contains-append_left boxes (k ∷ []) n listed)
  ],
  λ (n, number, listed). (put s).1 (elim (Contains-push_cases boxes k n listed) [
    | inl earlier ↦ inr ((draws s).1 (n, number, earlier))
    | inr same ↦ inl (sym (spot_of-number_of b s n number).1 ∙ ap (spot_of b) (sym same))
  ]),
)

-- members of a list that is mapped
Contains-mapped : (f : ℕ → ℕ) (xs : List ℕ) (x : ℕ) → Contains xs x → Contains (map f xs) (f x)
Contains-mapped f xs x (k, within, is) = (k, omega (arith, within, length-map xs f), get_or-map f xs k x (f x) within ∙ ap f is)

from_mapped : (f : ℕ → ℕ) (xs : List ℕ) (y : ℕ) → Contains (map f xs) y → (x : ℕ) × Contains xs x × (f x ≡ y)
from_mapped f xs y (k, inside, is) =
    let within : k < length xs = omega (arith, inside, length-map xs f) in
    (get_or xs k 0, Contains-get_or xs k 0 within, sym (get_or-map f xs k 0 y within) ∙ is)

module _ (b : BoardView) (boxes after : List ℕ) (from to : ℕ) (old new : Laid) (free_mid boxed_mid : List ℕ)
    (from_number : number_of b (spot_of b from) ≡ Some from) (to_number : number_of b (spot_of b to) ≡ Some to) (to_within : to < length b.area)
    (laid : IsLaidOut b boxes old) (among : Contains boxes from) (clear : Contains boxes to → ⊥) (moves : IsMoved boxes from to after) where
  apart : from ≡ to → ⊥
  apart same = clear (subst (Contains boxes) same among)

  moved-free : ((s : Spot) → (has free_mid s ≡ true) ↔ ((s ≡ spot_of b from) ⊎ (has old.free s ≡ true)))
      → ((s : Spot) → (has new.free s ≡ true) ↔ ((s ≡ spot_of b to → ⊥) × (has free_mid s ≡ true)))
      → Draws b (λ n. Contains after n → ⊥) new.free
  moved-free put taken s = (
    λ e.
        let (other, mid) = (taken s).0 e in
        elim ((put s).0 mid) [
          | inl left ↦ (
            from,
            ap (number_of b) left ∙ from_number,
            λ there. elim ((moves from).0 there) [ inl come ↦ apart come | inr (was, moved) ↦ moved refl ],
          )
          | inr before ↦
              let (n, number, out) = (laid.free s).0 before in (
                n,
                number,
                λ there. elim ((moves n).0 there) [
                  | inl come ↦ other (sym (spot_of-number_of b s n number).1 ∙ ap (spot_of b) come)
                  | inr (was, moved) ↦ out was
                ],
              )
        ],
    λ (n, number, out). (taken s).1 (
      λ same. out ((moves n).1 (inl (number_is b s n to number to_number same))),
      (put s).1 (elim (cases_eq n from) [
        | inl left ↦ inl (sym (spot_of-number_of b s n number).1 ∙ ap (spot_of b) left)
        | inr stays ↦ inr ((laid.free s).1 (n, number, λ was. out ((moves n).1 (inr (was, stays)))))
      ]),
    ),
  )

  moved-boxed : ((s : Spot) → (has boxed_mid s ≡ true) ↔ ((s ≡ spot_of b from → ⊥) × (has old.boxed s ≡ true)))
      → ((s : Spot) → (has new.boxed s ≡ true) ↔ ((s ≡ spot_of b to) ⊎ (has boxed_mid s ≡ true)))
      → Draws b (Contains after) new.boxed
  moved-boxed taken put s = (
    λ e. elim ((put s).0 e) [
      | inl come ↦ (to, ap (number_of b) come ∙ to_number, (moves to).1 (inl refl))
      | inr mid ↦
          let (other, before) = (taken s).0 mid in
          let (n, number, was) = (laid.boxed s).0 before in
          (n, number, (moves n).1 (inr (was, λ left. other (sym (spot_of-number_of b s n number).1 ∙ ap (spot_of b) left))))
    ],
    λ (n, number, there). (put s).1 (elim ((moves n).0 there) [
      | inl come ↦ inl (sym (spot_of-number_of b s n number).1 ∙ ap (spot_of b) come)
      | inr (was, stays) ↦ inr ((taken s).1 (λ same. stays (number_is b s n from number from_number same), (laid.boxed s).1 (n, number, was)))
    ]),
  )

  abbrev step : ℕ → ℕ
  step s = if s == from then to else s

  step-from : (s : ℕ) → s ≡ from → step s ≡ to
  step-from s same = let e : (s == from) ≡ true = grind (arith, nat_tests, same) in ap (λ t. if t then to else s) e

  step-other : (s : ℕ) → (s ≡ from → ⊥) → step s ≡ s
  step-other s other = let e : (s == from) ≡ false = grind (arith, nat_tests, other) in ap (λ t. if t then to else s) e

  moved-listed : (s : ℕ) → Contains (map step old.boxes) s ↔ Contains after s
  moved-listed s = (
    λ there.
        let (x, one, is) = from_mapped step old.boxes s there in
        elim (cases_eq x from) [
          | inl left ↦ (moves s).1 (inl (sym is ∙ step-from x left))
          | inr stays ↦
              let same : x ≡ s = sym (step-other x stays) ∙ is in
              (moves s).1 (inr (subst (Contains boxes) same ((laid.listed x).0 one), λ left. stays (same ∙ left)))
        ],
    λ there. elim ((moves s).0 there) [
      | inl come ↦ subst (Contains (map step old.boxes)) (step-from from refl ∙ sym come) (Contains-mapped step old.boxes from ((laid.listed from).1 among))
      | inr (was, stays) ↦ subst (Contains (map step old.boxes)) (step-other s stays) (Contains-mapped step old.boxes s ((laid.listed s).1 was))
    ],
  )

  moved-exist : All (λ n. n < length b.area) (map step old.boxes)
  moved-exist = λ k d inside.
      let within : k < length old.boxes = omega (arith, inside, length-map old.boxes step) in
      let exists = laid.exist k 0 within in
      let is = get_or-map step old.boxes k 0 d within in
      elim (cases_eq (get_or old.boxes k 0) from) [
        | inl left ↦ let come = step-from (get_or old.boxes k 0) left in omega (arith, is, come, to_within)
        | inr stays ↦ let same = step-other (get_or old.boxes k 0) stays in omega (arith, is, same, exists)
      ]

  pub IsLaidOut-shift : new.area ≡ old.area → new.boxes ≡ replaced from to old.boxes
      → ((s : Spot) → (has free_mid s ≡ true) ↔ ((s ≡ spot_of b from) ⊎ (has old.free s ≡ true)))
      → ((s : Spot) → (has new.free s ≡ true) ↔ ((s ≡ spot_of b to → ⊥) × (has free_mid s ≡ true)))
      → ((s : Spot) → (has boxed_mid s ≡ true) ↔ ((s ≡ spot_of b from → ⊥) × (has old.boxed s ≡ true)))
      → ((s : Spot) → (has new.boxed s ≡ true) ↔ ((s ≡ spot_of b to) ⊎ (has boxed_mid s ≡ true)))
      → IsLaidOut b after new
  IsLaidOut-shift same_area new_boxes free_put free_taken boxed_taken boxed_put = record {
    area = subst (Draws b (λ n. n < length b.area)) (sym same_area) laid.area;
    free = moved-free free_put free_taken;
    boxed = moved-boxed boxed_taken boxed_put;
    exist = subst (All (λ n. n < length b.area)) (sym new_boxes) moved-exist;
    listed = λ s. subst (λ squares. Contains squares s ↔ Contains after s) (sym new_boxes) (moved-listed s);
  }

-- Boxes that are not held are taken away, until each box is held by those that are left.
use Rattle.std.proofs.Common.{ℕ, ◌≡◌, ◌≢◌, ◌<◌, ◌+◌, ◌-◌, inl, inr, sym, ap, ◌∙◌, List, [], ◌∷◌, ◌++◌, Some, None, Contains, IsSomeAnd}
use Rattle.std.proofs.Common.{Option, arith, length, get_or}
use Rattle.std.specs.List.{range_with_len, remove}
use Rattle.std.proofs.lemmas.Bool.{cases_eq, cases_lt}
use Rattle.std.proofs.lemmas.List.{get_or_default, map-id}
use Rattle.std.proofs.lemmas.List.Edits.{length-remove, get_or-remove_below, get_or-remove_above}
use Rattle.std.proofs.lemmas.List.FromFn.{map-range_with_len_more}
use Rattle.sok_rules.specs.declared.cell.Dir.{Dir}
use Rattle.sok_rules.specs.declared.cell.Dir.TheVariants.{Left, Up}
use Rattle.sok_rules.specs.Squares.{opposite}
use Rattle.sok_board.specs.Area.{BoardView, beside}
use Rattle.sok_price.specs.Prices.{IsMember}
use Rattle.sok_bar.specs.Jam.{Held, IsHeld, IsJam}
use Rattle.sok_bar.proofs.Rising.{Contains-member}

one_of_more : (o : Option ℕ) (P Q : ℕ → Type 0) → ((s : ℕ) → P s → Q s) → IsSomeAnd o P → IsSomeAnd o Q
one_of_more None P Q more none = none
one_of_more (Some s) P Q more one = more s one

-- more boxes hold what fewer hold
Held-more : (b : BoardView) (P Q : ℕ → Type 0) → ((s : ℕ) → P s → Q s) → (s : ℕ) (d : Dir) → Held b P s d → Held b Q s d
Held-more b P Q more s d (Held.wall_ahead h) = Held.wall_ahead h
Held-more b P Q more s d (Held.wall_behind h) = Held.wall_behind h
Held-more b P Q more s d (Held.box_ahead h) = Held.box_ahead (one_of_more (beside b s d) P Q more h)
Held-more b P Q more s d (Held.box_behind h) = Held.box_behind (one_of_more (beside b s (opposite d)) P Q more h)
Held-more b P Q more s d (Held.between_stuck h k) = Held.between_stuck h k

pub IsHeld-more : (b : BoardView) (P Q : ℕ → Type 0) → ((s : ℕ) → P s → Q s) → (s : ℕ) → IsHeld b P s → IsHeld b Q s
IsHeld-more b P Q more s held = record { across = Held-more b P Q more s Left held.across; along = Held-more b P Q more s Up held.along }

-- an element other than the one at a place is there after the removal of that place
pub Contains-remove : (xs : List ℕ) (k x : ℕ) → k < length xs → x ≢ get_or xs k 0 → Contains xs x → Contains (remove xs k) x
Contains-remove xs k x inside other (j, within, is) =
    let shorter = length-remove xs k inside in
    elim (cases_lt j k) [
      | inl before ↦ (j, omega (arith, before, inside, shorter), get_or-remove_below xs k x j before inside ∙ is)
      | inr after ↦ elim (cases_eq j k) [
        | inl same ↦ absurd (other (sym is ∙ ap (λ n. get_or xs n x) same ∙ get_or_default xs k x 0 inside))
        | inr apart ↦
            let later : (j - 1) + 1 ≡ j = omega (arith, after, apart) in (
              j - 1,
              omega (arith, within, shorter, after, apart),
              get_or-remove_above xs k x (j - 1) (omega (arith, after, apart)) inside ∙ ap
                  (λ n. get_or xs n x) later ∙ is,
            )
      ]
    ]

pub range-more : (n : ℕ) → range_with_len 0 (n + 1) ≡ range_with_len 0 n ++ n ∷ []
range-more n =
    sym (map-id (range_with_len 0 (n + 1))) ∙ map-range_with_len_more (λ (m : ℕ). m) 0 n n (omega arith) ∙ ap (λ xs. xs ++ n ∷ []) (map-id (range_with_len 0 n))

-- a box of a jam is held by all boxes
pub IsHeld-all : (b : BoardView) (boxes jam : List ℕ) → IsJam b boxes jam → (s : ℕ) → IsMember boxes jam s → IsHeld b (Contains boxes) s
IsHeld-all b boxes jam is_jam s one = IsHeld-more b (IsMember boxes jam) (Contains boxes) (Contains-member boxes jam) s (is_jam.held s one)

-- Two boxes of a position, and what is told where none of them is lost.
use Rattle.std.proofs.Common.{ℕ, ◌≡◌, ◌<◌, ◌+◌, ◌∙◌, inl, inr, sym, subst, List, [], ◌∷◌, Bool, true, false, true≢false, Option, None, Some, IfNone, Contains, arith, get_or, length}
use Rattle.std.specs.List.Sorted.{IsStrictlyIncreasing}
use Rattle.std.specs.Option.{is_some}
use Rattle.std.proofs.lemmas.Bool.{cases_lt}
use Rattle.std.proofs.lemmas.List.Elements.{All-cons, All-contains, All-nil}
use Rattle.std.proofs.lemmas.Option.{slice_get-get_or, slice_get_within}
use Rattle.sok_board.proofs.Lists.{Contains-at}
use Rattle.sok_closed.proofs.Looking.{entry_at}
use Rattle.sok_alone.specs.declared.losses.Losses.{Losses}
use Rattle.sok_alone.specs.Losses.{HasRoom, KeepsPlaces, losses_of}

-- two boxes in order
pub rising-pair : (one other : ℕ) → one < other → IsStrictlyIncreasing (one ∷ other ∷ [])
rising-pair one other less k below =
    let first : 0 ≡ k = omega (arith, below) in
    subst (λ n. get_or (one ∷ other ∷ []) n 0 < get_or (one ∷ other ∷ []) (n + 1) 0) first less

-- they are among the boxes
pub among-pair : (boxes : List ℕ) (i j : ℕ) → i < length boxes → j < length boxes → (square : ℕ) → Contains (get_or boxes i 0 ∷ get_or boxes j 0 ∷ []) square
    → Contains boxes square
among-pair boxes i j i_within j_within square there =
    let one = get_or boxes i 0 in
    let other = get_or boxes j 0 in
    let first = Contains-at boxes one i (slice_get-get_or boxes i 0 i_within) in
    let second = Contains-at boxes other j (slice_get-get_or boxes j 0 j_within) in
    All-contains (Contains boxes) (one ∷ other ∷ []) square
    (All-cons (Contains boxes) one (other ∷ []) first (All-cons (Contains boxes) other [] second (All-nil (Contains boxes)))) there

-- no loss was found
pub not-found : (found : Option ℕ) (some : Bool) (P : Type 0) → some ≡ is_some found → some ≡ false → IfNone found P → P
not-found None some P is not told = told
not-found (Some place) some P is not told = absurd (true≢false (sym is ∙ not))

-- one was
pub was-found : (found : Option ℕ) (some : Bool) (P : Type 0) → some ≡ is_some found → some ≡ true → IfNone found P
was-found None some P is there = absurd (true≢false (sym there ∙ is))
was-found (Some place) some P is there = tt

-- where one more loss can be kept, it could before
pub room-before : (old new : Losses) → KeepsPlaces (losses_of old) (losses_of new) → HasRoom new → HasRoom old
room-before old new kept room = elim (cases_lt (length (losses_of new)) (length (losses_of old))) [
  | inl fewer ↦
      let (loss, there) = entry_at (losses_of old) (length (losses_of new)) fewer in
      let within = slice_get_within (losses_of new) (length (losses_of new)) loss (kept (length (losses_of new)) loss there) in
      absurd (omega (arith, within))
  | inr past ↦ omega (arith, past, room)
]

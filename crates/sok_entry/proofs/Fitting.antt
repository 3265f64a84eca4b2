-- Lists of numbers that are within the limits.
use Rattle.std.proofs.Common.{ℕ, ◌≡◌, ◌↔◌, List, [], ◌∷◌, ◌++◌, All, Bool, false, IsTrue, length, sym, ◌∙◌, true≢false}
use Rattle.std.proofs.lemmas.List.Elements.{All-append, All-cons, All-head, All-tail, All-nil}
use Rattle.sok_entry.specs.declared.entry.Entry.{Entry}
use Rattle.sok_entry.specs.declared.entry.Inner.{Inner}
use Rattle.sok_entry.specs.Text.{IsSmall, numbers_of_position, numbers_of_reason, FitsEntry, FitsInner, FitsReason}

-- of two tests the first is passed, and the second decides
pub second_decides : {P Q : Type 0} (second : Bool) → (IsTrue second ↔ P) → (P → Q) → (Q → P) → IsTrue second ↔ Q
second_decides second tells make part = (λ yes. make (tells.0 yes), λ h. tells.1 (part h))

-- of two tests the first is not passed
pub first_decides : {P Q : Type 0} (first : Bool) → first ≡ false → (IsTrue first ↔ P) → (Q → P) → IsTrue first ↔ Q
first_decides first failed tells part = (λ yes. absurd (true≢false (sym yes ∙ failed)), λ h. tells.1 (part h))

-- a front and the rest
pub All-parts : {X : Type 0} (P : X → Type 0) (xs ys : List X) → All P (xs ++ ys) → All P xs × All P ys
All-parts P [] ys h = (All-nil P, h)
All-parts P (x ∷ xs) ys h =
    let parts = All-parts P xs ys (All-tail P x (xs ++ ys) h) in
    (All-cons P x xs (All-head P x (xs ++ ys) h) parts.0, parts.1)

pub FitsEntry-parts : (e : Entry) → FitsEntry e → All IsSmall (numbers_of_position e) × FitsReason e.reason (length e.boxes)
FitsEntry-parts e fits =
    let parts = All-parts IsSmall (numbers_of_position e) (numbers_of_reason e.reason) fits.small in
    (parts.0, (fits.priced, parts.1, fits.inner))

pub FitsEntry-from_parts : (e : Entry) → All IsSmall (numbers_of_position e) → FitsReason e.reason (length e.boxes) → FitsEntry e
FitsEntry-from_parts e position reason = record {
  small = All-append IsSmall (numbers_of_position e) (numbers_of_reason e.reason) position reason.1;
  priced = reason.0;
  inner = reason.2;
}

-- members behind their count, and how many inner positions there are
abbrev counts_of_pattern : List ℕ → List Inner → List ℕ
counts_of_pattern members inner = length members ∷ members ++ length inner ∷ []

pub pattern-from_parts : (members : List ℕ) (inner : List Inner) → All IsSmall (length members ∷ members) → IsSmall (length inner) × All FitsInner inner
    → All IsSmall (counts_of_pattern members inner) × All FitsInner inner
pattern-from_parts members inner first (short, fit) = (
  All-append IsSmall (length members ∷ members) (length inner ∷ []) first (All-cons IsSmall (length inner) [] short (All-nil IsSmall)),
  fit,
)

pub pattern-parts : (members : List ℕ) (inner : List Inner) → All IsSmall (counts_of_pattern members inner) × All FitsInner inner
    → All IsSmall (length members ∷ members) × (IsSmall (length inner) × All FitsInner inner)
pattern-parts members inner (small, fit) =
    let parts = All-parts IsSmall (length members ∷ members) (length inner ∷ []) small in
    (parts.0, (All-head IsSmall (length inner) [] parts.1, fit))

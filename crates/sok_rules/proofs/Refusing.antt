-- A refusal names the first of some causes, in order.
use Rattle.std.proofs.Common.{◌≡◌, ◌⊎◌, ◌∙◌, inl, inr, sym}

-- the fault of a cause
abbrev pub Names : {F : Type 0} → F → Type 0 → F → Type 0
Names fault Cause f = (f ≡ fault) × Cause

-- a fault for a first cause, or where that does not hold one for a later cause
abbrev pub OrLater : {F : Type 0} → (F → Type 0) → Type 0 → (F → Type 0) → F → Type 0
OrLater First Not Later f = First f ⊎ (Not × Later f)

pub Names-one : {F : Type 0} (fault : F) (Cause : Type 0) (f g : F) → Names fault Cause f → Names fault Cause g → f ≡ g
Names-one fault Cause f g (is, _) (also, _) = is ∙ sym also

-- there is one, where the first cause has one and the later causes have one
pub OrLater-one : {F : Type 0} (First : F → Type 0) (Not : Type 0) (Later : F → Type 0) (f g : F) → ((h : F) → First h → Not → ⊥)
    → (First f → First g → f ≡ g) → (Later f → Later g → f ≡ g)
    → OrLater First Not Later f → OrLater First Not Later g → f ≡ g
OrLater-one First Not Later f g apart first later (inl is) (inl also) = first is also
OrLater-one First Not Later f g apart first later (inl is) (inr (none, _)) = absurd (apart f is none)
OrLater-one First Not Later f g apart first later (inr (none, _)) (inl is) = absurd (apart g is none)
OrLater-one First Not Later f g apart first later (inr (_, is)) (inr (_, also)) = later is also

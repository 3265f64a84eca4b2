-- Ids in 64 bits.
use Rattle.std.proofs.Common.{◌≡◌, ◌∙◌, ap, ℕ, ℤ, pos, ◌<◌, ◌^◌, to_z, of_z, w64}
use Rattle.std.proofs.lemmas.Int.{fits_signed_from_abs, to_z-of_z}

pub wide : (z : ℤ) (id : ℕ) → id < 2 ^ 63 → z ≡ pos id → to_z w64 (of_z w64 z) ≡ pos id
wide z id small is = ap (λ x. to_z w64 (of_z w64 x)) is ∙ to_z-of_z w64 (pos id) (fits_signed_from_abs w64 (pos id) small)

-- An id as a call is given it.
use Rattle.std.proofs.Common.{ℤ, ◌<◌, ◌^◌, FitsSigned, arith, negsuc, of_z, pos, subst, to_z, w64}
use Rattle.std.proofs.lemmas.Int.{to_z-of_z}
use lib.Signed.{mag}

abbrev pub passed : ℤ → ℤ
passed id = to_z w64 (of_z w64 id)

-- what is true of it is true of the id
pub of_passed : (P : ℤ → Type 0) (id : ℤ) → FitsSigned w64 id → P (passed id) → P id
of_passed P id fits is = subst P (to_z-of_z w64 id fits) is

-- an id that is small fits
pub fits : (id : ℤ) → mag id < 2 ^ 63 → FitsSigned w64 id
fits (pos n) few = record { sfits = few }
fits (negsuc n) few = record { sfits = omega arith }

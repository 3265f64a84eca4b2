-- What the calls of a table tell.
use Rattle.std.proofs.Common.{ℕ, ◌≡◌, sym, subst, Option, Some, None, Bool, is_some, MatchBool, MatchOption}

-- whether a look-up found a place
pub found-or-not : (None-is : Type 0) (Some-is : ℕ → Type 0) (o : Option ℕ) (found : Bool) → MatchOption o None-is Some-is → found ≡ is_some o
    → MatchBool found ((place : ℕ) × Some-is place) None-is
found-or-not None-is Some-is None found told is = subst (λ t. MatchBool t ((place : ℕ) × Some-is place) None-is) (sym is) told
found-or-not None-is Some-is (Some place) found told is = subst (λ t. MatchBool t ((at : ℕ) × Some-is at) None-is) (sym is) (place, told)

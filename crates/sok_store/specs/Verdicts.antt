-- Why a verdict is not set by a claim that is known to be true.
use Rattle.std.specs.Prelude.{ℕ, ◌≡◌, ◌≢◌, ◌⊎◌, IsSomeAnd}
use Rattle.sok_rules.specs.Squares.{Rows}
use Rattle.sok_cert.specs.Claim.{Claim}
use Rattle.sok_book.specs.declared.fault.BookFault.{BookFault}
use Rattle.sok_book.specs.declared.fault.BookFault.TheVariants.{ClaimDiffers, NoLevel}
use Rattle.sok_book.specs.Books.{Book, Page, page_at}
use Rattle.sok_book.specs.Commands.{Meets, StandsAt, best_pushes}

-- the level with this id is not this one, or the claim does not fit its best solution
abbrev pub IsNotSet : Book → ℕ → Rows → Claim → BookFault → Type 0
IsNotSet book id rows claim NoLevel = StandsAt book rows id → ⊥
IsNotSet book id rows claim ClaimDiffers = StandsAt book rows id × IsSomeAnd (page_at book id) (λ page. Meets claim (best_pushes page) → ⊥)
IsNotSet book id rows claim _ = ⊥

-- why a claim on a level does not apply to a page: the page has another level, or the claim does not fit its best solution
abbrev pub IsNoClaimOn : Page → Rows → Claim → BookFault → Type 0
IsNoClaimOn page rows claim fault =
    ((fault ≡ NoLevel) × (page.level ≢ rows)) ⊎ ((fault ≡ ClaimDiffers) × (page.level ≡ rows) × (Meets claim (best_pushes page) → ⊥))

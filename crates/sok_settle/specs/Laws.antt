-- What holds of a book after a settling, or after lines of offers.
use Rattle.std.specs.Prelude.{ℕ, pos, ◌≡◌, ◌≢◌, ◌⊎◌, ◌≤◌, List, Option, Some, Result, true}
use Rattle.sok_cert.specs.Claim.{Claim}
use Rattle.sok_book.specs.declared.record.Verdict.TheVariants.{Untested}
use Rattle.sok_book.specs.Books.{Book, Page, IsTrueBook, page_at}
use Rattle.sok_book.specs.Commands.{verdict_of}
use Rattle.sok_store.specs.Histories.{IsMadeOf}
use Rattle.sok_engine.specs.declared.fault.ToolFault.{ToolFault}
use Rattle.sok_settle.specs.declared.settle.Span.{Span}
use Rattle.sok_settle.specs.Keeping.{Keeping}
use Rattle.sok_settle.specs.Offers.{OffersBytes, WritesOffers}
use Rattle.sok_settle.specs.Settles.{IsBeyond, SettlesFirst, SettlesSome, WritesSettling}

-- however a settling ends, some of the first levels were gone through, or none
abbrev pub SettlingsAreSome : Keeping → Type 0
SettlingsAreSome keeping =
    (limit : ℕ) (span : Span) (book after : Book) (old new : Option (List ℕ)) (result : Result ℕ ToolFault)
    → WritesSettling keeping limit span book after old new result → SettlesSome keeping limit span book after

-- then the book is what accepted commands make of the one before, one after another
abbrev pub SettlingsFold : Keeping → Type 0
SettlingsFold keeping = (limit : ℕ) (span : Span) (book after : Book) → SettlesSome keeping limit span book after → IsMadeOf book after

-- so a true book stays true
abbrev pub SettlingsKeepTruth : Keeping → Type 0
SettlingsKeepTruth keeping = (limit : ℕ) (span : Span) (book after : Book) → SettlesSome keeping limit span book after → IsTrueBook book → IsTrueBook after

-- a level outside the span, or with a verdict, stays as it was
abbrev pub SettlingsKeepVerdicts : Keeping → Type 0
SettlingsKeepVerdicts keeping =
    (limit : ℕ) (span : Span) (book after : Book) (id : ℕ) (page : Page) → SettlesSome keeping limit span book after → page_at book id ≡ Some page
    → IsBeyond span (pos id) ⊎ (page.verdict ≢ Untested) → page_at after id ≡ Some page

-- if each of the first levels that was tried is settled, each of them has a verdict, or is outside the span
abbrev pub SettledHaveVerdicts : Keeping → Type 0
SettledHaveVerdicts keeping =
    (limit : ℕ) (span : Span) (book : Book) (n : ℕ) (text : List ℕ) (after : Book) (id : ℕ) (page : Page) → SettlesFirst keeping limit span book n text true after
    → id ≤ n → page_at after id ≡ Some page → IsBeyond span (pos id) ⊎ (page.verdict ≢ Untested)

-- if a level had no verdict and has one now, a certificate of its claim was kept
abbrev pub SettledHaveCerts : Keeping → Type 0
SettledHaveCerts keeping =
    (limit : ℕ) (span : Span) (book after : Book) (id : ℕ) (page new : Page) → SettlesSome keeping limit span book after → page_at book id ≡ Some page
    → page_at after id ≡ Some new → page.verdict ≡ Untested → new.verdict ≢ Untested
    → (shown : Claim) × (verdict_of shown ≡ new.verdict) × keeping.keeps limit (pos id) page.level shown

-- ---- lines of offers

-- however the call ends, some of the first lines were offered, or none
abbrev pub OffersAreSome : Type 0
OffersAreSome =
    (known : Option (List ℕ)) (book after : Book) (old new : Option (List ℕ)) (result : Result ℕ ToolFault) → WritesOffers book known after old new result
    → OffersBytes known book after

-- then the book is what accepted commands make of the one before, one after another
abbrev pub OffersFold : Type 0
OffersFold = (known : Option (List ℕ)) (book after : Book) → OffersBytes known book after → IsMadeOf book after

-- so a true book stays true
abbrev pub OffersKeepTruth : Type 0
OffersKeepTruth = (known : Option (List ℕ)) (book after : Book) → OffersBytes known book after → IsTrueBook book → IsTrueBook after

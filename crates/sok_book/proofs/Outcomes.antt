-- A command is done or refused, and never both.
use Rattle.std.proofs.Common.{ℕ, ◌≡◌, ◌≢◌, ◌≤◌, inl, inr, refl, sym, subst, ◌∙◌, List, Option, Some, None, Ok, Err}
use Rattle.std.proofs.Common.{IsNone, IsSome, IsSomeAnd, length, arith}
use Rattle.std.proofs.lemmas.Option.{none-some, same_Some}
use Rattle.sok_rules.specs.declared.cell.Dir.{Dir}
use Rattle.sok_rules.specs.declared.fault.PlayFault.TheVariants as play
use Rattle.sok_rules.specs.Squares.{Rows}
use Rattle.sok_rules.specs.Play.{AllOnGoals, Position, Solves, run, start}
use Rattle.sok_rules.proofs.Outcomes.{blocked_not_legal}
use Rattle.sok_board.specs.Area.{BoardView}
use Rattle.sok_board.proofs.OneRefusal.{IsAccepted-one, IsRefused-acceptable}
use Rattle.sok_cert.specs.Claim.{Claim}
use Rattle.sok_cert.specs.Claim.TheVariants as claim
use Rattle.sok_cert.specs.CertFault.{CertFault}
use Rattle.sok_cert.specs.Entry.{Entry}
use Rattle.sok_cert.specs.Text.{SpellsCertificate}
use Rattle.sok_cert.specs.Verdicts.{IsProofOf, IsVerdict}
use Rattle.sok_cert.proofs.Readings.{Spells-one}
use Rattle.sok_cert.proofs.Verdicts.{IsVerdict-one}
use Rattle.sok_book.specs.declared.fault.BookFault.{BookFault}
use Rattle.sok_book.specs.declared.fault.BookFault.TheVariants as book
use Rattle.sok_book.specs.Books.{Book, Page, page_at}
use Rattle.sok_book.specs.Commands.{is_known, is_new, IsCertificate, Meets, best_pushes}
use Rattle.sok_book.specs.Outcomes.{AddsAreNotRefused, OffersAreNotRefused, ProofsAreNotRefused, SolutionsAreNotRefused}
use Rattle.sok_book.specs.Refusals.{Differs, IsNoProof, IsNoSolution, IsUnproved}

-- ---- solutions

there : (o : Option Position) (P : Position → Type 0) → IsSomeAnd o P → IsSome o
there None P is = absurd is
there (Some x) P is = refl

-- letters that solve are legal
pub legal-from_Solves : (rows : Rows) (letters : List Dir) → Solves rows letters → IsSome (run rows (start rows) letters)
legal-from_Solves rows letters solves = there (run rows (start rows) letters) (AllOnGoals rows) solves

pub solutions-are-not-refused : SolutionsAreNotRefused
solutions-are-not-refused rows letters (book.Letters play.TooLong) solves few refused = omega (arith, few, refused)
solutions-are-not-refused rows letters (book.Letters (play.Blocked at)) solves few refused =
    blocked_not_legal rows letters at refused.1 (legal-from_Solves rows letters solves)
solutions-are-not-refused rows letters book.NotSolved solves few refused = refused.2 solves
solutions-are-not-refused rows letters fault solves few refused = refused

-- ---- pages

-- what holds of the page at an id
of_page : (o : Option Page) (page : Page) (P : Page → Type 0) → o ≡ Some page → IsSomeAnd o P → P page
of_page None page P is holds = absurd holds
of_page (Some other) page P is holds = subst P (same_Some other page is) holds

not_missing : (o : Option Page) (page : Page) → o ≡ Some page → IsNone o → ⊥
not_missing None page is none = none-some page is
not_missing (Some other) page is none = absurd cc

-- ---- adding

pub adds-are-not-refused : AddsAreNotRefused
adds-are-not-refused b after rows title id (book.Level f) acceptable adds refused = IsRefused-acceptable rows f refused.0 refused.1 acceptable
adds-are-not-refused b after rows title id book.BookFull acceptable (is_known stands same) refused = refused.1 id stands
adds-are-not-refused b after rows title id book.BookFull acceptable (is_new fresh room last grown) refused = omega (arith, room, refused.2)
adds-are-not-refused b after rows title id fault acceptable adds refused = refused

-- ---- offering

-- a refusal that is about the page
offered : (b : Book) (id : ℕ) (letters : List Dir) (fault : BookFault) (page : Page) → page_at b id ≡ Some page → Solves page.level letters
    → length letters ≤ 1000000 → IsSomeAnd (page_at b id) (λ (p : Page). IsNoSolution p.level letters fault) → ⊥
offered b id letters fault page at solves few refused =
    solutions-are-not-refused page.level letters fault solves few
    (of_page (page_at b id) page (λ (p : Page). IsNoSolution p.level letters fault) at refused)

pub offers-are-not-refused : OffersAreNotRefused
offers-are-not-refused b after id letters answer book.NoLevel offers refused = not_missing (page_at b id) offers.page offers.there refused
offers-are-not-refused b after id letters answer fault offers refused =
    offered b id letters fault offers.page offers.there offers.solves offers.few refused

-- ---- proving

-- a claim that is about the best differs from nothing
pushes_differ : (k : ℕ) (best : Option ℕ) → best ≡ Some k → IsSomeAnd best (λ n. n ≢ k) → ⊥
pushes_differ k None is other = other
pushes_differ k (Some n) is other = other (same_Some n k is)

some_none : (best : Option ℕ) → best ≡ None → IsSome best → ⊥
some_none None is some = absurd cc
some_none (Some n) is some = none-some n (sym is)

differs : (c : Claim) (best : Option ℕ) (fault : BookFault) → Meets c best → Differs c best fault → ⊥
differs (claim.Pushes k) best book.NoBest meets none = none-some k (sym none ∙ meets)
differs (claim.Pushes k) best book.ClaimDiffers meets other = pushes_differ k best meets other
differs claim.Unsolvable best book.ClaimDiffers meets some = some_none best meets some
differs c best fault meets other = absurd other

-- another claim is not spelled
claimed : (b : BoardView) (best : Option ℕ) (bytes : List ℕ) (c : Claim) (fault : BookFault) → IsProofOf b bytes c → Meets c best
    → (other : Claim) × (entries : List Entry) × SpellsCertificate bytes other entries × Differs other best fault → ⊥
claimed b best bytes c fault is meets (other, entries, spelled, differ) =
    let same = (Spells-one bytes c other is.entries entries is.spelled spelled).0 in
    differs other best fault (subst (λ d. Meets d best) same meets) differ

-- bytes that show a claim about the best are refused for nothing
not_refused : (b : BoardView) (best : Option ℕ) (bytes : List ℕ) (c : Claim) (fault : CertFault) → IsProofOf b bytes c → IsVerdict b bytes (Err fault) → ⊥
not_refused b best bytes c fault is other =
    let e : Ok c ≡ Err fault = IsVerdict-one b bytes (Ok c) (Err fault) is other in
    cc

shown : (b : BoardView) (best : Option ℕ) (bytes : List ℕ) (c : Claim) (fault : BookFault) → IsProofOf b bytes c → Meets c best
    → IsNoProof b best bytes fault → ⊥
shown b best bytes c (book.Certificate f) is meets (other, inl wrong) = not_refused b best bytes c f is (other, inl wrong)
shown b best bytes c (book.Certificate f) is meets (other, inr unclosed) =
    not_refused b best bytes c f is
    (other, inr (record { claim = unclosed.claim; entries = unclosed.entries; spelled = unclosed.spelled; refused = unclosed.refused }))
shown b best bytes c fault is meets other = claimed b best bytes c fault is meets other

unproved : (bk : Book) (id : ℕ) (bytes : List ℕ) (c : Claim) (fault : BookFault) (page : Page) → page_at bk id ≡ Some page → IsCertificate page.level bytes c
    → Meets c (best_pushes page) → IsSomeAnd (page_at bk id) (λ (p : Page). IsUnproved p bytes fault) → ⊥
unproved bk id bytes c fault page at certificate meets refused =
    let (b, rows, accepted, none) = of_page (page_at bk id) page (λ (p : Page). IsUnproved p bytes fault) at refused in
    let same : certificate.board ≡ b = IsAccepted-one certificate.board b (certificate.rows_are ∙ sym rows) certificate.accepted accepted in
    shown b (best_pushes page) bytes c fault (subst (λ d. IsProofOf d bytes c) same certificate.shown) meets none

pub proofs-are-not-refused : ProofsAreNotRefused
proofs-are-not-refused bk after id bytes c book.NoLevel proves refused = not_missing (page_at bk id) proves.page proves.there refused
proofs-are-not-refused bk after id bytes c fault proves refused =
    unproved bk id bytes c fault proves.page proves.there proves.certificate proves.meets refused

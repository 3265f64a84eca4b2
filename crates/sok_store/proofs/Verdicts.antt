-- What becomes of a claim that is known to be true, for a page.
use Rattle.std.proofs.Common.{◌≡◌, ◌≢◌, ◌⊎◌, inl, inr, refl, sym, subst, ◌∙◌, ℕ, Option, Some, None, Result, Ok, Err, IfErr, IsNone, IsSomeAnd, Bool, Decides, List, ◌↔◌, IsTrue, ap}
use Rattle.sqlite.specs.State.{State}
use Rattle.sok_rules.specs.Squares.{Rows}
use Rattle.sok_rules.specs.Levels.{IsLevel}
use Rattle.sok_text.specs.Canonical.{level_text}
use Rattle.sok_cert.specs.Claim.{Claim}
use Rattle.sok_cert.specs.Closed.{IsTrueOf}
use Rattle.sok_book.specs.declared.fault.BookFault.{BookFault}
use Rattle.sok_book.specs.declared.fault.BookFault.TheVariants.{ClaimDiffers, Database, Memory, NoLevel}
use Rattle.sok_book.specs.Books.{Book, Page, PageWithId, page_at}
use Rattle.sok_book.specs.Commands.{Meets, SetsVerdict, StandsAt, best_pushes, verdict_of}
use Rattle.sok_book.specs.Kept.{IsKeptPage}
use Rattle.sok_book.proofs.Texts.{one_level}
use Rattle.sok_store.specs.Calls.{IsCaused}
use Rattle.sok_store.specs.Changing.{HasVerdict}
use Rattle.sok_store.specs.Verdicts.{IsNoClaimOn, IsNotSet}
use Rattle.sok_store.specs.Running.{Runs, RunsVerdict, RunsReading, RunsSetting}
use Rattle.sok_store.proofs.Calls.{stops_less}
use Rattle.sok_store.proofs.Found.{some_and}
use Rattle.sok_store.proofs.KeptPages.{IsKeptPage-judged, judged}
use Rattle.sok_store.proofs.Running.{Replaces, replaced_runs, unreplaced_runs}

-- ---- of the page

-- where no page is, no level stands
pub none_stands : (o : Option Page) (P : Page → Type 0) → IsNone o → IsSomeAnd o P → ⊥
none_stands None P none stands = stands
none_stands (Some page) P none stands = absurd cc

stands_there : (book : Book) (id : ℕ) (page : Page) (rows : Rows) → page_at book id ≡ Some page → StandsAt book rows id → page.level ≡ rows
stands_there book id page rows at stands = subst (λ (o : Option Page). IsSomeAnd o (λ p. p.level ≡ rows)) at stands

pub claim_refused : (id : ℕ) (rows : Rows) (claim : Claim) (page : Page) (fault : BookFault) → (fault ≡ Memory) ⊎ IsNoClaimOn page rows claim fault
    → (book : Book) → IsKeptPage page → page_at book id ≡ Some page → (fault ≡ Memory) ⊎ ((fault ≢ Database) × IsNotSet book id rows claim fault)
claim_refused id rows claim page fault (inl memory) book kept at = inl memory
claim_refused id rows claim page fault (inr (inl (missing, other))) book kept at =
    let refused : IsNotSet book id rows claim NoLevel = λ stands. other (stands_there book id page rows at stands) in
    inr ((λ database. let no : NoLevel ≡ Database = sym missing ∙ database in absurd cc), subst (IsNotSet book id rows claim) (sym missing) refused)
claim_refused id rows claim page fault (inr (inr (differs, same, unmet))) book kept at =
    let refused : IsNotSet book id rows claim ClaimDiffers = (
      some_and (page_at book id) (λ p. p.level ≡ rows) page at same,
      some_and (page_at book id) (λ p. Meets claim (best_pushes p) → ⊥) page at unmet,
    ) in
    inr ((λ database. let no : ClaimDiffers ≡ Database = sym differs ∙ database in absurd cc), subst (IsNotSet book id rows claim) (sym differs) refused)

-- levels are the same where their texts are
pub same_levels : (rows other : Rows) → IsLevel rows → IsLevel other → (text other_text : List ℕ) → text ≡ level_text rows → other_text ≡ level_text other
    → (same : Bool) → Decides same (text ≡ other_text) → IsTrue same ↔ rows ≡ other
same_levels rows other level of_other text other_text is other_is same test = (
  λ so. one_level rows other level of_other (sym is ∙ test.0 so ∙ other_is),
  λ one. test.1 (is ∙ ap level_text one ∙ sym other_is),
)

-- ---- what is done of it

pub claim_stored : (id : ℕ) (rows : Rows) (claim : Claim) (page : Page) → IsTrueOf rows claim → page.level ≡ rows → Meets claim (best_pushes page)
    → Replaces {X = Unit {0}} id page (λ _ book after. SetsVerdict book id claim after) tt (HasVerdict (verdict_of claim))
claim_stored id rows claim page truth same meets = record {
  after = judged page (verdict_of claim);
  makes = λ book at. record {
    page = page;
    there = at;
    true_claim = subst (λ (r : Rows). IsTrueOf r claim) (sym same) truth;
    meets = meets;
    after_is = refl;
  };
  writes = λ kept. record { kept = IsKeptPage-judged page claim kept meets; after_is = refl };
}

-- so it may be made with nothing to answer
caused_verdict : {X : Type 0} (old new : State) (id : ℕ) (claim : Claim) (result : Result X BookFault)
    → IfErr result (IsCaused old new (λ book after. (x : Unit {0}) × SetsVerdict book id claim after))
    → IfErr result (IsCaused old new (λ book after. SetsVerdict book id claim after))
caused_verdict old new id claim (Ok x) cause = tt
caused_verdict old new id claim (Err fault) cause = λ database clean book holds. elim (cause database clean book holds) [
  | inl (after, made, big) ↦ inl (after, made.1, big)
  | inr why ↦ inr why
]

verdict_runs : (old new : State) (id : ℕ) (rows : Rows) (claim : Claim) (result : Result (Unit {0}) BookFault)
    → Runs old new (λ _ book after. SetsVerdict book id claim after) (λ book after. (x : Unit {0}) × SetsVerdict book id claim after)
    (λ book fault. IsNotSet book id rows claim fault) result → RunsVerdict old new id rows claim result
verdict_runs old new id rows claim result runs = record {
  done = runs.done;
  refused = runs.refused;
  stop = stops_less old new (λ book after. (x : Unit {0}) × SetsVerdict book id claim after) (λ book after. SetsVerdict book id claim after)
      (λ book after made. made.1) runs.stop;
  cause = caused_verdict old new id claim result runs.cause;
}

-- the verdict is set, or not
pub verdict_set : (old mid new : State) (id : ℕ) (rows : Rows) (claim : Claim) (kept : PageWithId) → IsTrueOf rows claim → kept.page.level ≡ rows
    → Meets claim (best_pushes kept.page) → RunsReading old mid id (Ok kept) → (result : Result (Unit {0}) BookFault)
    → RunsSetting mid new id (HasVerdict (verdict_of claim)) result → RunsVerdict old new id rows claim result
verdict_set old mid new id rows claim kept truth same meets read (Ok x) set =
    verdict_runs old new id rows claim (Ok x) (replaced_runs (claim_stored id rows claim kept.page truth same meets) old mid new read _ x set)
verdict_set old mid new id rows claim kept truth same meets read (Err fault) set =
    verdict_runs old new id rows claim (Err fault) (unreplaced_runs (claim_stored id rows claim kept.page truth same meets) old mid new read _ fault set)

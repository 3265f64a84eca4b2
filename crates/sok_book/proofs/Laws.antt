-- A command keeps a true book true, and its bests and verdicts only get better.
use Rattle.std.proofs.Common.{◌≡◌, ◌≢◌, ◌<◌, ◌≤◌, ◌⊎◌, inl, inr, refl, sym, ap, subst, ◌∙◌, ℕ, List, [], Option, Some, None, true}
use Rattle.std.proofs.Common.{IsSomeAnd, IfSome, nat_lt, option_map, arith, suc, zero, if◌then◌else◌}
use Rattle.std.proofs.lemmas.Bool.{cases_Bool}
use Rattle.std.proofs.lemmas.Bool.Decides.{nat_tests}
use Rattle.std.proofs.lemmas.Option.{none-some, same_Some}
use Rattle.sok_rules.specs.declared.cell.Dir.{Dir}
use Rattle.sok_rules.specs.Squares.{Rows}
use Rattle.sok_rules.specs.Play.{start, pushes, AtLeast, Solves}
use Rattle.sok_cert.specs.Claim.{Claim}
use Rattle.sok_cert.specs.Claim.TheVariants as claim
use Rattle.sok_cert.specs.Closed.{IsTrueOf}
use Rattle.sok_book.specs.declared.record.Verdict.{Verdict}
use Rattle.sok_book.specs.declared.record.Verdict.TheVariants.{Untested, Optimal, Unsolvable}
use Rattle.sok_book.specs.Books.{Book, Page, Solution, IsSolution, IsTrueBook, IsTruePage, IsVerdictOf, page_at, solution_of}
use Rattle.sok_book.specs.Commands.{Meets, best_pushes, is_better, verdict_of, with_best}
use Rattle.sok_book.specs.Laws.{empty, more, KeepsPage, IsNoWorse, CommandsKeepPages, CommandsKeepTruth, MadeBooksAreTrue, VerdictsStay}
use Rattle.sok_book.proofs.Commands.{Becomes, stays, is_offered, is_judged, Changes-command, IsNewPage, IsNewPage-command}

-- letters that solve are a solution with their numbers
solved : (rows : Rows) (letters : List Dir) → Solves rows letters → IsSolution rows (solution_of rows letters)
solved rows letters solves = record { solves = solves; counted = refl }

-- the page with a better best, and the page where it is no better
abbrev with_new : Page → Solution → Page
with_new page new = record page { best = Some new; verdict = Untested }

chosen : (page : Page) (new : Solution)
    → ((is_better new.pushes (best_pushes page) ≡ true) × (with_best page new ≡ with_new page new)) ⊎ (with_best page new ≡ page)
chosen page new = elim (cases_Bool (is_better new.pushes (best_pushes page))) [
  | inl better ↦ inl (better, ap (λ b. if b then with_new page new else page) better)
  | inr other ↦ inr (ap (λ b. if b then with_new page new else page) other)
]

-- ---- truth

proved_true : (rows : Rows) (best : Option Solution) (shown : Claim) → IfSome best (IsSolution rows) → IsTrueOf rows shown
    → Meets shown (option_map (λ it. it.pushes) best) → IsVerdictOf rows best (verdict_of shown)
proved_true rows None (claim.Pushes k) solution shown meets = absurd (none-some k meets)
proved_true rows (Some best) (claim.Pushes k) solution shown meets = record {
  least = subst (AtLeast rows) (sym (same_Some best.pushes k meets)) shown;
  reached = (best.letters, solution.solves, sym (ap (λ (it : Solution). it.pushes) solution.counted));
}
proved_true rows None claim.Unsolvable solution shown meets = shown
proved_true rows (Some best) claim.Unsolvable solution shown meets = absurd (none-some best.pushes (sym meets))

becomes_true : (page next : Page) → IsTruePage page → Becomes page next → IsTruePage next
becomes_true page next truth (stays same) = subst IsTruePage same truth
becomes_true page next truth (is_offered letters solves same) =
    let new = solution_of page.level letters in
    subst IsTruePage same (elim (chosen page new) [
      | inl (better, is) ↦ subst IsTruePage (sym is) (record { best = solved page.level letters solves; verdict = tt })
      | inr is ↦ subst IsTruePage (sym is) truth
    ])
becomes_true page next truth (is_judged shown true_claim meets same) =
    let verdict = proved_true page.level page.best shown truth.best true_claim meets in
    subst IsTruePage same (record { best = truth.best; verdict = verdict })

new_true : (page : Page) → IsNewPage page → IsTruePage page
new_true page (rows, title, same) = subst IsTruePage same (record { best = tt; verdict = tt })

cases_page : (book : Book) (id : ℕ) → ((page : Page) × (page_at book id ≡ Some page)) ⊎ (page_at book id ≡ None)
cases_page book id = elim (page_at book id) as (λ o. ((page : Page) × (o ≡ Some page)) ⊎ (o ≡ None)) [ Some page ↦ inl (page, refl) | None ↦ inr refl ]

pub CommandsKeepTruth-all : CommandsKeepTruth
CommandsKeepTruth-all book after truth leads id page there = elim (cases_page book id) [
  | inl (before, at) ↦
      let step = Changes-command book after id before leads at in
      let same : step.next ≡ page = same_Some step.next page (sym step.there ∙ there) in
      subst IsTruePage same (becomes_true before step.next (truth id before at) step.becomes)
  | inr past ↦ new_true page (IsNewPage-command book after id page leads past there)
]

none_there : IsTrueBook []
none_there id page there = absurd (none-some page (sym (none_at id) ∙ there)) where
  none_at : (id : ℕ) → page_at [] id ≡ None
  none_at zero = refl
  none_at (suc n) = refl

pub MadeBooksAreTrue-all : MadeBooksAreTrue
MadeBooksAreTrue-all book empty = none_there
MadeBooksAreTrue-all book (more before after made leads) = CommandsKeepTruth-all before after (MadeBooksAreTrue-all before made) leads

-- ---- bests

less : (m n : ℕ) → nat_lt m n ≡ true → m < n
less m n h = grind (arith, nat_tests, h)

no_worse : (rows : Rows) (best : Option Solution) → IfSome best (λ it. IsNoWorse rows it best)
no_worse rows None = tt
no_worse rows (Some best) = inl refl

better : (rows : Rows) (best : Option Solution) (new : Solution) → IsSolution rows new → is_better new.pushes (option_map (λ it. it.pushes) best) ≡ true
    → IfSome best (λ it. IsNoWorse rows it (Some new))
better rows None new solution is = tt
better rows (Some best) new solution is = inr (solution, less new.pushes best.pushes is)

becomes_kept : (page next : Page) → Becomes page next → KeepsPage page next
becomes_kept page next (stays same) = subst (KeepsPage page) same (record { level = refl; title = refl; best = no_worse page.level page.best })
becomes_kept page next (is_offered letters solves same) =
    let new = solution_of page.level letters in
    subst (KeepsPage page) same (elim (chosen page new) [
      | inl (fewer, is) ↦
          let solution = solved page.level letters solves in
          subst (KeepsPage page) (sym is) (record { level = refl; title = refl; best = better page.level page.best new solution fewer })
      | inr is ↦ subst (KeepsPage page) (sym is) (record { level = refl; title = refl; best = no_worse page.level page.best })
    ])
becomes_kept page next (is_judged shown true_claim meets same) =
    subst (KeepsPage page) same (record { level = refl; title = refl; best = no_worse page.level page.best })

at_next : (P : Page → Type 0) (o : Option Page) (next : Page) → o ≡ Some next → P next → IsSomeAnd o P
at_next P o next is holds = subst (λ (found : Option Page). IsSomeAnd found P) (sym is) holds

pub CommandsKeepPages-all : CommandsKeepPages
CommandsKeepPages-all book after id page leads there =
    let step = Changes-command book after id page leads there in
    at_next (KeepsPage page) (page_at after id) step.next step.there (becomes_kept page step.next step.becomes)

-- ---- verdicts

-- a level with a true verdict has no better solution
untested : (rows : Rows) (best : Option Solution) (verdict : Verdict) (letters : List Dir) → IsVerdictOf rows best verdict → Solves rows letters
    → is_better (pushes rows (start rows) letters) (option_map (λ it. it.pushes) best) ≡ true → verdict ≡ Untested
untested rows best Untested letters truth solves fewer = refl
untested rows None Optimal letters truth solves fewer = absurd truth
untested rows (Some best) Optimal letters truth solves fewer =
    let most : best.pushes ≤ pushes rows (start rows) letters = truth.least letters solves in
    let under : pushes rows (start rows) letters < best.pushes = less _ best.pushes fewer in
    absurd (omega arith)
untested rows None Unsolvable letters truth solves fewer = absurd (truth letters solves)
untested rows (Some best) Unsolvable letters truth solves fewer = absurd truth

proved_again : (rows : Rows) (best : Option Solution) (old : Verdict) (shown : Claim) → IsVerdictOf rows best old → old ≢ Untested
    → Meets shown (option_map (λ it. it.pushes) best) → verdict_of shown ≡ old
proved_again rows best Untested shown truth tested meets = absurd (tested refl)
proved_again rows None Optimal shown truth tested meets = absurd truth
proved_again rows (Some best) Optimal (claim.Pushes k) truth tested meets = refl
proved_again rows (Some best) Optimal claim.Unsolvable truth tested meets = absurd (none-some best.pushes (sym meets))
proved_again rows None Unsolvable (claim.Pushes k) truth tested meets = absurd (none-some k meets)
proved_again rows None Unsolvable claim.Unsolvable truth tested meets = refl
proved_again rows (Some best) Unsolvable shown truth tested meets = absurd truth

verdict_stays : (page next : Page) → IsTruePage page → page.verdict ≢ Untested → Becomes page next → next.verdict ≡ page.verdict
verdict_stays page next truth tested (stays same) = ap (λ (p : Page). p.verdict) (sym same)
verdict_stays page next truth tested (is_offered letters solves same) =
    ap (λ (p : Page). p.verdict) (sym same) ∙ elim (chosen page (solution_of page.level letters)) [
      | inl (fewer, is) ↦ absurd (tested (untested page.level page.best page.verdict letters truth.verdict solves fewer))
      | inr is ↦ ap (λ (p : Page). p.verdict) is
    ]
verdict_stays page next truth tested (is_judged shown true_claim meets same) =
    ap (λ (p : Page). p.verdict) (sym same) ∙ proved_again page.level page.best page.verdict shown truth.verdict tested meets

pub VerdictsStay-all : VerdictsStay
VerdictsStay-all book after id page truth leads there tested =
    let step = Changes-command book after id page leads there in
    at_next (λ (next : Page). next.verdict ≡ page.verdict) (page_at after id) step.next step.there
    (verdict_stays page step.next (truth id page there) tested step.becomes)

pub IsTrueBook-empty : IsTrueBook []
IsTrueBook-empty = none_there

-- Pages that commands make may be kept, and what their rows hold.
use Rattle.std.proofs.Common.{◌≡◌, refl, sym, ℕ, List, Option, Some, None, IfSome, is_some, option_map, true, not}
use Rattle.std.proofs.lemmas.Option.{none-some}
use Rattle.sok_rules.specs.Squares.{Rows}
use Rattle.sok_rules.specs.Levels.{IsLevel}
use Rattle.sok_board.specs.Refusals.{IsAcceptable}
use Rattle.sok_cert.specs.Claim.{Claim}
use Rattle.sok_cert.specs.Claim.TheVariants.{Pushes, Unsolvable as NoSolution}
use Rattle.sok_book.specs.declared.record.Verdict.{Verdict}
use Rattle.sok_book.specs.declared.record.Verdict.TheVariants.{Untested}
use Rattle.sok_book.specs.Books.{Page, Solution}
use Rattle.sok_book.specs.Commands.{Meets, best_pushes, new_page, verdict_of}
use Rattle.sok_book.specs.Kept.{IsKeptPage, IsKeptSolution}
use Rattle.sok_book.specs.Titles.{IsTitle}

-- ---- a new page

pub IsKeptPage-new : (rows : Rows) (title : Option (List ℕ)) → IsLevel rows → IsAcceptable rows → IfSome title IsTitle → IsKeptPage (new_page rows title)
IsKeptPage-new rows title level accepted of_title = record { level = level; accepted = accepted; title = of_title; best = tt; verdict = refl }

-- ---- with another best solution, and no verdict

abbrev pub solved : Page → Solution → Page
solved page best = record page { best = Some best; verdict = Untested }

pub IsKeptPage-solved : (page : Page) (best : Solution) → IsKeptPage page → IsKeptSolution page.level best → IsKeptPage (solved page best)
IsKeptPage-solved page best kept of_best =
    record { level = kept.level; accepted = kept.accepted; title = kept.title; best = of_best; verdict = refl }

-- ---- with another verdict

abbrev pub judged : Page → Verdict → Page
judged page verdict = record page { verdict = verdict }

pub IsKeptPage-judged : (page : Page) (shown : Claim) → IsKeptPage page → Meets shown (best_pushes page) → IsKeptPage (judged page (verdict_of shown))
IsKeptPage-judged page (Pushes k) kept meets = record {
  level = kept.level;
  accepted = kept.accepted;
  title = kept.title;
  best = kept.best;
  verdict = go page.best meets;
}
  where
    go : (best : Option Solution) → option_map (λ b. b.pushes) best ≡ Some k → is_some best ≡ true
    go None is = absurd (none-some k is)
    go (Some best) is = refl
IsKeptPage-judged page NoSolution kept meets = record {
  level = kept.level;
  accepted = kept.accepted;
  title = kept.title;
  best = kept.best;
  verdict = go page.best meets;
}
  where
    go : (best : Option Solution) → option_map (λ b. b.pushes) best ≡ None → not (is_some best) ≡ true
    go None is = refl
    go (Some best) is = absurd (none-some best.pushes (sym is))

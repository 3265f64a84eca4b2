-- A record that is made of the values of a row, and what tells whether they are its own.
use Rattle.std.proofs.Common.{◌≡◌, ◌≢◌, ◌⊎◌, ◌≤◌, inl, inr, refl, sym, ap, subst, ◌∙◌, ℕ, List, Option, Some, None, Result, Ok, Err, IfSome}
use Rattle.std.proofs.Common.{length, option_map, unwrap_or}
use Rattle.std.proofs.lemmas.Option.{none-some, same_Some}
use Rattle.sok_rules.specs.declared.cell.Dir.{Dir}
use Rattle.sok_rules.specs.declared.fault.LevelFault.{LevelFault}
use Rattle.sok_rules.specs.declared.fault.LevelFault.TheVariants as fault
use Rattle.sok_rules.specs.Levels.{IsLevel}
use Rattle.sok_rules.specs.Limits.{letter_limit}
use Rattle.sok_rules.specs.Play.{pushes, start, Solves}
use Rattle.sok_rules.specs.Squares.{Rows}
use Rattle.sok_text.specs.Canonical.{level_text}
use Rattle.sok_text.specs.Collections.{blocks_of, level_at}
use Rattle.sok_text.specs.Lurd.{GoesWrong, Spells}
use Rattle.sok_text.specs.declared.lurd.LurdFault.{LurdFault}
use Rattle.sok_text.specs.declared.lurd.LurdFault.TheVariants as lurd
use Rattle.sok_text.proofs.Letters.{Spells-GoesWrong}
use Rattle.sok_book.specs.declared.fault.BookFault.{BookFault}
use Rattle.sok_book.specs.declared.fault.BookFault.TheVariants as book
use Rattle.sok_book.specs.Books.{Page, Solution}
use Rattle.sok_book.specs.Kept.{IsKeptSolution}
use Rattle.sok_book.specs.Refusals.{IsNoSolution}
use Rattle.sok_book.specs.Texts.{lurd_of}
use Rattle.sok_book.proofs.Outcomes.{solutions-are-not-refused}
use Rattle.sok_book.proofs.Texts.{Spells-kept, level_at-level_text, same_rows}
use Rattle.sok_sql.specs.Leaves.{Leaf}
use Rattle.sok_store.specs.Parsing.{AreBestValues}
use Rattle.sok_store.specs.Rows.{leaf_of, verdict_number}

-- ---- values by their parts

pub leaf_is : (leaf : Leaf) (page : Page) → leaf.text ≡ level_text page.level → leaf.title ≡ page.title → AreBestValues page.level page.best leaf
    → leaf.verdict ≡ verdict_number page.verdict → leaf ≡ leaf_of page
leaf_is leaf page text title best verdict =
    λ i. record { text = text i; title = title i; lurd = best.lurd i; pushes = best.pushes i; moves = best.moves i; verdict = verdict i }

pub best_values : (leaf : Leaf) (page : Page) → leaf ≡ leaf_of page → AreBestValues page.level page.best leaf
best_values leaf page is =
    record { lurd = ap (λ (l : Leaf). l.lurd) is; pushes = ap (λ (l : Leaf). l.pushes) is; moves = ap (λ (l : Leaf). l.moves) is }

-- ---- the level

module _ (text : List ℕ) (r : Result Rows LevelFault) (reads : (r ≡ Err fault.Memory) ⊎ (r ≡ level_at (blocks_of text) 1)) (rows : Rows)
    (level : IsLevel rows) (same : level_text rows ≡ text) where
  there : level_at (blocks_of text) 1 ≡ Ok rows
  there = ap (λ t. level_at (blocks_of t) 1) (sym same) ∙ level_at-level_text rows level

  pub level_read : (found : Rows) → r ≡ Ok found → found ≡ rows
  level_read found is = elim reads [
    | inl memory ↦ absurd (let e : Ok found ≡ Err fault.Memory = sym is ∙ memory in cc)
    | inr read ↦ same_rows found rows r is (read ∙ there)
  ]

  pub level_unread : (cause : LevelFault) → cause ≢ fault.Memory → r ≡ Err cause → ⊥
  level_unread cause other is = elim reads [
    | inl memory ↦ other (let e : Err cause ≡ Err fault.Memory = sym is ∙ memory in cc)
    | inr read ↦ let e : Err cause ≡ Ok rows = sym is ∙ read ∙ there in absurd cc
  ]

-- ---- the best solution

pub best_read : (rows : Rows) (best : Option Solution) → IfSome best (IsKeptSolution rows) → (text : List ℕ) (pushed moved : Option ℕ)
    → Some text ≡ option_map (λ (b : Solution). lurd_of rows b.letters) best → pushed ≡ option_map (λ (b : Solution). b.pushes) best
    → moved ≡ option_map (λ (b : Solution). b.moves) best → (letters : List Dir) → ((w : List Dir) → Spells text w → letters ≡ w)
    → Some (record { letters = letters; pushes = unwrap_or pushed 0; moves = unwrap_or moved 0 }) ≡ best
best_read rows None kept text pushed moved lurd of_pushed of_moved letters only = absurd (none-some text (sym lurd))
best_read rows (Some best) kept text pushed moved lurd of_pushed of_moved letters only =
    let same : text ≡ lurd_of rows best.letters = same_Some text (lurd_of rows best.letters) lurd in
    let spelled = subst (λ t. Spells t best.letters) (sym same) (Spells-kept rows best kept) in
    let letters_are : letters ≡ best.letters = only best.letters spelled in
    let pushes_are : unwrap_or pushed 0 ≡ best.pushes = ap (λ o. unwrap_or o 0) of_pushed in
    let moves_are : unwrap_or moved 0 ≡ best.moves = ap (λ o. unwrap_or o 0) of_moved in
    λ i. Some (record { letters = letters_are i; pushes = pushes_are i; moves = moves_are i })

pub best_unread : (rows : Rows) (best : Option Solution) → None ≡ option_map (λ (b : Solution). lurd_of rows b.letters) best → None ≡ best
best_unread rows None lurd = refl
best_unread rows (Some best) lurd = absurd (none-some _ lurd)

-- ---- whether it may be kept

pub solution_may : (rows : Rows) (best : Solution) → Solves rows best.letters → length best.letters ≤ letter_limit
    → pushes rows (start rows) best.letters ≡ best.pushes → length best.letters ≡ best.moves → IsKeptSolution rows best
solution_may rows best solves few pushed moved = record {
  solution = record { solves = solves; counted = λ i. record { letters = best.letters; pushes = sym pushed i; moves = sym moved i } };
  few = few;
}

pub solution_pushes : (rows : Rows) (best : Solution) → IsKeptSolution rows best → pushes rows (start rows) best.letters ≡ best.pushes
solution_pushes rows best kept = sym (ap (λ (s : Solution). s.pushes) kept.solution.counted)

pub solution_moves : (rows : Rows) (best : Solution) → IsKeptSolution rows best → length best.letters ≡ best.moves
solution_moves rows best kept = sym (ap (λ (s : Solution). s.moves) kept.solution.counted)

pub solution_never : (rows : Rows) (best : Solution) (cause : BookFault) → cause ≢ book.Memory
    → (cause ≡ book.Memory) ⊎ IsNoSolution rows best.letters cause → IsKeptSolution rows best → ⊥
solution_never rows best cause other (inl memory) kept = other memory
solution_never rows best cause other (inr none) kept = solutions-are-not-refused rows best.letters cause kept.solution.solves kept.few none

-- ---- the letters

pub letters_unread : (text : List ℕ) (letters : List Dir) (cause : LurdFault) → cause ≢ lurd.Memory → (cause ≡ lurd.Memory) ⊎ GoesWrong text cause
    → Spells text letters → ⊥
letters_unread text letters cause other (inl memory) spelled = other memory
letters_unread text letters cause other (inr wrong) spelled = Spells-GoesWrong text letters cause spelled wrong

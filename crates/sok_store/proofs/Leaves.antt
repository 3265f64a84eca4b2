-- What a row holds tells its page, and that of a page that may be kept can be read.
use Rattle.std.proofs.Common.{◌≡◌, ℕ, ◌<◌, ◌^◌, List, pos, Option, Some, None, IfSome, option_map, refl, sym, ap, subst, ◌∙◌, arith}
use Rattle.std.proofs.lemmas.Option.{none-some, same_Some}
use Rattle.std.specs.Str.{IsUtf8}
use Rattle.sqlite.specs.declared.types.Value.TheVariants.{Int, Text as Words, Blob as Bytes}
use Rattle.sqlite.specs.Values.{or_null}
use Rattle.sok_rules.specs.Squares.{Rows}
use Rattle.sok_rules.specs.Play.{start}
use Rattle.sok_rules.proofs.Runs.{pushes-le-length}
use Rattle.sok_book.specs.declared.record.Verdict.{Verdict}
use Rattle.sok_book.specs.declared.record.Verdict.TheVariants.{Untested, Optimal, Unsolvable}
use Rattle.sok_book.specs.Books.{Page, Solution}
use Rattle.sok_book.specs.Kept.{IsKeptPage, IsKeptSolution}
use Rattle.sok_book.specs.Texts.{lurd_of}
use Rattle.sok_book.proofs.Ascii.{IsUtf8-level_text, IsUtf8-marked_text}
use Rattle.sok_book.proofs.Texts.{one_level, one_solution}
use Rattle.sok_sql.specs.Leaves.{Leaf, shown}
use Rattle.sok_store.specs.Laws.{RowsHaveOnePage}
use Rattle.sok_store.specs.Readable.{IsReadable}
use Rattle.sok_store.specs.Rows.{leaf_of, verdict_number}

-- ---- what may be kept can be read

few-pushes : (rows : Rows) (best : Solution) → IsKeptSolution rows best → best.pushes < 2 ^ 32
few-pushes rows best kept =
    let is = ap (λ (s : Solution). s.pushes) kept.solution.counted in
    omega (arith, is, pushes-le-length rows best.letters (start rows), kept.few)

few-moves : (rows : Rows) (best : Solution) → IsKeptSolution rows best → best.moves < 2 ^ 32
few-moves rows best kept =
    let is = ap (λ (s : Solution). s.moves) kept.solution.counted in
    omega (arith, is, kept.few)

lurd-readable : (rows : Rows) (o : Option Solution) → IfSome (option_map (λ (best : Solution). lurd_of rows best.letters) o) IsUtf8
lurd-readable rows None = tt
lurd-readable rows (Some best) = IsUtf8-marked_text rows (start rows) best.letters

pushes-readable : (rows : Rows) (o : Option Solution) → IfSome o (IsKeptSolution rows)
    → IfSome (option_map (λ (best : Solution). best.pushes) o) (λ n. n < 2 ^ 32)
pushes-readable rows None kept = tt
pushes-readable rows (Some best) kept = few-pushes rows best kept

moves-readable : (rows : Rows) (o : Option Solution) → IfSome o (IsKeptSolution rows)
    → IfSome (option_map (λ (best : Solution). best.moves) o) (λ n. n < 2 ^ 32)
moves-readable rows None kept = tt
moves-readable rows (Some best) kept = few-moves rows best kept

verdict-readable : (v : Verdict) → verdict_number v < 2 ^ 32
verdict-readable Untested = omega arith
verdict-readable Optimal = omega arith
verdict-readable Unsolvable = omega arith

pub kept-readable : (page : Page) → IsKeptPage page → IsReadable (leaf_of page)
kept-readable page kept = record {
  text = IsUtf8-level_text page.level;
  lurd = lurd-readable page.level page.best;
  pushes = pushes-readable page.level page.best kept.best;
  moves = moves-readable page.level page.best kept.best;
  verdict = verdict-readable page.verdict;
}

-- ---- a row tells what it holds

words-back : (a b : Option (List ℕ)) → or_null Words a ≡ or_null Words b → a ≡ b
words-back None None e = refl
words-back None (Some y) e = absurd cc
words-back (Some x) None e = absurd cc
words-back (Some x) (Some y) e = cc

bytes-back : (a b : Option (List ℕ)) → or_null Bytes a ≡ or_null Bytes b → a ≡ b
bytes-back None None e = refl
bytes-back None (Some y) e = absurd cc
bytes-back (Some x) None e = absurd cc
bytes-back (Some x) (Some y) e = cc

count-back : (a b : Option ℕ) → or_null (λ n. Int (pos n)) a ≡ or_null (λ n. Int (pos n)) b → a ≡ b
count-back None None e = refl
count-back None (Some y) e = absurd cc
count-back (Some x) None e = absurd cc
count-back (Some x) (Some y) e = cc

pub leaf-back : (id other : ℕ) (v w : Leaf) → shown id v ≡ shown other w → v ≡ w
leaf-back id other v w e =
    let text : v.text ≡ w.text = cc in
    let titles : or_null Bytes v.title ≡ or_null Bytes w.title = cc in
    let lurds : or_null Words v.lurd ≡ or_null Words w.lurd = cc in
    let pushes : or_null (λ n. Int (pos n)) v.pushes ≡ or_null (λ n. Int (pos n)) w.pushes = cc in
    let moves : or_null (λ n. Int (pos n)) v.moves ≡ or_null (λ n. Int (pos n)) w.moves = cc in
    let verdict : v.verdict ≡ w.verdict = cc in
    let title = bytes-back v.title w.title titles in
    let lurd = words-back v.lurd w.lurd lurds in
    let pushed = count-back v.pushes w.pushes pushes in
    let moved = count-back v.moves w.moves moves in
    λ i. record { text = text i; title = title i; lurd = lurd i; pushes = pushed i; moves = moved i; verdict = verdict i }

-- ---- and what it holds tells its page

one_best : (rows : Rows) (best other : Option Solution) → IfSome best (IsKeptSolution rows) → IfSome other (IsKeptSolution rows)
    → option_map (λ (b : Solution). lurd_of rows b.letters) best ≡ option_map (λ (b : Solution). lurd_of rows b.letters) other → best ≡ other
one_best rows None None kept of_other same = refl
one_best rows None (Some other) kept of_other same = absurd (none-some _ same)
one_best rows (Some best) None kept of_other same = absurd (none-some _ (sym same))
one_best rows (Some best) (Some other) kept of_other same = ap Some (one_solution rows best other kept of_other (same_Some _ _ same))

pub one_verdict : (v w : Verdict) → verdict_number v ≡ verdict_number w → v ≡ w
one_verdict Untested Untested same = refl
one_verdict Untested Optimal same = absurd cc
one_verdict Untested Unsolvable same = absurd cc
one_verdict Optimal Untested same = absurd cc
one_verdict Optimal Optimal same = refl
one_verdict Optimal Unsolvable same = absurd cc
one_verdict Unsolvable Untested same = absurd cc
one_verdict Unsolvable Optimal same = absurd cc
one_verdict Unsolvable Unsolvable same = refl

pub rows-have-one-page : RowsHaveOnePage
rows-have-one-page page other leaf is of_other =
    let same = sym is.leaf_is ∙ of_other.leaf_is in
    let level : page.level ≡ other.level = one_level page.level other.level is.kept.level of_other.kept.level (ap (λ (l : Leaf). l.text) same) in
    let title : page.title ≡ other.title = ap (λ (l : Leaf). l.title) same in
    let told = option_map (λ (b : Solution). lurd_of other.level b.letters) other.best in
    let lurd = subst (λ rows. option_map (λ (b : Solution). lurd_of rows b.letters) page.best ≡ told) level (ap (λ (l : Leaf). l.lurd) same) in
    let best : page.best ≡ other.best =
    one_best other.level page.best other.best (subst (λ rows. IfSome page.best (IsKeptSolution rows)) level is.kept.best) of_other.kept.best lurd in
    let verdict : page.verdict ≡ other.verdict = one_verdict page.verdict other.verdict (ap (λ (l : Leaf). l.verdict) same) in
    λ i. record { level = level i; title = title i; best = best i; verdict = verdict i }

-- so a row is of one page that may be kept
pub one_page : (id other : ℕ) (page twin : Page) → IsKeptPage page → IsKeptPage twin → shown id (leaf_of page) ≡ shown other (leaf_of twin) → page ≡ twin
one_page id other page twin kept of_twin e = rows-have-one-page page twin (leaf_of page) (record { kept = kept; leaf_is = refl })
    (record { kept = of_twin; leaf_is = leaf-back id other (leaf_of page) (leaf_of twin) e })

-- A level's text and a solution's tell what they are of.
use Rattle.std.proofs.Common.{◌≡◌, List, [], ◌∷◌, Result, Ok, Err, sym, ap, ◌∙◌, refl, subst}
use Rattle.sok_rules.specs.declared.fault.LevelFault.{LevelFault}
use Rattle.sok_rules.specs.Squares.{Rows}
use Rattle.sok_rules.specs.Levels.{IsLevel, level_of}
use Rattle.sok_text.specs.Canonical.{level_text}
use Rattle.sok_text.specs.Collections.{Block, blocks_of, level_at, rows_of}
use Rattle.sok_text.specs.Lurd.{Spells}
use Rattle.sok_rules.specs.Play.{start}
use Rattle.sok_text.specs.Marked.{marked_text}
use Rattle.sok_text.proofs.Canonical.{texts-are-one-level}
use Rattle.sok_text.proofs.Letters.{Spells-one}
use Rattle.sok_text.proofs.Marked.{marked-texts-spell}
use Rattle.sok_book.specs.Books.{Solution, solution_of}
use Rattle.sok_book.proofs.Outcomes.{legal-from_Solves}
use Rattle.sok_book.specs.Kept.{IsKeptSolution}
use Rattle.sok_book.specs.Texts.{lurd_of}

pub same_rows : (a b : Rows) (r : Result Rows LevelFault) → r ≡ Ok a → r ≡ Ok b → a ≡ b
same_rows a b (Ok c) is other = let first : c ≡ a = cc in let second : c ≡ b = cc in sym first ∙ second
same_rows a b (Err f) is other = absurd cc

-- a canonical text is read as its level
level_at-of : (blocks : List Block) (block : Block) → blocks ≡ block ∷ [] → level_at blocks 1 ≡ level_of (rows_of block)
unfolding level_at
level_at-of blocks block is = ap (λ bs. level_at bs 1) is

pub level_at-level_text : (rows : Rows) → IsLevel rows → level_at (blocks_of (level_text rows)) 1 ≡ Ok rows
level_at-level_text rows level =
    let one = texts-are-one-level rows level in
    level_at-of (blocks_of (level_text rows)) one.block one.one ∙ one.level

-- so a text is of one level
pub one_level : (rows other : Rows) → IsLevel rows → IsLevel other → level_text rows ≡ level_text other → rows ≡ other
one_level rows other level of_other same =
    same_rows rows other (level_at (blocks_of (level_text rows)) 1) (level_at-level_text rows level)
    (ap (λ text. level_at (blocks_of text) 1) same ∙ level_at-level_text other of_other)

-- the marked text of a solution that may be kept spells its letters
pub Spells-kept : (rows : Rows) (best : Solution) → IsKeptSolution rows best → Spells (lurd_of rows best.letters) best.letters
Spells-kept rows best kept = marked-texts-spell rows best.letters (marked_text rows (start rows) best.letters)
    (record { legal = legal-from_Solves rows best.letters kept.solution.solves; is = refl }) kept.few

-- so a marked text is of one solution
pub one_solution : (rows : Rows) (best other : Solution) → IsKeptSolution rows best → IsKeptSolution rows other
    → lurd_of rows best.letters ≡ lurd_of rows other.letters → best ≡ other
one_solution rows best other kept of_other same =
    let letters : best.letters ≡ other.letters = Spells-one (lurd_of rows other.letters) best.letters other.letters
    (subst (λ text. Spells text best.letters) same (Spells-kept rows best kept)) (Spells-kept rows other of_other) in
    kept.solution.counted ∙ ap (solution_of rows) letters ∙ sym of_other.solution.counted

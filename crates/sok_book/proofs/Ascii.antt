-- Texts of levels and of letters are ASCII, so that they are strings.
use Rattle.std.proofs.Common.{ℕ, ◌<◌, List, [], ◌∷◌, ◌++◌, Bool, true, false, Some, None, zero, suc, arith}
use Rattle.std.proofs.lemmas.Str.{IsAscii-append, IsUtf8-from_ascii}
use Rattle.std.specs.Option.{option_map_or}
use Rattle.std.specs.Str.{IsAscii, IsUtf8}
use Rattle.sok_rules.specs.declared.cell.Cell.{Cell}
use Rattle.sok_rules.specs.declared.cell.Cell.TheVariants.{Wall, Floor, Goal, BoxOff, BoxOn, ManOff, ManOn}
use Rattle.sok_rules.specs.declared.cell.Dir.{Dir}
use Rattle.sok_rules.specs.declared.cell.Dir.TheVariants.{Left, Up, Right, Down}
use Rattle.sok_rules.specs.Squares.{Rows}
use Rattle.sok_rules.specs.Play.{Position, step}
use Rattle.sok_text.specs.Canonical.{character, level_text, row_text}
use Rattle.sok_text.specs.Marked.{marked_letter, marked_text}

ascii_none : IsAscii []
ascii_none i = omega arith

ascii_one : (c : ℕ) → c < 128 → IsAscii (c ∷ [])
ascii_one c low zero = low
ascii_one c low (suc i) = omega arith

ascii-character : (cell : Cell) → IsAscii (character cell)
ascii-character Wall = ascii_one 35 (omega arith)
ascii-character Floor = ascii_one 32 (omega arith)
ascii-character Goal = ascii_one 46 (omega arith)
ascii-character BoxOff = ascii_one 36 (omega arith)
ascii-character BoxOn = ascii_one 42 (omega arith)
ascii-character ManOff = ascii_one 64 (omega arith)
ascii-character ManOn = ascii_one 43 (omega arith)

ascii-row_text : (row : List Cell) → IsAscii (row_text row)
ascii-row_text [] = ascii_none
ascii-row_text (cell ∷ row) = IsAscii-append (character cell) (row_text row) (ascii-character cell) (ascii-row_text row)

ascii-level_text : (rows : Rows) → IsAscii (level_text rows)
ascii-level_text [] = ascii_none
ascii-level_text (row ∷ rows) =
    IsAscii-append (row_text row) (10 ∷ level_text rows) (ascii-row_text row)
    (IsAscii-append (10 ∷ []) (level_text rows) (ascii_one 10 (omega arith)) (ascii-level_text rows))

pub IsUtf8-level_text : (rows : Rows) → IsUtf8 (level_text rows)
IsUtf8-level_text rows = IsUtf8-from_ascii (level_text rows) (ascii-level_text rows)

ascii-letter : (d : Dir) (pushed : Bool) → IsAscii (marked_letter d pushed)
ascii-letter Left true = ascii_one 76 (omega arith)
ascii-letter Left false = ascii_one 108 (omega arith)
ascii-letter Up true = ascii_one 85 (omega arith)
ascii-letter Up false = ascii_one 117 (omega arith)
ascii-letter Right true = ascii_one 82 (omega arith)
ascii-letter Right false = ascii_one 114 (omega arith)
ascii-letter Down true = ascii_one 68 (omega arith)
ascii-letter Down false = ascii_one 100 (omega arith)

ascii-marked_text : (rows : Rows) (x : Position) (w : List Dir) → IsAscii (marked_text rows x w)
ascii-marked_text rows x [] = ascii_none
ascii-marked_text rows x (d ∷ w) =
    elim (step rows d x) as (λ o. IsAscii (option_map_or (λ after. marked_letter d after.pushed ++ marked_text rows after.position w) o [])) [
      | None ↦ ascii_none
      | Some a ↦ IsAscii-append (marked_letter d a.pushed) (marked_text rows a.position w) (ascii-letter d a.pushed) (ascii-marked_text rows a.position w)
    ]

pub IsUtf8-marked_text : (rows : Rows) (x : Position) (w : List Dir) → IsUtf8 (marked_text rows x w)
IsUtf8-marked_text rows x w = IsUtf8-from_ascii (marked_text rows x w) (ascii-marked_text rows x w)

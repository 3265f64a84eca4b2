-- Packed lines: the rows of a level on one line, run-length encoded (Sokoban Wiki, "Level format").
use Rattle.std.specs.Prelude.{ℕ, ◌≡◌, List, [], ◌∷◌, ◌++◌, Option, Some, None, Bool, ◌&&◌, if◌then◌else◌, ◌==◌, is_some, nat_le, length, map, flat_map, replicate, codes, false, All}
use Rattle.std.specs.Char.{is_ascii_digit}
use Rattle.std.specs.List.{AllPass, list_all, list_any}
use Rattle.std.specs.Option.{option_map_or}
use Rattle.sok_rules.specs.declared.cell.Cell.{Cell}
use Rattle.sok_rules.specs.Squares.{Rows}
use Rattle.sok_text.specs.Characters.{code}
use Rattle.sok_text.specs.Counts.{times}
use Rattle.sok_text.specs.Xsb.{cell_of}

-- Digits, of which there may be none, and the byte after them. At the end of a text that ends in digits there is no byte.
pub record Mark : Type 0 where
  pub digits : List ℕ
  pub byte : Option ℕ

abbrev pub with_digit : ℕ → List Mark → List Mark
with_digit c [] = record { digits = c ∷ []; byte = None } ∷ []
with_digit c (mark ∷ marks) = record { digits = c ∷ mark.digits; byte = mark.byte } ∷ marks

-- a text, cut after each byte that is no digit
abbrev pub marks_of : List ℕ → List Mark
marks_of [] = []
marks_of (c ∷ text) = if is_ascii_digit c then with_digit c (marks_of text) else record { digits = []; byte = Some c } ∷ marks_of text

abbrev pub is_bar : ℕ → Bool
is_bar c = c == code (codes "|")

-- no digits, or one to three with a value from 1 to 128
abbrev pub is_count : List ℕ → Bool
is_count digits = nat_le (length digits) 3 && nat_le 1 (times digits) && nat_le (times digits) 128

-- a bar that has no digits before it, or the character of a cell that has a count or no digits before it
abbrev pub is_mark : Mark → Bool
is_mark mark = option_map_or (λ c. if is_bar c then length mark.digits == 0 else is_some (cell_of c) && is_count mark.digits) mark.byte false

-- a line that has only such marks, with a wall and a bar among them
abbrev pub is_packed_line : List ℕ → Bool
is_packed_line line = list_all is_mark (marks_of line) && list_any (λ c. c == code (codes "#")) line && list_any is_bar line

abbrev pub mark_text : Mark → List ℕ
mark_text mark = mark.digits ++ option_map_or (λ c. c ∷ []) mark.byte []

-- a line is the text of these marks
pub record ReadsAs (line : List ℕ) (marks : List Mark) : Type 0 where
  pub digits : All (λ mark. AllPass is_ascii_digit mark.digits) marks
  pub are : AllPass is_mark marks
  pub text : line ≡ flat_map mark_text marks

-- the parts of a line with a character put before the first part
abbrev pub onto_first : ℕ → List (List ℕ) → List (List ℕ)
onto_first c [] = (c ∷ []) ∷ []
onto_first c (part ∷ parts) = (c ∷ part) ∷ parts

-- the parts of a line between its bars, without an empty last part
abbrev pub parts_between : List ℕ → List (List ℕ)
parts_between [] = []
parts_between (c ∷ line) = if is_bar c then [] ∷ parts_between line else onto_first c (parts_between line)

-- the cell of a mark, as often as its digits say
abbrev pub cells_of_mark : Mark → List Cell
cells_of_mark mark = option_map_or (λ c. option_map_or (replicate (times mark.digits)) (cell_of c) []) mark.byte []

abbrev pub cells_of_part : List ℕ → List Cell
cells_of_part part = flat_map cells_of_mark (marks_of part)

abbrev pub packed_rows : List ℕ → Rows
packed_rows line = map cells_of_part (parts_between line)

-- Lines that are nearly board lines, since one of their bytes is not a board character, and titles that a byte order mark hides.
use Rattle.std.specs.Prelude.{ℕ, ◌+◌, List, [], ◌∷◌, ◌++◌, Option, Some, None, Bool, ◌&&◌, ◌||◌, if◌then◌else◌, ◌==◌, nat_eq, nat_le, is_none, length, count_by, position, codes}
use Rattle.std.specs.Fmt.{decimal}
use Rattle.std.specs.List.{list_any, starts_with}
use Rattle.std.specs.Str.Lines.{lines}
use Rattle.sok_text.specs.Characters.{code}
use Rattle.sok_text.specs.Kinds.{kind_of}
use Rattle.sok_text.specs.Xsb.{cell_of}
use Rattle.sok_text.specs.declared.kind.Kind.{Kind}
use Rattle.sok_text.specs.declared.kind.Kind.TheVariants.{Row, Packed, Note}
use Rattle.sok_near.specs.declared.near.NearLine.{NearLine}

-- the maximum number of bytes in a line that is checked
abbrev pub near_limit : ℕ
near_limit = 1000

-- a byte that is not a board character
abbrev pub is_odd : ℕ → Bool
is_odd c = is_none (cell_of c)

-- the byte order mark of UTF-8, which some editors put at the front of a text
abbrev pub order_mark : List ℕ
order_mark = 0xEF ∷ 0xBB ∷ 0xBF ∷ []

-- exactly one byte is odd, or exactly the three bytes of a byte order mark at the front are
abbrev pub has_one_odd : List ℕ → Bool
has_one_odd line = count_by is_odd line == 1 || (count_by is_odd line == 3 && starts_with nat_eq line order_mark)

-- a note that would be a title without the byte order mark at its front
abbrev pub is_hidden_title : List ℕ → Bool
is_hidden_title line = starts_with nat_eq line (0xEF ∷ 0xBB ∷ 0xBF ∷ 59 ∷ [])

-- a note has a wall, and one odd byte or a byte order mark
abbrev pub is_odd_row : List ℕ → Bool
is_odd_row line = list_any (λ c. c == code (codes "#")) line && has_one_odd line

-- a note is nearly a board line, or a title: it is not too long, and has the form of one but for an odd byte or a byte order mark
abbrev pub is_near : List ℕ → Bool
is_near line = nat_le (length line) near_limit && (is_hidden_title line || is_odd_row line)

-- the place of the odd byte in a line of this kind, if the line is nearly a board line
abbrev pub near_by : Kind → List ℕ → Option ℕ
near_by Row line = None
near_by Packed line = None
near_by Note line = if is_near line then position is_odd line else None

unfoldable pub near_place : List ℕ → Option ℕ
near_place line = near_by (kind_of line) line

-- the line with this number, as a list, if it has such a place
abbrev pub near_at : ℕ → Option ℕ → List NearLine
near_at n None = []
near_at n (Some place) = record { line = n; place = place } ∷ []

-- those of some lines that are nearly board lines; the first of the lines has this number
abbrev pub near_from : ℕ → List (List ℕ) → List NearLine
near_from n [] = []
near_from n (line ∷ ls) = near_at n (near_place line) ++ near_from (n + 1) ls

-- those of a text, whose lines are counted from 1
abbrev pub near_lines : List ℕ → List NearLine
near_lines text = near_from 1 (lines text)

-- the text that reports such a line
abbrev pub near_words : NearLine → List ℕ
near_words near = codes "line " ++ (decimal near.line ++ (codes ": byte " ++ (decimal near.place ++ codes " is no board character")))

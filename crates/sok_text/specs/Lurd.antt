-- LURD, the notation of solutions (Sokoban Wiki, "Level format", "Solution"), with a number before a letter that is repeated.
use Rattle.std.specs.Prelude.{ℕ, ◌≡◌, ◌<◌, ◌≤◌, ◌+◌, List, [], ◌∷◌, ◌++◌, Option, Some, None, Bool, true, false, if◌then◌else◌, ◌==◌, ◌||◌, All, length, replicate, flat_map, codes}
use Rattle.std.specs.Char.{is_ascii_digit}
use Rattle.std.specs.List.{AllPass}
use Rattle.std.specs.Fmt.{decimal}
use Rattle.sok_rules.specs.declared.cell.Dir.{Dir}
use Rattle.sok_rules.specs.declared.cell.Dir.TheVariants.{Left, Up, Right, Down}
use Rattle.sok_rules.specs.Limits.{letter_limit}
use Rattle.sok_text.specs.Characters.{code}
use Rattle.sok_text.specs.Counts.{times, starts_with_digit}
use Rattle.sok_text.specs.declared.lurd.LurdFault.{LurdFault}
use Rattle.sok_text.specs.declared.lurd.LurdFault.TheVariants.{BadLetter, TooLong, Memory}

-- space, tab, LF or CR
abbrev pub is_blank : ℕ → Bool
is_blank c = c == code (codes " ") || c == code (codes "\t") || c == code (codes "\n") || c == code (codes "\r")

-- the direction of a letter, which is L, U, R or D in either case
abbrev pub direction : ℕ → Option Dir
direction c =
    if c == code (codes "L") || c == code (codes "l") then Some Left
    else if c == code (codes "U") || c == code (codes "u") then Some Up
    else if c == code (codes "R") || c == code (codes "r") then Some Right
    else if c == code (codes "D") || c == code (codes "d") then Some Down
    else None

-- a blank; or the digits before a letter, of which there may be none, the letter, and its direction
pub data Token : Type 0 where
  blank : ℕ → Token
  letter : List ℕ → ℕ → Dir → Token

-- the parts of a token are right: a blank; or digits whose number is not 0, and a letter with this direction
abbrev pub IsToken : Token → Type 0
IsToken (blank c) = is_blank c ≡ true
IsToken (letter digits c d) = AllPass is_ascii_digit digits × (direction c ≡ Some d) × (0 < times digits)

abbrev pub token_text : Token → List ℕ
token_text (blank c) = c ∷ []
token_text (letter digits c d) = digits ++ c ∷ []

abbrev pub token_letters : Token → List Dir
token_letters (blank c) = []
token_letters (letter digits c d) = replicate (times digits) d

-- the bytes are a sequence of tokens, and these are their letters, no more than a text may have
pub record Spells (bytes : List ℕ) (w : List Dir) : Type 0 where
  pub tokens : List Token
  pub are : All IsToken tokens
  pub text : bytes ≡ flat_map token_text tokens
  pub letters : w ≡ flat_map token_letters tokens
  pub few : length w ≤ letter_limit

-- the direction of the letter with which a text begins, if it begins with one
abbrev pub first_direction : List ℕ → Option Dir
first_direction [] = None
first_direction (c ∷ text) = direction c

-- the fault of a text at the place `at`, after the letters `w`; `left` is the text from that place on
pub data IsWrong (at : ℕ) (w : List Dir) (left : List ℕ) (fault : LurdFault) : Type 0 where
  -- a byte that is not a blank, a digit or a letter
  unknown : (c : ℕ) (rest : List ℕ) → left ≡ c ∷ rest → is_blank c ≡ false → is_ascii_digit c ≡ false → direction c ≡ None → fault ≡ BadLetter at
      → IsWrong at w left fault
  -- digits, as many as there are in a row, and no letter after them
  alone : (c : ℕ) (digits rest : List ℕ) → left ≡ (c ∷ digits) ++ rest → AllPass is_ascii_digit (c ∷ digits) → starts_with_digit rest ≡ false
      → first_direction rest ≡ None → fault ≡ BadLetter (at + length (c ∷ digits)) → IsWrong at w left fault
  -- the number 0 before a letter
  never : (digits rest : List ℕ) (c : ℕ) (d : Dir) → left ≡ digits ++ c ∷ rest → AllPass is_ascii_digit digits → direction c ≡ Some d → times digits ≡ 0
      → fault ≡ BadLetter at → IsWrong at w left fault
  -- more letters than a text may have
  many : (digits rest : List ℕ) (c : ℕ) (d : Dir) → left ≡ digits ++ c ∷ rest → AllPass is_ascii_digit digits → direction c ≡ Some d
      → letter_limit < length w + times digits → fault ≡ TooLong → IsWrong at w left fault

-- the bytes begin with a part that spells letters, and directly after that part the text has the fault
pub record GoesWrong (bytes : List ℕ) (fault : LurdFault) : Type 0 where
  pub front : List ℕ
  pub left : List ℕ
  pub whole : bytes ≡ front ++ left
  pub w : List Dir
  pub spelled : Spells front w
  pub wrong : IsWrong (length front) w left fault

-- how faults are printed: the number of each, and its name, followed by one space and its argument if it has one
abbrev pub lurd_fault_number : LurdFault → ℕ
lurd_fault_number (BadLetter at) = 11
lurd_fault_number TooLong = 14
lurd_fault_number Memory = 40

abbrev pub lurd_fault_words : LurdFault → List ℕ
lurd_fault_words (BadLetter at) = codes "BadLetter " ++ decimal at
lurd_fault_words TooLong = codes "TooLong"
lurd_fault_words Memory = codes "Memory"

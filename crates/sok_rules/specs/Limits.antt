-- The limits of levels and of play.
use Rattle.std.specs.Prelude.{ℕ}

-- the maximum number of rows of a level, and of cells in a row
abbrev pub size_limit : ℕ
size_limit = 128

-- the maximum number of letters in a session, and in a text of letters that is read
abbrev pub letter_limit : ℕ
letter_limit = 1000000

-- Which part of a title is kept: one line, without blanks at its ends.
use Rattle.std.specs.Prelude.{ℕ, ◌≡◌, ◌<◌, ◌-◌, List, Option, Some, Bool, false, ◌||◌, ◌==◌, All, IfSome, codes, length, slice_index}
use Rattle.std.specs.List.{before_first}
use Rattle.sok_text.specs.Characters.{code}
use Rattle.sok_text.specs.Lines.{is_newline}
use Rattle.sok_text.specs.Titles.{is_space, some_text, trimmed_front, without_back}

-- space, tab or CR
abbrev pub is_end_blank : ℕ → Bool
is_end_blank c = is_space c || c == code (codes "\r")

-- the first line, up to an LF, without spaces and tabs at its front, and without spaces, tabs and CRs at its back
abbrev pub kept_line : List ℕ → List ℕ
kept_line text = without_back is_end_blank (trimmed_front (before_first is_newline text))

-- the title that is kept of a text, if anything is left
abbrev pub kept_title : List ℕ → Option (List ℕ)
kept_title text = some_text (kept_line text)

-- a title: not empty, one line, no space or tab at its ends, and no CR at its back
pub record IsTitle (title : List ℕ) : Type 0 where
  pub some : 0 < length title
  pub one_line : All (λ c. is_newline c ≡ false) title
  pub front : is_space (slice_index title 0) ≡ false
  pub back : is_end_blank (slice_index title (length title - 1)) ≡ false

-- what is kept is a title, and a title is kept unchanged
abbrev pub KeptAreTitles : Type 0
KeptAreTitles = (text : List ℕ) → IfSome (kept_title text) IsTitle

abbrev pub TitlesAreKept : Type 0
TitlesAreKept = (title : List ℕ) → IsTitle title → kept_title title ≡ Some title

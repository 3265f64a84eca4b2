-- Titles of levels, from the notes around a board.
use Rattle.std.specs.Prelude.{ℕ, List, [], ◌∷◌, Option, Some, None, Bool, not, ◌||◌, if◌then◌else◌, ◌==◌, nat_eq, length, map, find, codes, drop, reverse}
use Rattle.std.specs.List.{list_all, starts_with}
use Rattle.std.specs.Option.{option_and_then}
use Rattle.sok_text.specs.Characters.{code}
use Rattle.sok_text.specs.Collections.{Block, block_at}

abbrev pub is_space : ℕ → Bool
is_space c = c == code (codes " ") || c == code (codes "\t")

-- a text without the bytes at its front that pass a test
abbrev pub without_front : (ℕ → Bool) → List ℕ → List ℕ
without_front test [] = []
without_front test (c ∷ text) = if test c then without_front test text else c ∷ text

-- a text without the bytes at its back that pass a test
abbrev pub without_back : (ℕ → Bool) → List ℕ → List ℕ
without_back test text = reverse (without_front test (reverse text))

-- a text without the spaces and tabs at its front
abbrev pub trimmed_front : List ℕ → List ℕ
trimmed_front text = without_front is_space text

-- a text without the spaces and tabs at its back
abbrev pub trimmed_back : List ℕ → List ℕ
trimmed_back text = without_back is_space text

-- a text without the spaces and tabs at both ends
abbrev pub trimmed_text : List ℕ → List ℕ
trimmed_text text = trimmed_back (trimmed_front text)

-- a text, if it is not empty; an empty title does not count
abbrev pub some_text : List ℕ → Option (List ℕ)
some_text [] = None
some_text (c ∷ text) = Some (c ∷ text)

-- the trimmed text of a line after a mark at its front, if there is any
abbrev pub text_behind : List ℕ → List ℕ → Option (List ℕ)
text_behind mark line = if starts_with nat_eq line mark then some_text (trimmed_text (drop (length mark) line)) else None

-- the title before a board: the text after the semicolon of the last note that is not blank, if that note begins with one and has text after it
abbrev pub title_before : List (List ℕ) → Option (List ℕ)
title_before notes = option_and_then (text_behind (codes ";")) (find (λ line. not (list_all is_space line)) (reverse notes))

-- the first text in a list of texts that may be missing
abbrev pub first_text : List (Option (List ℕ)) → Option (List ℕ)
first_text [] = None
first_text (Some text ∷ rest) = Some text
first_text (None ∷ rest) = first_text rest

-- the title after a board: the text of the first note that begins with `Title:` and has text after it
abbrev pub title_after : List (List ℕ) → Option (List ℕ)
title_after notes = first_text (map (text_behind (codes "Title:")) notes)

-- the title of a level: one after its board takes precedence over one before it
abbrev pub title_of : Block → Option (List ℕ)
title_of block = first_text (title_after block.after ∷ title_before block.before ∷ [])

-- the title of the n-th level, counted from 1
abbrev pub title_at : List Block → ℕ → Option (List ℕ)
title_at blocks n = option_and_then title_of (block_at blocks n)

-- The lines of inner positions, defined without entries, since an entry may have a list that keeps them. Proofs show that they are the lines of entries of the
-- same form.
use Rattle.std.specs.Prelude.{ℕ, List, [], ◌∷◌, ◌++◌, codes, decimal, length, map, slice_index}
use Rattle.std.specs.List.{flat_map}
use Rattle.sok_entry.specs.declared.entry.Inner.{Inner}
use Rattle.sok_entry.specs.declared.entry.InnerReason.{InnerReason}
use Rattle.sok_entry.specs.declared.entry.InnerReason.TheVariants.{Expanded, Crowd, Frozen}

-- the code of a text's first character
abbrev pub code : List ℕ → ℕ
code text = slice_index text 0

-- LF
abbrev pub line_feed : ℕ
line_feed = 10

-- a line with LF at its end
abbrev pub ended : List ℕ → List ℕ
ended line = line ++ line_feed ∷ []

-- each number after a space
abbrev pub spaced : List ℕ → List ℕ
spaced ns = flat_map (λ n. codes " " ++ decimal n) ns

abbrev pub letter_inside : InnerReason → ℕ
letter_inside Expanded = code (codes "x")
letter_inside (Crowd members) = code (codes "c")
letter_inside (Frozen members) = code (codes "f")

abbrev pub numbers_inside : InnerReason → List ℕ
numbers_inside Expanded = []
numbers_inside (Crowd members) = length members ∷ members
numbers_inside (Frozen members) = length members ∷ members

abbrev pub line_inside : Inner → List ℕ
line_inside i = letter_inside i.reason ∷ spaced ((i.depth ∷ i.player ∷ length i.boxes ∷ i.boxes) ++ numbers_inside i.reason)

abbrev pub lines_inside : List Inner → List ℕ
lines_inside inner = flat_map ended (map line_inside inner)

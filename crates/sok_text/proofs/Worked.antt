-- Worked texts, computed.
use Rattle.std.proofs.Common.{ℕ, ◌≡◌, refl, List, [], ◌∷◌, Some, None, codes, map, Ok, Err}
use Rattle.sok_rules.specs.declared.cell.Cell.TheVariants.{Wall, Goal, BoxOff, ManOff}
use Rattle.sok_rules.specs.declared.fault.LevelFault.TheVariants.{ManyPlayers, NoSuchLevel}
use Rattle.sok_rules.specs.Squares.{Rows}
use Rattle.sok_rules.specs.Levels.{level_of, fault_of}
use Rattle.sok_text.specs.Collections.{Block, blocks_of, level_at}
use Rattle.sok_text.specs.Titles.{title_of}

-- three levels with notes around them
three : List ℕ
three = codes "; First\n#####\n#@$.#\n#####\n\n######\n#@$@.#\n######\n\n#####\n#@$.#\n#####\nTitle: Third"

corridor : Rows
corridor =
    (Wall ∷ Wall ∷ Wall ∷ Wall ∷ Wall ∷ []) ∷ (Wall ∷ ManOff ∷ BoxOff ∷ Goal ∷ Wall ∷ []) ∷ (Wall ∷ Wall ∷ Wall ∷ Wall ∷ Wall ∷ []) ∷ []

three_titles : map title_of (blocks_of three) ≡ Some (codes "First") ∷ None ∷ Some (codes "Third") ∷ []
unfolding three blocks_of
three_titles = refl

three_levels : map (level_at (blocks_of three)) (0 ∷ 1 ∷ 2 ∷ 3 ∷ 4 ∷ []) ≡ Err NoSuchLevel ∷ Ok corridor ∷ Err ManyPlayers ∷ Ok corridor ∷ Err NoSuchLevel ∷ []
unfolding three corridor blocks_of level_at level_of fault_of
three_levels = refl

-- titles from the notes before or after a board
around : List (List ℕ) → List (List ℕ) → Block
around before after = record { before = before; board = codes "###" ∷ []; after = after }

title_after_wins : title_of (around (codes "; A" ∷ [] ∷ []) (codes "Title: B" ∷ [])) ≡ Some (codes "B")
unfolding around
title_after_wins = refl

other_note_last : title_of (around (codes "; A" ∷ codes "x" ∷ []) []) ≡ None
unfolding around
other_note_last = refl

empty_title : title_of (around (codes ";" ∷ []) []) ≡ None
unfolding around
empty_title = refl

first_full_title : title_of (around [] (codes "Title:" ∷ codes "Title: C" ∷ [])) ≡ Some (codes "C")
unfolding around
first_full_title = refl

trimmed_title : title_of (around (codes ";  A b\t" ∷ []) []) ≡ Some (codes "A b")
unfolding around
trimmed_title = refl

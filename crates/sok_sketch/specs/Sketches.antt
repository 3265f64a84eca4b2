-- Boards as they are drawn for tests.
use Rattle.std.specs.Prelude.{ℕ, List, Bool, Result, Err, ◌==◌, ◌||◌, if◌then◌else◌, is_some}
use Rattle.std.specs.List.{list_all}
use Rattle.sok_rules.specs.declared.fault.LevelFault.{LevelFault}
use Rattle.sok_rules.specs.declared.fault.LevelFault.TheVariants.{NoSuchLevel}
use Rattle.sok_rules.specs.Squares.{Rows}
use Rattle.sok_text.specs.Xsb.{cell_of}
use Rattle.sok_text.specs.Collections.{blocks_of, level_at}

-- each byte stands for a cell, or ends a line
abbrev pub is_drawn : List ℕ → Bool
is_drawn text = list_all (λ byte. byte == 10 || is_some (cell_of byte)) text

-- the first level of a text that is drawn
abbrev pub level_of : List ℕ → Result Rows LevelFault
level_of text = if is_drawn text then level_at (blocks_of text) 1 else Err NoSuchLevel

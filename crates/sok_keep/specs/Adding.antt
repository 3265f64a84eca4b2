-- How far levels are added by the time a call ends, before anything is written.
use Rattle.std.specs.Prelude.{ℕ, ◌≡◌, ◌+◌, List, ◌++◌, Option, Result, Ok, Err, length}
use Rattle.sok_rules.specs.declared.fault.LevelFault.{LevelFault}
use Rattle.sok_rules.specs.Squares.{Rows}
use Rattle.sok_text.specs.Collections.{Block}
use Rattle.sok_book.specs.declared.fault.BookFault.TheVariants as refusal
use Rattle.sok_book.specs.Books.{Book}
use Rattle.sok_book.specs.Refusals.{IsNotAdded}
use Rattle.sok_engine.specs.declared.fault.ToolFault.{ToolFault}
use Rattle.sok_engine.specs.declared.fault.ToolFault.TheVariants as tool
use Rattle.sok_keep.specs.Adds.{AddsCount, AddsFirst, AddsLevel, IsStopAt}

-- why a level is not added, so that the call ends
abbrev pub IsStop : Result Rows LevelFault → Book → ToolFault → Type 0
IsStop level book tool.Memory = Unit {0}
IsStop level book (tool.Book refusal.Database) = Unit {0}
IsStop level book (tool.Book refusal.BookFull) = (rows : Rows) × (level ≡ Ok rows) × IsNotAdded book rows refusal.BookFull
IsStop level book fault = ⊥

-- the level was added, and its line follows the others; or the book and the lines are as they were, and the call ends
abbrev pub EndsLevel : ℕ → Result Rows LevelFault → Option (List ℕ) → Book → Book → List ℕ → List ℕ → Result (Unit {0}) ToolFault → Type 0
EndsLevel n level title book after told whole (Ok done) = (line : List ℕ) × AddsLevel n level title book line after × (whole ≡ told ++ line)
EndsLevel n level title book after told whole (Err fault) = (after ≡ book) × (whole ≡ told) × IsStop level book fault

-- the level is added, with some line
abbrev pub AddsNext : ℕ → Result Rows LevelFault → Option (List ℕ) → Book → Book → Type 0
AddsNext n level title book after = (line : List ℕ) × AddsLevel n level title book line after

-- some number of the first levels of a collection are added
abbrev pub AddsSome : List Block → Book → Book → Type 0
AddsSome blocks book after = (n : ℕ) × AddsCount blocks n book after

-- all levels were added, with these lines; or the first ones, up to one that was not
abbrev pub EndsLevels : List Block → Book → Book → List ℕ → Result (Unit {0}) ToolFault → Type 0
EndsLevels blocks book after text (Ok done) = AddsFirst blocks book (length blocks) text after
EndsLevels blocks book after text (Err fault) = (n : ℕ) × AddsFirst blocks book n text after × IsStopAt blocks (n + 1) after fault

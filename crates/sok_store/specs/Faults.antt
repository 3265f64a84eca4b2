-- Faults with an outside cause.
use Rattle.std.specs.Prelude.{◌≡◌, ◌⊎◌}
use Rattle.sok_book.specs.declared.fault.BookFault.{BookFault}
use Rattle.sok_book.specs.declared.fault.BookFault.TheVariants.{Database, Memory}

-- the cause is not one of the command: memory was refused, or the database refused for another cause
abbrev pub IsOutside : BookFault → Type 0
IsOutside fault = (fault ≡ Memory) ⊎ (fault ≡ Database)

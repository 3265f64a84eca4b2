-- A store of packed keys, seen as a table.
use Rattle.std.specs.Prelude.{ℕ, ◌≤◌, ⊤}
use Rattle.sok_state.specs.declared.key.Key.{Key}
use Rattle.sok_state.specs.declared.store.Store.{Store}
use Rattle.sok_state.specs.declared.store.Store.TheVariants.{One, Two, Four, Sixteen, SixtyFour, Listed}
use Rattle.sok_state.specs.PackedKeys.{list_limit, TakesListMove}
use Rattle.sok_state.specs.Tables.{IsAt, Tabled}

-- The table that a store represents. Its room is 64 squares for each word of bits. Lists have room for each square of a board, but no spare places: a key with
-- many boxes is inserted only after they are converted to bits.
abbrev pub seen : Store → Tabled
seen (One table) = record { entries = table.entries; room = 64; spare = table.spare }
seen (Two table) = record { entries = table.entries; room = 128; spare = table.spare }
seen (Four table) = record { entries = table.entries; room = 256; spare = table.spare }
seen (Sixteen table) = record { entries = table.entries; room = 1024; spare = table.spare }
seen (SixtyFour table) = record { entries = table.entries; room = 4096; spare = table.spare }
seen (Listed alloc table) = record { entries = table.entries; room = 4096; spare = 0 }

-- the store has a form for a key with so many boxes
abbrev pub TakesCount : Store → ℕ → Type 0
TakesCount (One table) boxes = ⊤
TakesCount (Two table) boxes = ⊤
TakesCount (Four table) boxes = ⊤
TakesCount (Sixteen table) boxes = ⊤
TakesCount (SixtyFour table) boxes = ⊤
TakesCount (Listed alloc table) boxes = boxes ≤ list_limit

-- the store has a form for the key after a push from the key at an index
abbrev pub TakesMove : Store → ℕ → ℕ → ℕ → Type 0
TakesMove (One table) index from to = ⊤
TakesMove (Two table) index from to = ⊤
TakesMove (Four table) index from to = ⊤
TakesMove (Sixteen table) index from to = ⊤
TakesMove (SixtyFour table) index from to = ⊤
TakesMove (Listed alloc table) index from to = (key : Key) → IsAt table.entries key index → TakesListMove key from to

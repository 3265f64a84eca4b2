-- States of a search by their indices.
use Rattle.std.proofs.Common.{ℕ, ◌≡◌, ◌<◌, ◌≤◌, Some, arith, length, slice_get}
use Rattle.std.specs.Map.{keys_of, values_of}
use Rattle.std.proofs.lemmas.Option.{slice_get_within}
use Rattle.std.proofs.lemmas.List.{length-map}
use Rattle.sok_board.specs.Area.{BoardView, IsAccepted}
use Rattle.sok_state.specs.declared.key.Key.{Key}
use Rattle.sok_state.specs.Keys.{IsKey}
use Rattle.sok_state.specs.Tables.{IsAt}
use Rattle.sok_closed.proofs.Looking.{entry_at}
use Rattle.sok_search.specs.declared.note.Note.{Note}
use Rattle.sok_search.specs.Searches.{Progress, IsNoted, IsSearch, IsState}

-- an index at which a key stands
pub key-within : (p : Progress) (i : ℕ) (key : Key) → IsAt p.table key i → i < length p.table
key-within p i key there =
    let keys = length-map p.table (λ (entry : Key × ℕ). entry.0) in
    let within = slice_get_within (keys_of p.table) i key there in
    omega (arith, within, keys)

-- a key that stands at an index has a depth and a note
pub record HasNote (b : BoardView) (p : Progress) (i : ℕ) (key : Key) : Type 0 where
  pub depth : ℕ
  pub note : Note
  pub state : IsState p i key depth note
  pub noted : IsNoted b p i key depth note

module _ (b : BoardView) (limit : ℕ) (p : Progress) (search : IsSearch b limit p) (i : ℕ) where
  -- its note, at the depth that it has
  pub noted-at : (key : Key) (depth : ℕ) → IsAt p.table key i → slice_get (values_of p.table) i ≡ Some depth
      → (note : Note) × (slice_get p.notes i ≡ Some note) × IsNoted b p i key depth note
  noted-at key depth there depth_is =
      let within = key-within p i key there in
      let notes = search.a_note_each in
      let (note, note_is) = entry_at p.notes i (omega (arith, within, notes)) in
      (note, note_is, search.noted i key depth note (record { there = there; depth_is = depth_is; note_is = note_is }))

  pub known-key : (key : Key) → IsAt p.table key i → HasNote b p i key
  known-key key there =
      let within = key-within p i key there in
      let depths = length-map p.table (λ (entry : Key × ℕ). entry.1) in
      let (depth, depth_is) = entry_at (values_of p.table) i (omega (arith, within, depths)) in
      let (note, note_is, noted) = noted-at key depth there depth_is in
      record { depth = depth; note = note; state = record { there = there; depth_is = depth_is; note_is = note_is }; noted = noted }

  -- of each index that is one of the table
  pub known-at : i < length p.table → (key : Key) × HasNote b p i key
  known-at within =
      let keys = length-map p.table (λ (entry : Key × ℕ). entry.0) in
      let (key, there) = entry_at (keys_of p.table) i (omega (arith, within, keys)) in
      (key, known-key key there)

  -- the key is one of the board
  pub state-noted : (key : Key) → IsAt p.table key i → IsKey b key
  state-noted key there = (known-key key there).noted.state

  -- and has few boxes
  pub state-few : IsAccepted b → (key : Key) → IsAt p.table key i → length key.boxes ≤ 128
  state-few accepted key there =
      let as_many = (known-key key there).noted.as_many in
      let few = accepted.few_boxes in
      omega (arith, as_many, few)

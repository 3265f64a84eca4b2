-- What the table and the notes tell of a state that is added, and what is known of one that was taken.
use Rattle.std.proofs.Common.{ℕ, ◌≡◌, ◌<◌, ◌∙◌, ap, subst, Bool, true, false, [], ◌∷◌, Some, arith, length, slice_get}
use Rattle.std.specs.Map.{keys_of, values_of}
use Rattle.std.proofs.lemmas.List.{map-append}
use Rattle.std.proofs.lemmas.Option.{none-some}
use Rattle.sok_board.specs.Area.{BoardView}
use Rattle.sok_state.specs.declared.key.Key.{Key}
use Rattle.sok_state.specs.Keys.{IsKey}
use Rattle.sok_state.specs.Tables.{Entries, Enters, GoesLast, IsAt}
use Rattle.sok_search.specs.declared.note.Note.{Note}
use Rattle.sok_search.specs.Searches.{Frame, Progress, IsNoted, IsSearch}
use Rattle.sok_search.specs.Steps.{IsAdded, IsListed, Queues, holding}
use Rattle.sok_search.proofs.StatesByIndex.{key-within, noted-at}

-- a state that went last into the table, and is noted, is added
pub added-made : (p : Progress) (frame : Frame) (table : Entries) (q : Progress) (key : Key) (depth index : ℕ) (note : Note) → frame ≡ p.frame
    → GoesLast p.table key depth index table → IsListed (record p { frame = frame; table = table }) index note q → IsAdded p key depth note q
added-made p frame table q key depth index note same last listed =
    let entry : Key × ℕ = (key, depth) in
    record {
      frame = listed.frame ∙ same;
      keys = ap keys_of listed.table ∙ ap keys_of last.more ∙ map-append (λ (one : Key × ℕ). one.0) p.table (entry ∷ []);
      depths = ap values_of listed.table ∙ ap values_of last.more ∙ map-append (λ (one : Key × ℕ). one.1) p.table (entry ∷ []);
      notes = listed.notes;
      queue = subst (λ i. Queues note.standing i p.queue q.queue) last.last listed.queue;
      best = listed.best;
    }

-- the first state is new
pub first-last : (old new : Entries) (key : Key) (depth index : ℕ) (is_new : Bool) → old ≡ [] → Enters old key depth index is_new new
    → GoesLast [] key depth index new
first-last old new key depth index true none last = subst (λ es. GoesLast es key depth index new) none last
first-last old new key depth index false none stays = absurd (none-some key (subst (λ es. IsAt es key index) none stays.there))

-- the state that was taken
pub record IsTaken (b : BoardView) (p : Progress) (index : ℕ) (key : Key) (depth : ℕ) : Type 0 where
  pub note : Note
  pub note_is : slice_get p.notes index ≡ Some note
  pub noted : IsNoted b (holding index p) index key depth note

pub taken : (b : BoardView) (limit index : ℕ) (p : Progress) (key : Key) (depth : ℕ) → IsSearch b limit (holding index p) → IsAt p.table key index
    → slice_get (values_of p.table) index ≡ Some depth → IsTaken b p index key depth
taken b limit index p key depth search there depth_is =
    let (note, note_is, noted) = noted-at b limit (holding index p) search index key depth there depth_is in
    record { note = note; note_is = note_is; noted = noted }

pub taken-key : (b : BoardView) (limit index : ℕ) (p : Progress) (key : Key) (depth : ℕ) → IsSearch b limit (holding index p) → IsAt p.table key index
    → slice_get (values_of p.table) index ≡ Some depth → IsKey b key
taken-key b limit index p key depth search there depth_is = (taken b limit index p key depth search there depth_is).noted.state

-- where a key stands, a note stands
pub note-within : (b : BoardView) (limit index : ℕ) (p : Progress) → IsSearch b limit (holding index p) → (at : ℕ) (key : Key) → IsAt p.table key at
    → at < length p.notes
note-within b limit index p search at key there =
    let within = key-within p at key there in
    let notes = search.a_note_each in
    omega (arith, within, notes)

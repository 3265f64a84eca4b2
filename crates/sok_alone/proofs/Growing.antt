-- What stays where states come behind those that were known.
use Rattle.std.proofs.Common.{ℕ, ◌≡◌, ◌≤◌, ◌<◌, ◌∙◌, ◌++◌, [], ap, sym, Bool, Some, arith, length, map, slice_get}
use Rattle.std.specs.Map.{keys_of, values_of}
use Rattle.std.proofs.lemmas.List.{append_assoc, append-nil, length-append, length-map, map-append}
use Rattle.sok_board.specs.Area.{BoardView}
use Rattle.sok_board.proofs.Lists.{slice_get-append}
use Rattle.sok_state.specs.declared.key.Key.{Key}
use Rattle.sok_state.specs.declared.push.Push.{Push}
use Rattle.sok_state.specs.Tables.{Entries, IsAt}
use Rattle.sok_closed.specs.Lookup.{AreFollowed, IsFound, IsMarked}
use Rattle.sok_closed.proofs.Looking.{slice_get-front}
use Rattle.sok_entry.specs.declared.entry.Inner.{Inner}
use Rattle.sok_bar.specs.Patterns.{is_expanded}
use Rattle.sok_alone.specs.declared.known.Known.{Known}
use Rattle.sok_alone.specs.Known.{roll_of}
use Rattle.sok_alone.specs.Meeting.{Grows}

-- the keys and the depths of a longer table
keys-append : (front more : Entries) → keys_of (front ++ more) ≡ keys_of front ++ keys_of more
keys-append front more = map-append (λ (one : Key × ℕ). one.0) front more

depths-append : (front more : Entries) → values_of (front ++ more) ≡ values_of front ++ values_of more
depths-append front more = map-append (λ (one : Key × ℕ). one.1) front more

pub Grows-refl : (known : Known) → Grows known known
Grows-refl known = record { entries = []; entries_are = sym (append-nil known.table.entries); inner = []; inner_are = sym (append-nil known.inner.items) }

pub Grows-trans : (old known new : Known) → Grows old known → Grows known new → Grows old new
Grows-trans old known new first second = record {
  entries = first.entries ++ second.entries;
  entries_are = second.entries_are ∙ ap (λ front. front ++ second.entries) first.entries_are ∙ append_assoc old.table.entries first.entries second.entries;
  inner = first.inner ++ second.inner;
  inner_are = second.inner_are ∙ ap (λ front. front ++ second.inner) first.inner_are ∙ append_assoc old.inner.items first.inner second.inner;
}

module _ (old new : Known) (grows : Grows old new) where
  pub at-grows : (key : Key) (place : ℕ) → IsAt old.table.entries key place → IsAt new.table.entries key place
  at-grows key place there =
      ap (λ entries. slice_get (keys_of entries) place) grows.entries_are
      ∙ ap (λ keys. slice_get keys place) (keys-append old.table.entries grows.entries)
      ∙ slice_get-append (keys_of old.table.entries) (keys_of grows.entries) place key there

  pub depth-grows : (place depth : ℕ) → slice_get (values_of old.table.entries) place ≡ Some depth → slice_get (values_of new.table.entries) place ≡ Some depth
  depth-grows place depth there =
      ap (λ entries. slice_get (values_of entries) place) grows.entries_are
      ∙ ap (λ depths. slice_get depths place) (depths-append old.table.entries grows.entries)
      ∙ slice_get-append (values_of old.table.entries) (values_of grows.entries) place depth there

  pub found-grows : (b : BoardView) (key : Key) (depth : ℕ) (push : Push) → IsFound b old.table.entries key depth push
      → IsFound b new.table.entries key depth push
  found-grows b key depth push found = record {
    next = found.next;
    is = found.is;
    index = found.index;
    there = at-grows found.next found.index found.there;
    deep = found.deep;
    depth_is = depth-grows found.index found.deep found.depth_is;
    near = found.near;
  }

  pub longer : length old.inner.items ≤ length new.inner.items
  longer =
      let more = length-append old.inner.items grows.inner in
      omega (arith, ap length grows.inner_are, more)

  -- what stands before the end of the old states
  module _ (i : ℕ) (within_entries : i < length old.table.entries) (within_inner : i < length old.inner.items) where
    at-before : (key : Key) → IsAt new.table.entries key i → IsAt old.table.entries key i
    at-before key there =
        let count = length-map old.table.entries (λ (one : Key × ℕ). one.0) in
        let longer_there : slice_get (keys_of old.table.entries ++ keys_of grows.entries) i ≡ Some key =
        sym (ap (λ entries. slice_get (keys_of entries) i) grows.entries_are ∙ ap (λ keys. slice_get keys i) (keys-append old.table.entries grows.entries)) ∙ there in
        slice_get-front (keys_of old.table.entries) (keys_of grows.entries) i key (omega (arith, within_entries, count)) longer_there

    depth-before : (depth : ℕ) → slice_get (values_of new.table.entries) i ≡ Some depth → slice_get (values_of old.table.entries) i ≡ Some depth
    depth-before depth there =
        let count = length-map old.table.entries (λ (one : Key × ℕ). one.1) in
        let longer_there : slice_get (values_of old.table.entries ++ values_of grows.entries) i ≡ Some depth =
        sym (ap (λ entries. slice_get (values_of entries) i) grows.entries_are ∙ ap (λ depths. slice_get depths i) (depths-append old.table.entries grows.entries))
        ∙ there in
        slice_get-front (values_of old.table.entries) (values_of grows.entries) i depth (omega (arith, within_entries, count)) longer_there

    mark-before : (mark : Bool) → slice_get (roll_of new).marks i ≡ Some mark → slice_get (roll_of old).marks i ≡ Some mark
    mark-before mark there =
        let expanded : Inner → Bool = λ one. is_expanded one.reason in
        let count = length-map old.inner.items expanded in
        let longer_there : slice_get (map expanded old.inner.items ++ map expanded grows.inner) i ≡ Some mark =
        sym (ap (λ inner. slice_get (map expanded inner) i) grows.inner_are ∙ ap (λ marks. slice_get marks i) (map-append expanded old.inner.items grows.inner))
        ∙ there in
        slice_get-front (map expanded old.inner.items) (map expanded grows.inner) i mark (omega (arith, within_inner, count)) longer_there

    marked-before : (key : Key) (depth : ℕ) → IsMarked (roll_of new) i key depth → IsMarked (roll_of old) i key depth
    marked-before key depth marked = record {
      expanded = mark-before _ marked.expanded;
      there = at-before key marked.there;
      depth_is = depth-before depth marked.depth_is;
    }

  pub followed-grows : (b : BoardView) (n : ℕ) → n ≤ length old.table.entries → n ≤ length old.inner.items → AreFollowed b (roll_of old) n
      → AreFollowed b (roll_of new) n
  followed-grows b n within_entries within_inner followed i key depth below marked push legal =
      found-grows b key depth push
      (followed i key depth below (marked-before i (omega (arith, below, within_entries)) (omega (arith, below, within_inner)) key depth marked) push legal)

-- A state is added behind those that are known.
use Rattle.std.proofs.Common.{ℕ, ◌≡◌, ◌<◌, ◌≤◌, ◌∙◌, ◌++◌, ◌∷◌, [], refl, ap, sym, subst, Bool, All, Contains, arith, length, map, slice_get}
use Rattle.std.specs.Map.{keys_of}
use Rattle.std.proofs.lemmas.List.{length_push, length-map, map-append}
use Rattle.std.proofs.lemmas.List.Elements.{All-push}
use Rattle.sok_board.specs.Area.{BoardView, IsAccepted}
use Rattle.sok_board.specs.Limits.{box_limit}
use Rattle.sok_board.proofs.Lists.{slice_get-push}
use Rattle.sok_state.specs.declared.key.Key.{Key}
use Rattle.sok_state.proofs.States.{key-of-itself}
use Rattle.sok_closed.specs.declared.placing.Located.{Located}
use Rattle.sok_closed.specs.Fine.{AreEntered}
use Rattle.sok_closed.specs.Placing.{IsLocated}
use Rattle.sok_closed.proofs.Fine.{AreEntered-more, IsOfBoard-more}
use Rattle.sok_entry.specs.declared.entry.Inner.{Inner}
use Rattle.sok_entry.specs.declared.entry.InnerReason.{InnerReason}
use Rattle.sok_bar.specs.Patterns.{IsBarredAlone, inner_node, is_expanded}
use Rattle.sok_alone.specs.declared.known.Known.{Known}
use Rattle.sok_alone.specs.Judging.{MayStand}
use Rattle.sok_alone.specs.Known.{IsCome, IsKnown, IsReached, inner_at, roll_of}
use Rattle.sok_alone.specs.Meeting.{IsMet}

-- a state as it would be located
located-at : (b : BoardView) → IsAccepted b → (start key : Key) (reason : InnerReason) → IsReached b start key
    → IsLocated b (length start.boxes) (inner_node (inner_at key reason)) (record { boxes = key.boxes; key = key })
located-at b accepted start key reason reached = record {
  position = record { placed = reached.state.is.placed; as_many = reached.as_many };
  boxes_are = refl;
  key_is = key-of-itself b accepted key reached.state;
}

module _ (b : BoardView) (accepted : IsAccepted b) (start : Key) (few_boxes : length start.boxes ≤ box_limit) (limit : ℕ) (old new : Known)
    (known : IsKnown b start limit old) (key : Key) (reason : InnerReason) (reached : IsReached b start key)
    (absent : Contains (keys_of old.table.entries) key → ⊥) (stands : MayStand b key reason) (room : length old.inner.items < limit)
    (entries_are : new.table.entries ≡ old.table.entries ++ (key, 0) ∷ []) (inner_are : new.inner.items ≡ old.inner.items ++ inner_at key reason ∷ [])
    (room_is : new.table.room ≡ old.table.room) where
  one : Inner
  one = inner_at key reason

  found : Located
  found = record { boxes = key.boxes; key = key }

  marks-are : (roll_of new).marks ≡ (roll_of old).marks ++ is_expanded reason ∷ []
  marks-are =
      let expanded : Inner → Bool = λ (other : Inner). is_expanded other.reason in
      ap (map expanded) inner_are ∙ map-append expanded old.inner.items (inner_at key reason ∷ [])

  entered-more : AreEntered inner_node b (length start.boxes) (IsBarredAlone b) (old.inner.items ++ inner_at key reason ∷ []) (roll_of new)
  entered-more =
      AreEntered-more inner_node b (length start.boxes) (IsBarredAlone b) old.inner.items (roll_of old) accepted known.entered (inner_at key reason)
      (record { boxes = key.boxes; key = key }) (located-at b accepted start key reason reached) absent (roll_of new) stands.reasoned entries_are marks-are

  known-more : IsKnown b start limit new
  known-more = record {
    entered = subst (λ inner. AreEntered inner_node b (length start.boxes) (IsBarredAlone b) inner (roll_of new)) (sym inner_are) entered-more;
    of_board = IsOfBoard-more b accepted (length start.boxes) few_boxes (roll_of old) (roll_of new) (inner_node (inner_at key reason))
        (record { boxes = key.boxes; key = key }) (located-at b accepted start key reason reached) known.of_board entries_are room_is;
    come = subst (All (IsCome b start)) (sym inner_are) (All-push (IsCome b start) old.inner.items (inner_at key reason) known.come
        (record { first = refl; reached = reached.reached; fits = stands.fits }));
    few =
        let count = length_push old.inner.items (inner_at key reason) in
        omega (arith, ap length inner_are, count, room);
  }

  -- then it is known
  pub met-more : IsMet b start limit old key new
  met-more = record {
    known = known-more;
    grows = record { entries = (key, 0) ∷ []; entries_are = entries_are; inner = inner_at key reason ∷ []; inner_are = inner_are };
    place = length old.table.entries;
    there =
        let place = length old.table.entries in
        let count = length-map old.table.entries (λ (pair : Key × ℕ). pair.0) in
        ap (λ entries. slice_get (keys_of entries) place) entries_are
        ∙ ap (λ keys. slice_get keys place) (map-append (λ (pair : Key × ℕ). pair.0) old.table.entries ((key, 0) ∷ []))
        ∙ ap (slice_get (keys_of old.table.entries ++ key ∷ [])) (sym count) ∙ slice_get-push (keys_of old.table.entries) key;
  }

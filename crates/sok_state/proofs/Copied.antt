-- A table that is copied, entry by entry.
use Rattle.std.proofs.Common.{ℕ, ◌≡◌, ◌<◌, ◌+◌, ◌++◌, ◌∷◌, [], ◌∙◌, refl, sym, ap, subst, arith, List, Bool, true, false, zero, suc, Some, take, slice_get}
use Rattle.std.specs.Map.{keys_of, values_of}
use Rattle.std.proofs.lemmas.List.{get_or-take, length-take, take_more}
use Rattle.std.proofs.lemmas.Option.{slice_get_within, get_or_from_slice_get, same_Some}
use Rattle.sok_state.specs.declared.key.Key.{Key}
use Rattle.sok_state.specs.Tables.{Enters, Entries, HasDistinctKeys, IsAt}

-- an entry is its key and its depth
entry_at : (entries : Entries) (i : ℕ) (key : Key) (depth : ℕ) → IsAt entries key i → slice_get (values_of entries) i ≡ Some depth
    → slice_get entries i ≡ Some (key, depth)
entry_at [] i key depth at deep =
    let none : List Key = [] in
    absurd (let within = slice_get_within none i key at in omega (arith, within))
entry_at (entry ∷ entries) zero key depth at deep =
    let one = same_Some entry.0 key at in
    let two = same_Some entry.1 depth deep in
    λ j. Some (one j, two j)
entry_at (entry ∷ entries) (suc i) key depth at deep = entry_at entries i key depth at deep

keys_of-take : (n : ℕ) (entries : Entries) → keys_of (take n entries) ≡ take n (keys_of entries)
keys_of-take zero entries = refl
keys_of-take (suc n) [] = refl
keys_of-take (suc n) (entry ∷ entries) = ap (λ keys. entry.0 ∷ keys) (keys_of-take n entries)

-- the entries before an index, and the one there, which is entered
pub copies : (whole done new : Entries) (index : ℕ) (key : Key) (depth at : ℕ) (is_new : Bool) → HasDistinctKeys whole → done ≡ take index whole
    → IsAt whole key index → slice_get (values_of whole) index ≡ Some depth → Enters done key depth at is_new new → new ≡ take (index + 1) whole
copies whole done new index key depth at true distinct so_far here deep enters =
    let entry = entry_at whole index key depth here deep in
    enters.more ∙ ap (λ (es : Entries). es ++ (key, depth) ∷ []) so_far
    ∙ ap (λ e. take index whole ++ e ∷ []) (sym (get_or_from_slice_get whole index (key, depth) (key, depth) entry))
    ∙ sym (take_more whole index (key, depth) (slice_get_within whole index (key, depth) entry))
copies whole done new index key depth at false distinct so_far here deep enters =
    let before : slice_get (take index (keys_of whole)) at ≡ Some key =
    subst (λ keys. slice_get keys at ≡ Some key) (ap keys_of so_far ∙ keys_of-take index whole) enters.there in
    let within = slice_get_within (take index (keys_of whole)) at key before in
    let long = length-take index (keys_of whole) in
    let inside = slice_get_within (keys_of whole) index key here in
    let below : at < index = omega (arith, within, long) in
    let earlier = sym (get_or-take index (keys_of whole) at key below) ∙ get_or_from_slice_get (take index (keys_of whole)) at key key before in
    absurd (distinct at index key below inside (earlier ∙ sym (get_or_from_slice_get (keys_of whole) index key key here)))

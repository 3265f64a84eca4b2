-- The numbers of states that were checked.
use Rattle.std.proofs.Common.{ℕ, ◌≡◌, ◌≤◌, ◌-◌, ◌∙◌, inl, inr, refl, ap, subst, List, [], ◌∷◌, ◌++◌, Bool, true, false, Option, None, Some, SomeIff, IfNone, IfSome, arith, slice_get}
use Rattle.std.specs.Map.{keys_of, values_of}
use Rattle.std.proofs.lemmas.List.{length-map, map-append}
use Rattle.std.proofs.lemmas.Option.{slice_get_within}
use Rattle.sok_board.specs.Area.{BoardView}
use Rattle.sok_board.proofs.Lists.{slice_get-push_cases}
use Rattle.sok_state.specs.declared.key.Key.{Key}
use Rattle.sok_state.specs.Keys.{key_position}
use Rattle.sok_state.specs.Tables.{Entries, Enters, IsAt, Tabled}
use Rattle.sok_alone.specs.declared.losses.Loss.{Loss}
use Rattle.sok_alone.specs.GivenUp.{AreGivenUp, IsGivenUp}
use Rattle.sok_alone.specs.Losses.{AreNumbered, HasKeyAt, IsNumbered, KeepsPlaces, loss_limit}

-- the states of depth 0 are given up
pub lives-numbered : (b : BoardView) (losses : List Loss) (asked : Tabled) → AreNumbered b losses asked → AreGivenUp b asked loss_limit
lives-numbered b losses asked numbered = record {
  each = λ key live. (numbered.each live.index key 0 live.there live.zero_deep).given_up refl;
}

-- a number stays, where losses keep their places
numbered-kept : (b : BoardView) (old new : List Loss) (key : Key) (number : ℕ) → KeepsPlaces old new → IsNumbered b old key number → IsNumbered b new key number
numbered-kept b old new key number kept is = record {
  given_up = is.given_up;
  lost = λ place more. let at = is.lost place more in record { loss = at.loss; there = kept place at.loss at.there; same = at.same };
}

pub are-numbered-kept : (b : BoardView) (old new : List Loss) (asked : Tabled) → KeepsPlaces old new → AreNumbered b old asked → AreNumbered b new asked
are-numbered-kept b old new asked kept numbered = record {
  each = λ index key number there deep. numbered-kept b old new key number kept (numbered.each index key number there deep);
}

-- and one more is known of a state that is inserted
module _ (b : BoardView) (losses : List Loss) (old new : Tabled) (key : Key) (number : ℕ) (is : IsNumbered b losses key number)
    (numbered : AreNumbered b losses old) where
  numbered-push : new.entries ≡ old.entries ++ (key, number) ∷ [] → AreNumbered b losses new
  numbered-push more = record {
    each = λ index other depth there deep.
        let keys_are : keys_of new.entries ≡ keys_of old.entries ++ key ∷ [] =
        ap (λ (entries : Entries). keys_of entries) more ∙ map-append (λ (one : Key × ℕ). one.0) old.entries ((key, number) ∷ []) in
        let depths_are : values_of new.entries ≡ values_of old.entries ++ number ∷ [] =
        ap (λ (entries : Entries). values_of entries) more ∙ map-append (λ (one : Key × ℕ). one.1) old.entries ((key, number) ∷ []) in
        let keys = length-map old.entries (λ (one : Key × ℕ). one.0) in
        let depths = length-map old.entries (λ (one : Key × ℕ). one.1) in
        elim (slice_get-push_cases (keys_of old.entries) key index other (subst (λ (list : List Key). slice_get list index ≡ Some other) keys_are there)) [
          | inl before ↦ elim (slice_get-push_cases (values_of old.entries) number index depth
              (subst (λ (list : List ℕ). slice_get list index ≡ Some depth) depths_are deep)) [
                | inl deep_before ↦ numbered.each index other depth before deep_before
                | inr (last, _) ↦
                    let within = slice_get_within (keys_of old.entries) index other before in
                    absurd (omega (arith, last, within, keys, depths))
              ]
          | inr (last, same) ↦ elim (slice_get-push_cases (values_of old.entries) number index depth
              (subst (λ (list : List ℕ). slice_get list index ≡ Some depth) depths_are deep)) [
                | inl deep_before ↦
                    let within = slice_get_within (values_of old.entries) index depth deep_before in
                    absurd (omega (arith, last, within, keys, depths))
                | inr (_, depth_is) ↦ subst (IsNumbered b losses other) depth_is (subst (λ (k : Key). IsNumbered b losses k number) same is)
              ]
        ];
  }

  pub numbered-more : (index : ℕ) (is_new : Bool) → Enters old.entries key number index is_new new.entries → AreNumbered b losses new
  numbered-more index true last = numbered-push last.more
  numbered-more index false stays = record {
    each = λ place other depth there deep. numbered.each place other depth
        (subst (λ (entries : Entries). IsAt entries other place) stays.unchanged there)
        (subst (λ (entries : Entries). slice_get (values_of entries) place ≡ Some depth) stays.unchanged deep);
  }

-- a state without a loss
pub numbered-zero : (b : BoardView) (losses : List Loss) (key : Key) → IsGivenUp b.rows (key_position b key) loss_limit → IsNumbered b losses key 0
numbered-zero b losses key given_up = record { given_up = λ _. given_up; lost = λ place more. absurd (omega (arith, more)) }

-- what a number tells
module _ (b : BoardView) (losses : List Loss) (key : Key) (number : ℕ) (is : IsNumbered b losses key number) where
  pub place-numbered : (found : Option ℕ) → SomeIff found (1 ≤ number) (number - 1) → IfSome found (λ place. HasKeyAt losses place key)
  place-numbered None told = tt
  place-numbered (Some place) told = is.lost place (omega (arith, told.0, told.1))

  pub none-numbered : (Q : Type 0) (found : Option ℕ) → SomeIff found (1 ≤ number) (number - 1)
      → IfNone found (Q → IsGivenUp b.rows (key_position b key) loss_limit)
  none-numbered Q None told = λ _. is.given_up (omega (arith, told))
  none-numbered Q (Some place) told = tt

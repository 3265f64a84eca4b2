-- A push after which boxes of a fence are jammed leads to no solution.
use Rattle.std.proofs.Common.{ℕ, ◌≡◌, ◌<◌, ◌⊎◌, inl, inr, List, Contains, arith, length, get_or}
use Rattle.std.proofs.lemmas.List.Elements.{All-contains, All-contains_itself}
use Rattle.sok_rules.specs.Play.{NeverFrom}
use Rattle.sok_rules.proofs.Walking.{Same-refl}
use Rattle.sok_board.specs.Area.{BoardView, IsAccepted, position_of}
use Rattle.sok_board.specs.BoxSets.{put_in_order}
use Rattle.sok_board.proofs.Moves.{IsBoxList-put, IsMoved-put}
use Rattle.sok_region.specs.Regions.{IsPlaced}
use Rattle.sok_state.specs.declared.key.Key.{Key}
use Rattle.sok_state.proofs.Stepped.{gone}
use Rattle.sok_bar.specs.declared.rest.Rest.TheVariants.{Never}
use Rattle.sok_corral.specs.Fences.{NeverAfter, StaysAt}
use Rattle.sok_bar.specs.Jam.{HasJamWith}
use Rattle.sok_corral.proofs.Fences.{NeverAfter-alone}
use Rattle.sok_bar.proofs.Jams.{jams-bar}
use Rattle.sok_corral.specs.declared.lone.Lone.{Lone}
use Rattle.sok_corral.specs.Fencing.{IsLone}

module _ (b : BoardView) (accepted : IsAccepted b) (key : Key) (lone : Lone) (is : IsLone b key lone) (from to : ℕ) (there : Contains lone.boxes.items from)
    (to_within : to < length b.area) (free : Contains lone.boxes.items to → ⊥) where
  abbrev boxes : List ℕ
  boxes = lone.boxes.items

  abbrev after : List ℕ
  after = put_in_order from to boxes

  from_within : from < length b.area
  from_within = All-contains (λ n. n < length b.area) boxes from is.placed.boxes_exist there

  after-among : (n : ℕ) → Contains after n → (n ≡ to) ⊎ ((n ≡ from → ⊥) × StaysAt b key.least key.boxes boxes n)
  after-among n has = elim ((IsMoved-put from to boxes n).0 has) [
    | inl come ↦ inl come
    | inr (among, other) ↦ inr (other, record { box = is.among n among; kept = inl among })
  ]

  after-exists : (n : ℕ) → Contains after n → n < length b.area
  after-exists n has = elim ((IsMoved-put from to boxes n).0 has) [
    | inl come ↦ omega (arith, come, to_within)
    | inr (among, other) ↦ All-contains (λ k. k < length b.area) boxes n is.placed.boxes_exist among
  ]

  placed-after : IsPlaced b after from
  placed-after = record {
    rising = (IsBoxList-put from to boxes is.placed.rising is.few there free).0.rising;
    boxes_exist = λ k d within. after-exists (get_or after k d) (All-contains_itself after k d within);
    player_exists = from_within;
    free = gone boxes after from to there free (IsMoved-put from to boxes);
  }

  pub NeverAfter-jammed : HasJamWith b after to → (man : ℕ) → NeverAfter b key.least key.boxes boxes man from to
  NeverAfter-jammed (members, jam, _) man =
      let never : NeverFrom b.rows (position_of b from after) =
      (jams-bar b accepted from after members Never placed-after jam).each (position_of b from after) (Same-refl b.rows (position_of b from after)) in
      NeverAfter-alone b accepted key.least key.boxes boxes is.state.is.placed man from to from_within after after-among never

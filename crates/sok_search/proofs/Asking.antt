-- Lifts and losses are asked of a new state: what is found lost is left out, or kept as lost. And how a new state stands.
use Rattle.std.proofs.Common.{ℕ, ◌≡◌, sym, subst, Bool, List, Option, None, Some, IfSome, true, true≢false}
use Rattle.std.specs.Option.{is_some}
use Rattle.sok_rules.specs.Play.{Position}
use Rattle.sok_rules.specs.States.{Same}
use Rattle.sok_rules.proofs.Walking.{Same-refl}
use Rattle.sok_board.specs.Area.{BoardView, IsAccepted, beside, position_of}
use Rattle.sok_board.specs.BoxSets.{put_in_order}
use Rattle.sok_board.proofs.Moves.{IsMoved-put}
use Rattle.sok_region.specs.Regions.{IsPlaced}
use Rattle.sok_state.specs.declared.key.Key.{Key}
use Rattle.sok_state.specs.declared.push.Push.{Push}
use Rattle.sok_state.specs.declared.scene.Scene.{Scene}
use Rattle.sok_state.specs.Keys.{key_position}
use Rattle.sok_state.proofs.LegalPushes.{LeadsTo-position, clear-legal, clear_ahead}
use Rattle.sok_alone.specs.declared.losses.Loss.{Loss}
use Rattle.sok_alone.specs.Losses.{IsLostBy}
use Rattle.sok_alone.proofs.Losing.{lost-never, lost-walked}
use Rattle.sok_lift.specs.Numbers.{AreLifts, LiftTable}
use Rattle.sok_lift.specs.Pairs.{HasLostPair}
use Rattle.sok_lift.proofs.Losing as lift
use Rattle.sok_search.specs.declared.note.Standing.{Standing}
use Rattle.sok_search.specs.Searches.{LeadsNowhere}
use Rattle.sok_search.specs.Steps.{IsBoundedAs, IsPriced, IsRaised}
use Rattle.sok_search.proofs.Bounding.{bounded-raised, bounded-walked, placed-apart}
use Rattle.sok_state.specs.Pushes.{IsPushable}
use Rattle.sok_search.proofs.LeavingOut.{lost-nowhere}
use Rattle.sok_state.proofs.Stepped.{ComesNext, next-made, next_of, placed-after}

module _ (b : BoardView) (accepted : IsAccepted b) (key : Key) (push : Push) (to : ℕ) (scene : Scene) (can : IsPushable b push scene key)
    (ahead : beside b push.from push.dir ≡ Some to) where
  abbrev after : List ℕ
  after = put_in_order push.from to key.boxes

  -- the boxes after the push, and the player on the square that was left
  placed : IsPlaced b after push.from
  placed = placed-after b accepted key push to after can.state can.legal ahead (IsMoved-put push.from to key.boxes)
      (next-made b accepted key push to push.from scene can ahead).0.rising

  -- where two of them are lost, nothing solves
  lost-left_out : (losses : List Loss) (place : ℕ) → IsLostBy b push.from after losses place → LeadsNowhere b key push
  lost-left_out losses place lost =
      lost-nowhere b accepted key can.state push to ahead (lost-never b push.from after losses place lost accepted placed)

  pub lost-found : (losses : List Loss) (found : Option ℕ) → is_some found ≡ true → IfSome found (IsLostBy b push.from after losses)
      → LeadsNowhere b key push
  lost-found losses None none lost = absurd (true≢false (sym none))
  lost-found losses (Some place) some lost = lost-left_out losses place lost

  -- so it is where the lifts say so
  pub lost-by_lift : (t : LiftTable) → AreLifts b t → HasLostPair t push.from key.boxes push.from to → LeadsNowhere b key push
  lost-by_lift t lifts pair =
      let (_, clear) = clear-legal b accepted.numbered key can.state.is.placed push can.legal in
      let position = position_of b push.from after in
      lost-nowhere b accepted key can.state push to ahead (lift.lost-never b accepted.numbered t lifts push.from key.boxes after push.from to
      (IsMoved-put push.from to key.boxes) (clear_ahead b key push clear to ahead) (placed-apart b after push.from placed) placed.free pair position
      (Same-refl b.rows position))

  -- what is right of the state after the push, with the player on the square that was left, is right from the least square to which he can walk
  pub bounded-next : (least : ℕ) → ComesNext b key push to least → (whole : Bool) (losses : List Loss) (s : Standing)
      → IsBoundedAs b whole losses push.from after s → IsBoundedAs b whole losses least after s
  bounded-next least comes whole losses s bounded =
      let leads = can.legal.leads in
      let stands = LeadsTo-position b accepted.numbered key push to after can.legal.after can.state.is.placed ahead (IsMoved-put push.from to key.boxes) leads in
      let same = subst (λ (x : Position). Same b.rows x (key_position b (next_of key push.from to least))) (sym stands)
      (comes.came.exact can.legal.after leads).same in
      bounded-walked b push.from least after same whole losses (λ place. lost-walked b accepted push.from least after losses place placed same) s bounded

  -- so is the standing of a state whose bound was raised
  pub raised-next : (least : ℕ) → ComesNext b key push to least → (t : LiftTable) → AreLifts b t → (whole : Bool) (losses : List Loss) (old new : Standing)
      → IsPriced b losses push.from after old → IsRaised t whole push.from after old new → IsBoundedAs b whole losses least after new
  raised-next least comes t lifts whole losses old new priced raised =
      bounded-next least comes whole losses new (bounded-raised b accepted push.from after placed t lifts whole losses old new priced raised)

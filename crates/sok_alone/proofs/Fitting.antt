-- Positions whose numbers are small enough, and why they may stand.
use Rattle.std.proofs.Common.{ℕ, ◌≤◌, ◌<◌, sym, subst, List, ◌∷◌, All, MatchBool, arith, length}
use Rattle.std.proofs.lemmas.List.Elements.{All-append, All-cons, All-nil, All-weaker}
use Rattle.sok_rules.specs.Play.{AllOnGoals}
use Rattle.sok_board.specs.Area.{BoardView, IsAccepted}
use Rattle.sok_board.specs.Limits.{square_limit}
use Rattle.sok_region.specs.Regions.{IsPlaced}
use Rattle.sok_price.specs.Prices.{AreMembers}
use Rattle.sok_entry.specs.Text.{FitsInner, IsSmall, entry_alike, numbers_of_position, numbers_of_reason, reason_alike}
use Rattle.sok_entry.specs.declared.entry.InnerReason.{InnerReason}
use Rattle.sok_entry.specs.declared.entry.InnerReason.TheVariants.{Expanded, Crowd, Frozen}
use Rattle.sok_state.specs.declared.key.Key.{Key}
use Rattle.sok_bar.specs.Patterns.{BarsAlone}
use Rattle.sok_bar.proofs.Rising.{few-rising}
use Rattle.sok_alone.specs.Judging.{IsBarring, MayStand}
use Rattle.sok_state.specs.Keys.{key_position}
use Rattle.sok_alone.specs.Known.{inner_at}

module _ (b : BoardView) (accepted : IsAccepted b) (key : Key) (placed : IsPlaced b key.boxes key.least) where
  -- there are no more boxes than squares
  few : length key.boxes ≤ square_limit
  few =
      let squares = accepted.few_squares in
      let fewer = few-rising key.boxes (length b.area) placed.rising placed.boxes_exist in
      omega (arith, squares, fewer)

  small-position : (reason : InnerReason) → All IsSmall (numbers_of_position (entry_alike (inner_at key reason)))
  small-position reason =
      let squares = accepted.few_squares in
      let player = placed.player_exists in
      let count = few in
      All-cons IsSmall 0 (key.least ∷ length key.boxes ∷ key.boxes) (omega arith)
      (All-cons IsSmall key.least (length key.boxes ∷ key.boxes) (omega (arith, player, squares))
      (All-cons IsSmall (length key.boxes) key.boxes (omega (arith, count))
      (All-weaker (λ n. n < length b.area) IsSmall (λ n exists. omega (arith, exists, squares)) key.boxes placed.boxes_exist)))

  small-members : (members : List ℕ) → AreMembers key.boxes members → All IsSmall (length members ∷ members)
  small-members members listed =
      let count = few in
      let fewer = few-rising members (length key.boxes) listed.rising listed.within in
      All-cons IsSmall (length members) members (omega (arith, count, fewer))
      (All-weaker (λ i. i < length key.boxes) IsSmall (λ i within. omega (arith, within, count)) members listed.within)

  small-reason : (reason : InnerReason) → BarsAlone b key.boxes reason → All IsSmall (numbers_of_reason (reason_alike reason))
  small-reason Expanded bars = All-nil IsSmall
  small-reason (Crowd members) crowd = small-members members crowd.listed
  small-reason (Frozen members) jam = small-members members jam.listed

  fits-alone : (reason : InnerReason) → BarsAlone b key.boxes reason → FitsInner (inner_at key reason)
  fits-alone reason bars = All-append IsSmall (numbers_of_position (entry_alike (inner_at key reason))) (numbers_of_reason (reason_alike reason))
      (small-position reason) (small-reason reason bars)

  -- a state that is barred may stand
  pub stands-barred : (reason : InnerReason) → IsBarring b key.boxes reason → MayStand b key reason
  stands-barred reason barring = record {
    reasoned = subst (λ t. MatchBool t (AllOnGoals b.rows (key_position b key) → ⊥) (BarsAlone b key.boxes reason)) (sym barring.other) barring.bars;
    fits = fits-alone reason barring.bars;
  }

  -- so may one that is to be expanded
  pub stands-expanded : (AllOnGoals b.rows (key_position b key) → ⊥) → MayStand b key Expanded
  stands-expanded unsolved = record { reasoned = unsolved; fits = fits-alone Expanded tt }

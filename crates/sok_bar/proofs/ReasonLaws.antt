-- The law of reasons, reason by reason.
use Rattle.std.proofs.Common.{ℕ, ◌≡◌, arith, List, false, length, true≢false}
use Rattle.std.proofs.lemmas.List.Elements.{All-contains}
use Rattle.sok_rules.specs.Play.{NeverFrom}
use Rattle.sok_rules.proofs.Thinner.{NeverFrom-thinner}
use Rattle.sok_board.specs.Area.{BoardView, IsAccepted, IsArea, position_of}
use Rattle.sok_region.specs.Regions.{IsPlaced}
use Rattle.sok_price.specs.Laws.{ArePlaced}
use Rattle.sok_price.specs.Prices.{Priced, IsCrowd}
use Rattle.sok_price.proofs.CrowdLaws.{Never-IsCrowd}
use Rattle.sok_price.proofs.DualityLaws.{AtLeast-Priced}
use Rattle.sok_price.proofs.States.{stands_same}
use Rattle.sok_state.proofs.Placed.{IsStanding-placed}
use Rattle.sok_closed.specs.Rolls.{IsPosition}
use Rattle.sok_closed.proofs.RollLaws.{roll-agrees}
use Rattle.sok_entry.specs.declared.entry.Inner.{Inner}
use Rattle.sok_entry.specs.declared.entry.InnerReason.{InnerReason}
use Rattle.sok_entry.specs.declared.entry.InnerReason.TheVariants.{Expanded, Crowd, Frozen}
use Rattle.sok_bar.specs.declared.rest.Rest.{Rest}
use Rattle.sok_bar.specs.declared.rest.Rest.TheVariants.{AtLeast, Never}
use Rattle.sok_bar.specs.Bars.{Barring, ReasonsBar}
use Rattle.sok_bar.specs.Patterns.{AreClosedAlone, BarsAlone, IsBarredAlone, IsPattern, inner_node, is_expanded, squares_at}
use Rattle.sok_bar.specs.Rests.{IsBarred}
use Rattle.sok_bar.proofs.Jams.{IsBarred-never, jams-bar}
use Rattle.sok_bar.proofs.Patterns.{IsPlaced-alone, NeverFrom-Same, among-boxes, thinner-among}

ArePlaced-placed : (b : BoardView) (boxes : List ℕ) (player : ℕ) → IsPlaced b boxes player → ArePlaced b player boxes
ArePlaced-placed b boxes player placed = record { player_exists = placed.player_exists; boxes_exist = placed.boxes_exist; rising = placed.rising }

prices-bar : (b : BoardView) → IsArea b.rows b.area → (player : ℕ) (boxes u v : List ℕ) (n : ℕ) → ArePlaced b player boxes → Priced b boxes u v n
    → IsBarred b player boxes (AtLeast n)
prices-bar b area player boxes u v n placed priced = record {
  each =
      λ x same. AtLeast-Priced b area x boxes u v n (stands_same b area player boxes placed x same) priced;
}

crowds-bar : (b : BoardView) → IsArea b.rows b.area → (player : ℕ) (boxes members : List ℕ) (rest : Rest) → ArePlaced b player boxes → IsCrowd b boxes members
    → IsBarred b player boxes rest
crowds-bar b area player boxes members rest placed crowd =
    IsBarred-never b player boxes (λ x same. Never-IsCrowd b area x boxes members (stands_same b area player boxes placed x same) crowd) rest

-- what bars boxes that are alone on the board
alone-bars : (b : BoardView) → IsAccepted b → (player : ℕ) (boxes : List ℕ) (reason : InnerReason) → IsPlaced b boxes player → is_expanded reason ≡ false
    → BarsAlone b boxes reason → IsBarred b player boxes Never
alone-bars b accepted player boxes Expanded placed other bars = absurd (true≢false other)
alone-bars b accepted player boxes (Crowd members) placed other crowd =
    crowds-bar b accepted.numbered player boxes members Never (ArePlaced-placed b boxes player placed) crowd
alone-bars b accepted player boxes (Frozen members) placed other jam = jams-bar b accepted player boxes members Never placed jam

-- positions of them that are closed under pushes
pub NeverFrom-alone : (b : BoardView) → IsAccepted b → (player : ℕ) (boxes : List ℕ) (inner : List Inner) → IsPlaced b boxes player
    → AreClosedAlone b player boxes inner → NeverFrom b.rows (position_of b player boxes)
NeverFrom-alone b accepted player boxes inner placed closed =
    roll-agrees inner_node b (length boxes) (position_of b player boxes) inner closed.rolled (λ _ _. ⊥) (λ depth next more n near agrees. agrees)
    (λ near far n deeper agrees. agrees)
    (λ one listed other x same w solves.
    let position = All-contains (λ e. IsPosition b (length boxes) (inner_node e)) inner one closed.rolled.positions listed in
    let bars = All-contains (λ e. (inner_node e).expanded ≡ false → IsBarredAlone b e) inner one closed.barred listed other in
    (alone-bars b accepted one.player one.boxes one.reason position.placed other bars).each x same w solves)
    (IsStanding-placed b accepted.numbered accepted.proper player boxes placed)

-- members that are never solved alone are never solved among others
patterns-bar : (b : BoardView) → IsAccepted b → (player : ℕ) (boxes members : List ℕ) (inner : List Inner) (rest : Rest) → IsPlaced b boxes player
    → IsPattern b player boxes members inner → IsBarred b player boxes rest
patterns-bar b accepted player boxes members inner rest placed pattern = IsBarred-never b player boxes (λ x same.
    NeverFrom-Same b.rows (position_of b player boxes) x same
    (NeverFrom-thinner b.rows (position_of b player (squares_at boxes members)) (position_of b player boxes)
    (thinner-among b player (squares_at boxes members) boxes (λ n. among-boxes boxes members n pattern.listed))
    (NeverFrom-alone b accepted player (squares_at boxes members) inner (IsPlaced-alone b player boxes members placed pattern.listed) pattern.closed))) rest

-- a case for each reason
pub reasons-bar : (b : BoardView) → IsAccepted b → ReasonsBar b
reasons-bar b accepted player boxes Barring.spent (AtLeast n) placed none = record { each = λ x same w solves. omega (arith, none) }
reasons-bar b accepted player boxes Barring.spent Never placed none = absurd none
reasons-bar b accepted player boxes (Barring.bound u v) (AtLeast n) placed priced =
    prices-bar b accepted.numbered player boxes u v n (ArePlaced-placed b boxes player placed) priced
reasons-bar b accepted player boxes (Barring.bound u v) Never placed none = absurd none
reasons-bar b accepted player boxes (Barring.crowd members) rest placed crowd =
    crowds-bar b accepted.numbered player boxes members rest (ArePlaced-placed b boxes player placed) crowd
reasons-bar b accepted player boxes (Barring.frozen members) rest placed jam = jams-bar b accepted player boxes members rest placed jam
reasons-bar b accepted player boxes (Barring.pattern members inner) rest placed pattern = patterns-bar b accepted player boxes members inner rest placed pattern

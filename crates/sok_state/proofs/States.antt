-- Keys tell states apart.
use Rattle.std.proofs.Common.{◌≡◌, ◌≤◌, sym, ◌∙◌, subst, arith}
use Rattle.sok_rules.specs.Levels.{IsProper}
use Rattle.sok_rules.specs.Play.{Position}
use Rattle.sok_rules.specs.States.{Same}
use Rattle.sok_rules.proofs.Steps.{IsStanding}
use Rattle.sok_rules.proofs.Walking.{Same-trans, Same-sym, boxes-Same}
use Rattle.sok_board.specs.Area.{BoardView, IsAccepted, IsArea, position_of}
use Rattle.sok_state.specs.declared.key.Key.{Key}
use Rattle.sok_state.specs.Keys.{IsKey, IsKeyOf, TellsStates, key_position}
use Rattle.sok_state.proofs.Placed.{IsStanding-placed, same_boxes}

-- positions with equal keys are the same state
pub Same-keys : (b : BoardView) (x y : Position) (key : Key) → IsStanding b.rows y → IsKeyOf b x key → IsKeyOf b y key → Same b.rows x y
Same-keys b x y key standing of_x of_y = Same-trans b.rows x (key_position b key) y of_x.same (Same-sym b.rows y (key_position b key) standing of_y.same)

-- positions of one state have one key
pub keys_equal : (b : BoardView) → IsArea b.rows b.area → (x y : Position) (key other : Key) → IsStanding b.rows x → IsKeyOf b x key → IsKeyOf b y other
    → Same b.rows x y → key ≡ other
keys_equal b area x y key other standing of_x of_y same =
    let there : Same b.rows x (key_position b other) = Same-trans b.rows x y (key_position b other) same of_y.same in
    let lists : key.boxes ≡ other.boxes = same_boxes b area key.least other.least key.boxes other.boxes of_x.placed of_y.placed
    (boxes-Same b.rows x (key_position b key) of_x.same ∙ sym (boxes-Same b.rows x (key_position b other) there)) in
    let below : key.least ≤ other.least = of_x.least other.least of_y.placed.player_exists
    (subst (λ l. Same b.rows x (position_of b other.least l)) (sym lists) there) in
    let back : Same b.rows y x = Same-sym b.rows x y standing same in
    let above : other.least ≤ key.least = of_y.least key.least of_x.placed.player_exists (Same-trans b.rows y x (position_of b key.least other.boxes) back
    (subst (λ l. Same b.rows x (position_of b key.least l)) lists of_x.same)) in
    let number : key.least ≡ other.least = omega (arith, below, above) in
    λ i. record { boxes = lists i; least = number i }

-- the key of a position is that of each position of its state
pub IsKeyOf-Same : (b : BoardView) (x y : Position) (key : Key) → IsStanding b.rows x → Same b.rows x y → IsKeyOf b x key → IsKeyOf b y key
IsKeyOf-Same b x y key standing same of_x =
    let back : Same b.rows y x = Same-sym b.rows x y standing same in
    record {
      placed = of_x.placed;
      same = Same-trans b.rows y x (key_position b key) back of_x.same;
      least = λ s within there. of_x.least s within (Same-trans b.rows x y (position_of b s key.boxes) same there);
    }

-- a key that some position has is that of the position that it stands for
pub key-of-itself : (b : BoardView) → IsAccepted b → (key : Key) → IsKey b key → IsKeyOf b (key_position b key) key
key-of-itself b accepted key state =
    IsKeyOf-Same b (position_of b state.player state.boxes) (key_position b key) key
    (IsStanding-placed b accepted.numbered accepted.proper state.player state.boxes state.placed) state.is.same state.is

pub tells-states : (b : BoardView) → IsArea b.rows b.area → IsProper b.rows → TellsStates b
tells-states b area proper player boxes key placed of_key other_player other_boxes other other_placed of_other = (
  λ same. Same-keys b (position_of b player boxes) (position_of b other_player other_boxes) other
      (IsStanding-placed b area proper other_player other_boxes other_placed)
      (subst (IsKeyOf b (position_of b player boxes)) same of_key) of_other,
  λ same. keys_equal b area (position_of b player boxes) (position_of b other_player other_boxes) key other
      (IsStanding-placed b area proper player boxes placed) of_key of_other same,
)

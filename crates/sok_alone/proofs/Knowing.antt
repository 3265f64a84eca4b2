-- The known states by their places.
use Rattle.std.proofs.Common.{ℕ, ◌≡◌, ◌<◌, ◌∙◌, ap, Some, All, arith, length, slice_get}
use Rattle.std.specs.Map.{keys_of, values_of}
use Rattle.std.proofs.lemmas.List.{length-map}
use Rattle.std.proofs.lemmas.List.Elements.{All-contains}
use Rattle.std.proofs.lemmas.Option.{slice_get_within}
use Rattle.sok_rules.proofs.Reaching.{reached-step, reached-walk}
use Rattle.sok_rules.proofs.Walking.{boxes-Same}
use Rattle.sok_board.specs.Area.{BoardView, IsAccepted}
use Rattle.sok_board.proofs.Lists.{Contains-at}
use Rattle.sok_state.specs.declared.key.Key.{Key}
use Rattle.sok_state.specs.declared.push.Push.{Push}
use Rattle.sok_state.specs.Keys.{IsKey, IsKeyOf, key_position}
use Rattle.sok_state.specs.Pushes.{IsLegal, LeadsTo}
use Rattle.sok_rules.specs.Play.{Position}
use Rattle.sok_state.specs.Tables.{IsAt}
use Rattle.sok_state.proofs.Placed.{same_boxes}
use Rattle.sok_closed.specs.Lookup.{IsEntered}
use Rattle.sok_closed.specs.Rolls.{node_position}
use Rattle.sok_closed.proofs.Looking.{entered-key, entry_at}
use Rattle.sok_entry.specs.declared.entry.Inner.{Inner}
use Rattle.sok_bar.specs.Patterns.{inner_node}
use Rattle.sok_alone.specs.declared.known.Known.{Known}
use Rattle.sok_alone.specs.Known.{IsCome, IsKnown, IsReached}

-- the state that a push leads to is reached
pub reached-next : (b : BoardView) (start key next : Key) (push : Push) → IsReached b start key → IsLegal b key push
    → ((after : Position) → LeadsTo b key push after → IsKeyOf b after next) → IsKey b next → length next.boxes ≡ length key.boxes → IsReached b start next
reached-next b start key next push reached legal is state kept =
    let leads = legal.leads in
    let before = reached-walk b.rows (key_position b start) (key_position b key) leads.before reached.reached leads.same in
    record {
      state = state;
      as_many = kept ∙ reached.as_many;
      reached = reached-walk b.rows (key_position b start) legal.after (key_position b next)
          (reached-step b.rows (key_position b start) leads.before push.dir _ before leads.steps) (is legal.after leads).same;
    }

module _ (b : BoardView) (start : Key) (limit : ℕ) (known : Known) (is : IsKnown b start limit known) where
  -- there are as many positions as keys
  pub as-many : length known.table.entries ≡ length known.inner.items
  as-many = is.entered.rolled.table.count

  -- a position, and its key
  record Stands (i : ℕ) (key : Key) : Type 0 where
    pub one : Inner
    pub there : slice_get known.inner.items i ≡ Some one
    pub within : i < length known.inner.items
    pub come : IsCome b start one
    pub entered : IsEntered b known.table.entries i (inner_node one)
    pub key_is : IsKeyOf b (node_position b (inner_node one)) key

  pub within-at : (i : ℕ) (key : Key) → IsAt known.table.entries key i → i < length known.inner.items
  within-at i key at =
      let keys = length-map known.table.entries (λ (one : Key × ℕ). one.0) in
      let below = slice_get_within (keys_of known.table.entries) i key at in
      let count = as-many in
      omega (arith, keys, below, count)

  stands-at : (i : ℕ) (key : Key) → IsAt known.table.entries key i → Stands i key
  stands-at i key at =
      let within = within-at i key at in
      let (one, there) = entry_at known.inner.items i within in
      let entered = is.entered.rolled.table.entered i one within there in
      record {
        one = one;
        there = there;
        within = within;
        come = All-contains (IsCome b start) known.inner.items one is.come (Contains-at known.inner.items one i there);
        entered = entered;
        key_is = entered-key b known.table.entries i (inner_node one) key entered at;
      }

  -- it is at depth 0
  pub zero-at : (i : ℕ) (key : Key) → IsAt known.table.entries key i → slice_get (values_of known.table.entries) i ≡ Some 0
  zero-at i key at =
      let stands = stands-at i key at in
      stands.entered.depth ∙ ap Some stands.come.first

  -- and is reached
  pub reached-at : IsAccepted b → (i : ℕ) (key : Key) → IsAt known.table.entries key i → IsReached b start key
  reached-at accepted i key at =
      let stands = stands-at i key at in
      let node = inner_node stands.one in
      let position = (is.entered.fine i stands.one stands.within stands.there).position in
      let boxes : key.boxes ≡ node.boxes = same_boxes b accepted.numbered key.least node.player key.boxes node.boxes stands.key_is.placed position.placed
      (boxes-Same b.rows (node_position b node) (key_position b key) stands.key_is.same) in
      record {
        state = (is.of_board.keys i key at).0;
        as_many = ap length boxes ∙ position.as_many;
        reached = reached-walk b.rows (key_position b start) (node_position b node) (key_position b key) stands.come.reached stands.key_is.same;
      }

  -- the boxes of a state stand where the table has room
  pub room-at : (key : Key) → IsReached b start key → All (λ square. square < known.table.room) key.boxes
  room-at key reached k d within =
      let below = reached.state.is.placed.boxes_exist k d within in
      let wide = is.of_board.wide in
      omega (arith, below, wide)

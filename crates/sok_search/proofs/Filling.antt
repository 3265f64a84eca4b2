-- A full table that lacks a state that is reached: there are more states than it may have.
use Rattle.std.proofs.Common.{ℕ, ◌≤◌, ◌+◌, Contains, arith, length}
use Rattle.std.specs.Map.{keys_of}
use Rattle.sok_rules.specs.Play.{Position, start}
use Rattle.sok_rules.specs.States.{MoreStatesThan}
use Rattle.sok_rules.proofs.Reaching.{reached-walk}
use Rattle.sok_board.specs.Area.{BoardView, IsAccepted}
use Rattle.sok_state.specs.declared.key.Key.{Key}
use Rattle.sok_state.specs.declared.push.Push.{Push}
use Rattle.sok_state.specs.Keys.{IsKeyOf, key_position}
use Rattle.sok_state.specs.Pushes.{LeadsTo}
use Rattle.sok_state.specs.Tables.{IsAt}
use Rattle.sok_state.proofs.States.{IsKeyOf-Same, key-of-itself}
use Rattle.sok_closed.proofs.Counting.{IsOfReached, one-more}
use Rattle.sok_closed.proofs.Looking.{standing-after}
use Rattle.sok_search.specs.Searches.{Progress, IsSearch}
use Rattle.sok_search.proofs.StatesByIndex.{known-key}
use Rattle.sok_search.proofs.Chains.{IsReached, reached-more, state-reached}

of-reached : (b : BoardView) (accepted : IsAccepted b) (key : Key) (depth : ℕ) → IsKeyOf b (key_position b key) key → IsReached b key depth
    → IsOfReached b accepted (start b.rows) key
of-reached b accepted key depth itself reached = record {
  itself = itself;
  reached = reached-walk b.rows (start b.rows) reached.to (key_position b key) (reached.letters, reached.leads) reached.is.same;
}

pub full-more : (b : BoardView) → IsAccepted b
    → (limit : ℕ) (p : Progress) (i : ℕ) (key next : Key) (push : Push) (after : Position) → IsSearch b limit p
    → limit ≤ length p.table → IsAt p.table key i → LeadsTo b key push after → IsKeyOf b after next → (Contains (keys_of p.table) next → ⊥)
    → MoreStatesThan b.rows limit
full-more b accepted limit p i key next push after search full there leads is absent =
    let few = search.few in
    let known = known-key b limit p search i key there in
    let come = reached-more b key next known.depth push after (state-reached b limit p search i key known.depth there known.state.depth_is) leads is in
    let itself = IsKeyOf-Same b after (key_position b next) next (standing-after b key push after leads) is.same is in
    one-more b accepted (start b.rows) limit p.table search.distinct (omega (arith, full, few))
    (λ j other at. let one = known-key b limit p search j other at in
    of-reached b accepted other one.depth (key-of-itself b accepted other one.noted.state)
    (state-reached b limit p search j other one.depth at one.state.depth_is))
    next (of-reached b accepted next (known.depth + 1) itself come) absent

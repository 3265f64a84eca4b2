-- From states that are found in the table to entries that follow.
use Rattle.std.proofs.Common.{ℕ, ◌≡◌, ◌<◌, ◌∙◌, ◌↔◌, inl, inr, refl, sym, ap, subst, List, Some, None, true, AllPairs, Contains, arith, length, get_or}
use Rattle.std.proofs.Common.{slice_get, IsTrue}
use Rattle.std.specs.Map.{keys_of}
use Rattle.std.proofs.lemmas.Bool.{cases_eq, cases_lt}
use Rattle.std.proofs.lemmas.Option.{same_Some, slice_get_within, slice_get-get_or, get_or_from_slice_get}
use Rattle.std.proofs.lemmas.List.{length-map}
use Rattle.std.proofs.lemmas.List.Elements.{All-contains}
use Rattle.sok_rules.specs.declared.cell.Dir.{Dir}
use Rattle.sok_rules.specs.Play.{After, Position, step}
use Rattle.sok_rules.specs.States.{Same}
use Rattle.sok_rules.proofs.Steps.{IsStanding}
use Rattle.sok_rules.proofs.Walking.{Same-sym, Same-trans}
use Rattle.sok_board.specs.Area.{BoardView, InArea, IsAccepted, position_of}
use Rattle.sok_board.proofs.AreaLaws.{InArea-spot_of}
use Rattle.sok_board.proofs.Confined.{confines-play}
use Rattle.sok_board.proofs.Lists.{Contains-at}
use Rattle.sok_distance.proofs.Pushes.{pushes-alone}
use Rattle.sok_region.specs.Regions.{IsPlaced}
use Rattle.sok_state.specs.declared.key.Key.{Key}
use Rattle.sok_state.specs.declared.push.Push.{Push}
use Rattle.sok_state.specs.Keys.{IsKeyOf}
use Rattle.sok_state.specs.Pushes.{IsLegal, LeadsTo, Precedes}
use Rattle.sok_state.specs.Tables.{Entries, IsAt}
use Rattle.sok_state.proofs.Order.{Precedes-asym}
use Rattle.sok_state.proofs.States.{IsKeyOf-Same, Same-keys}
use Rattle.sok_closed.specs.Rolls.{IsClosedAt, IsFollowed, IsFollower, IsPosition, Node, node_position}
use Rattle.sok_closed.specs.Lookup.{IsFirstOpen, IsFound, IsLooking, IsMissing, IsOpen, TellsFirst, TellsOpen}
use Rattle.sok_closed.proofs.Looking.{entered-key, node-stands, standing-after}

-- what precedes a listed push is listed before it
pub precedes-before : (pushes : List Push) → AllPairs Precedes pushes → (k j : ℕ) (push other : Push) → slice_get pushes k ≡ Some push
    → slice_get pushes j ≡ Some other → Precedes other push → j < k
precedes-before pushes in_order k j push other here there precedes =
    let here_is = get_or_from_slice_get pushes k push push here in
    let there_is = get_or_from_slice_get pushes j other push there in
    elim (cases_lt j k) [
      | inl below ↦ below
      | inr past ↦ elim (cases_eq j k) [
        | inl same ↦
            let is : other ≡ push = same_Some other push (sym there ∙ ap (slice_get pushes) same ∙ here) in
            absurd (Precedes-asym other push precedes (subst (λ p. Precedes p other) is (subst (Precedes other) (sym is) precedes)))
        | inr apart ↦
            let later : Precedes (get_or pushes k push) (get_or pushes j push) =
            in_order k j push (omega (arith, past, apart)) (slice_get_within pushes j other there) in
            absurd (Precedes-asym other push precedes (subst (λ p. Precedes p other) here_is (subst (Precedes (get_or pushes k push)) there_is later)))
      ]
    ]

pub stands : {E : Type 0} (node : E → Node) (b : BoardView) (count : ℕ) (entries : List E) (table : Entries) → IsLooking node b count entries table → (e : E) → Contains entries e
    → IsStanding b.rows (node_position b (node e))
stands node b count entries table looking e listed =
    node-stands b looking.accepted count (node e) (All-contains (λ one. IsPosition b count (node one)) entries e looking.positions listed)

-- the key at an entry's place is that of its node
pub key-at : {E : Type 0} (node : E → Node) (b : BoardView) (count : ℕ) (entries : List E) (table : Entries) → IsLooking node b count entries table → (i : ℕ) (e : E) (key : Key)
    → slice_get entries i ≡ Some e → IsAt table key i → IsKeyOf b (node_position b (node e)) key
key-at node b count entries table looking i e key there at =
    entered-key b table i (node e) key (looking.entered.entered i e (slice_get_within entries i e there) there) at

-- a push from a position of an entry's state leads on from its key
leads-from : {E : Type 0} (node : E → Node) (b : BoardView) (count : ℕ) (entries : List E) (table : Entries) → IsLooking node b count entries table → (e : E) → Contains entries e → (key : Key)
    → IsKeyOf b (node_position b (node e)) key
    → (x : Position) → Same b.rows (node_position b (node e)) x → Same b.rows (position_of b key.least key.boxes) x
leads-from node b count entries table looking e listed key is x walked =
    let key_place = position_of b key.least key.boxes in
    Same-trans b.rows key_place (node_position b (node e)) x (Same-sym b.rows (node_position b (node e)) key_place (stands node b count entries table looking e listed) is.same) walked

-- a state that is found is an entry's
found-follower : {E : Type 0} (node : E → Node) (b : BoardView) (count : ℕ) (entries : List E) (table : Entries) → IsLooking node b count entries table → (e : E) (key : Key) (push : Push)
    → IsFound b table key (node e).depth push
    → (after : Position) → LeadsTo b key push after → (f : E) × IsFollower node b entries (node e).depth after f
found-follower node b count entries table looking e key push found after leads =
    let listed_keys = length-map table (λ (entry : Key × ℕ). entry.0) in
    let as_many = looking.entered.count in
    let key_within = slice_get_within (keys_of table) found.index found.next found.there in
    let within : found.index < length entries = omega (arith, key_within, listed_keys, as_many) in
    let f = get_or entries found.index e in
    let there : slice_get entries found.index ≡ Some f = slice_get-get_or entries found.index e within in
    let entry = looking.entered.entered found.index f within there in
    let deep : found.deep ≡ (node f).depth = same_Some found.deep (node f).depth (sym found.depth_is ∙ entry.depth) in
    let listed : Contains entries f = Contains-at entries f found.index there in
    let near = found.near in (
      f,
      record {
        listed = listed;
        near = omega (arith, near, deep);
        same = Same-keys b after (node_position b (node f)) found.next (stands node b count entries table looking f listed) (found.is after leads)
            (key-at node b count entries table looking found.index f found.next there found.there);
      },
    )

-- a letter that pushes from a position of a state makes a push of it
pub leads-pushed : (b : BoardView) → IsAccepted b → (key : Key) → IsPlaced b key.boxes key.least → (x : Position) (d : Dir) (after : After)
    → Same b.rows (position_of b key.least key.boxes) x → step b.rows d x ≡ Some after → after.pushed ≡ true
    → (from : ℕ) × LeadsTo b key (record { from = from; dir = d }) after.position
leads-pushed b accepted key placed x d after walked leads pushed =
    let place = position_of b key.least key.boxes in
    let inside : InArea b.rows x.man = (confines-play b.rows place x walked.0
    (InArea-spot_of b accepted.numbered key.least placed.player_exists) walked.1).man in
    let move = pushes-alone b accepted.numbered x d after inside leads pushed in (
      move.from,
      record {
        before = x;
        same = walked;
        steps = leads ∙ (λ i. Some (record { position = after.position; pushed = pushed i }));
        man = move.man;
        exists = move.from_exists;
      },
    )

-- where each legal push is found, the entry is followed
pub IsFollowed-found : {E : Type 0} (node : E → Node) (b : BoardView) (count : ℕ) (entries : List E) (table : Entries) → IsLooking node b count entries table → (e : E) → Contains entries e → (key : Key)
    → IsKeyOf b (node_position b (node e)) key
    → TellsOpen b table key (node e).depth None → IsFollowed node b entries (node e)
IsFollowed-found node b count entries table looking e listed key is found x d after walked leads pushed =
    let (from, on) = leads-pushed b looking.accepted key is.placed x d after (leads-from node b count entries table looking e listed key is x walked) leads pushed in
    let push : Push = record { from = from; dir = d } in
    found-follower node b count entries table looking e key push (found push (record { after = after.position; leads = on })) after.position on

open-leads : {E : Type 0} (node : E → Node) (b : BoardView) (count : ℕ) (entries : List E) (table : Entries) → IsLooking node b count entries table → (e : E) → Contains entries e → (key : Key)
    → IsKeyOf b (node_position b (node e)) key
    → (push : Push) → (open_push : IsOpen node b entries e push) → LeadsTo b key push open_push.after
open-leads node b count entries table looking e listed key is push open_push = record {
  before = open_push.before;
  same = leads-from node b count entries table looking e listed key is open_push.before open_push.walked;
  steps = open_push.steps;
  man = open_push.man;
  exists = open_push.exists;
}

-- a legal push that is found is not open
closed-found : {E : Type 0} (node : E → Node) (b : BoardView) (count : ℕ) (entries : List E) (table : Entries) → IsLooking node b count entries table → (e : E) → Contains entries e → (key : Key)
    → IsKeyOf b (node_position b (node e)) key
    → (push : Push) → (IsLegal b key push → IsFound b table key (node e).depth push) → IsOpen node b entries e push → ⊥
closed-found node b count entries table looking e listed key is push found open_push =
    let on = open-leads node b count entries table looking e listed key is push open_push in
    let (f, follower) = found-follower node b count entries table looking e key push (found (record { after = open_push.after; leads = on })) open_push.after on in
    open_push.unfollowed f follower.listed follower.near follower.same

-- and one that is missing is open
IsOpen-missing : {E : Type 0} (node : E → Node) (b : BoardView) (count : ℕ) (entries : List E) (table : Entries) → IsLooking node b count entries table → (e : E) → Contains entries e → (key : Key)
    → IsKeyOf b (node_position b (node e)) key
    → (push : Push) → IsTrue (node e).expanded → IsLegal b key push → IsMissing b table key (node e).depth push → IsOpen node b entries e push
IsOpen-missing node b count entries table looking e listed key is push expanded legal missing =
    let leads = legal.leads in
    record {
      expanded = expanded;
      exists = leads.exists;
      before = leads.before;
      after = legal.after;
      walked = Same-trans b.rows (node_position b (node e)) (position_of b key.least key.boxes) leads.before is.same leads.same;
      steps = leads.steps;
      man = leads.man;
      unfollowed = λ f f_listed near same.
          let (j, within, at) = f_listed in
          let there : slice_get entries j ≡ Some f = slice_get-get_or entries j f within ∙ ap Some at in
          let entry = looking.entered.entered j f within there in
          let back = Same-sym b.rows legal.after (node_position b (node f)) (standing-after b key push legal.after leads) same in
          missing legal.after entry.key j (node f).depth leads
          (IsKeyOf-Same b (node_position b (node f)) legal.after entry.key (stands node b count entries table looking f f_listed) back entry.is) entry.there entry.depth
          near;
    }

-- a followed entry has no open push
pub followed-closed : {E : Type 0} (node : E → Node) (b : BoardView) (entries : List E) (e : E) (push : Push) → IsClosedAt node b entries e → IsOpen node b entries e push → ⊥
followed-closed node b entries e push followed open_push =
    let (f, follower) = followed open_push.expanded open_push.before push.dir (record {
      position = open_push.after;
      pushed =
          true;
    }) open_push.walked open_push.steps refl in
    open_push.unfollowed f follower.listed follower.near follower.same

-- the first open push of all
pub IsFirstOpen-missing : {E : Type 0} (node : E → Node) (b : BoardView) (count : ℕ) (entries : List E) (table : Entries) → IsLooking node b count entries table → (i : ℕ) (e : E)
    → slice_get entries i ≡ Some e → (key : Key) → IsAt table key i
    → (push : Push) → IsTrue (node e).expanded → TellsOpen b table key (node e).depth (Some push) →
    ((j : ℕ) (f : E) → j < i → slice_get entries j ≡ Some f → IsClosedAt node b entries f) → IsFirstOpen node b entries i push
IsFirstOpen-missing node b count entries table looking i e there key at push expanded ((legal, missing), earlier) before =
    let listed = Contains-at entries e i there in
    let is = key-at node b count entries table looking i e key there at in
    record {
      entry = e;
      there = there;
      is_open = IsOpen-missing node b count entries table looking e listed key is push expanded legal missing;
      earlier_entries = λ j f other below f_there open_push. followed-closed node b entries f other (before j f below f_there) open_push;
      earlier_pushes = λ other precedes open_push. closed-found node b count entries table looking e listed key is other (earlier other precedes) open_push;
    }

-- of a list of the legal pushes, the first that is missing is the first of all
pub TellsOpen-first : (b : BoardView) (table : Entries) (key : Key) (depth : ℕ) (pushes : List Push) (k : ℕ) (push : Push)
    → ((p : Push) → Contains pushes p ↔ IsLegal b key p) → AllPairs Precedes pushes
    → push ≡ get_or pushes k push → TellsFirst b table key depth pushes (Some k) → TellsOpen b table key depth (Some push)
TellsOpen-first b table key depth pushes k push exact in_order here ((first, there, missing), earlier) =
    let is : first ≡ push = sym (get_or_from_slice_get pushes k first push there) ∙ sym here in
    let at : slice_get pushes k ≡ Some push = there ∙ ap Some is in (
      ((exact push).0 (Contains-at pushes push k at), subst (IsMissing b table key depth) is missing),
      λ other precedes legal.
          let (j, within, same) = (exact other).1 legal in
          let other_at : slice_get pushes j ≡ Some other = slice_get-get_or pushes j other within ∙ ap Some same in
          earlier j other (precedes-before pushes in_order k j push other at other_at precedes) other_at,
    )

pub TellsOpen-none : (b : BoardView) (table : Entries) (key : Key) (depth : ℕ) (pushes : List Push) → ((p : Push) → Contains pushes p ↔ IsLegal b key p)
    → TellsFirst b table key depth pushes None → TellsOpen b table key depth None
TellsOpen-none b table key depth pushes exact all = λ push legal.
    let (j, within, same) = (exact push).1 legal in
    all j push (slice_get-get_or pushes j push within ∙ ap Some same)

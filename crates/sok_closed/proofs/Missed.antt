-- From the first push that is missing in a roll to the first one that is open in a list.
use Rattle.std.proofs.Common.{ℕ, ◌≡◌, ◌<◌, ◌+◌, ◌∙◌, ◌↔◌, sym, ap, subst, List, Some, None, true, false, true≢false, All, arith, below_more}
use Rattle.std.proofs.Common.{length, get_or, slice_get}
use Rattle.std.specs.Map.{values_of}
use Rattle.std.proofs.lemmas.Option.{same_Some, slice_get_within, slice_get-get_or}
use Rattle.sok_rules.specs.Play.{Position}
use Rattle.sok_rules.proofs.Steps.{IsStanding}
use Rattle.sok_board.specs.Area.{BoardView}
use Rattle.sok_board.proofs.Lists.{Contains-at}
use Rattle.sok_state.specs.declared.key.Key.{Key}
use Rattle.sok_state.specs.declared.push.Push.{Push}
use Rattle.sok_state.specs.Keys.{IsKeyOf}
use Rattle.sok_state.specs.Tables.{IsAt}
use Rattle.sok_closed.specs.Rolls.{IsClosedAt, IsStarter, Node}
use Rattle.sok_closed.specs.Lookup.{AreFollowed, IsFirstOpen, IsLooking, IsMarked, IsMissed, IsRolled, Rolled, TellsOpen}
use Rattle.sok_closed.proofs.Looking.{entry_at, same_key}
use Rattle.sok_closed.proofs.Followed.{IsFirstOpen-missing, IsFollowed-found}
use Rattle.sok_closed.proofs.Starting.{one-starts, starter-at}

-- ---- along the marks

-- a state that is not expanded
pub followed-unmarked : (b : BoardView) (roll : Rolled) (i : ℕ) → slice_get roll.marks i ≡ Some false → AreFollowed b roll i → AreFollowed b roll (i + 1)
followed-unmarked b roll i unmarked followed j key depth below marked = below_more
    (λ k. (one : Key) (deep : ℕ) → IsMarked roll k one deep → TellsOpen b roll.entries one deep None) i
    (λ k k_below one deep k_marked. followed k one deep k_below k_marked)
    (λ one deep here. absurd (true≢false (same_Some true false (sym here.expanded ∙ unmarked)))) j below key depth marked

-- one whose pushes are found
pub followed-more : (b : BoardView) (roll : Rolled) (i : ℕ) (key : Key) (depth : ℕ) → IsAt roll.entries key i
    → slice_get (values_of roll.entries) i ≡ Some depth → TellsOpen b roll.entries key depth None → AreFollowed b roll i → AreFollowed b roll (i + 1)
followed-more b roll i key depth at depth_is found followed j other deep below marked = below_more
    (λ k. (one : Key) (d : ℕ) → IsMarked roll k one d → TellsOpen b roll.entries one d None) i
    (λ k k_below one d k_marked. followed k one d k_below k_marked)
    (λ one d here.
    subst (λ k. TellsOpen b roll.entries k d None) (same_key roll.entries i key one at here.there)
    (subst (λ n. TellsOpen b roll.entries key n None) (same_Some depth d (sym depth_is ∙ here.depth_is)) found)) j below other deep marked

-- ---- of a list

module _ {E : Type 0} (node : E → Node) (b : BoardView) (count : ℕ) (entries : List E) (roll : Rolled) (looking : IsLooking node b count entries roll.entries)
  where
    module _ (rolled : IsRolled node b entries (length entries) roll) where
      -- an entry before a place to which all are followed
      pub closed-before : (n : ℕ) → AreFollowed b roll n → (j : ℕ) (f : E) → j < n → slice_get entries j ≡ Some f → IsClosedAt node b entries f
      closed-before n followed j f below there expanded =
          let within = slice_get_within entries j f there in
          let entered = looking.entered.entered j f within there in
          IsFollowed-found node b count entries roll.entries looking f (Contains-at entries f j there) entered.key entered.is
          (followed j entered.key (node f).depth below
          (record { expanded = rolled.marks j f within there ∙ ap Some expanded; there = entered.there; depth_is = entered.depth }))

      pub rolled-closed : AreFollowed b roll (length roll.marks) → All (IsClosedAt node b entries) entries
      rolled-closed followed = λ k d within.
          let as_many = rolled.as_many in
          closed-before (length roll.marks) followed k (get_or entries k d) (omega (arith, within, as_many)) (slice_get-get_or entries k d within)

      pub rolled-open : (i : ℕ) (push : Push) → IsMissed b roll i push → IsFirstOpen node b entries i push
      rolled-open i push missed =
          let as_many = rolled.as_many in
          let marked = missed.marked in
          let marks_within = slice_get_within roll.marks i true marked.expanded in
          let (e, there) = entry_at entries i (omega (arith, marks_within, as_many)) in
          let within = slice_get_within entries i e there in
          let entered = looking.entered.entered i e within there in
          let expanded : (node e).expanded ≡ true = same_Some (node e).expanded true (sym (rolled.marks i e within there) ∙ marked.expanded) in
          let deep : missed.depth ≡ (node e).depth = same_Some missed.depth (node e).depth (sym marked.depth_is ∙ entered.depth) in
          IsFirstOpen-missing node b count entries roll.entries looking i e there missed.key marked.there push expanded
          (subst (λ n. TellsOpen b roll.entries missed.key n (Some push)) deep missed.missed) (closed-before i missed.before)

    -- the state of a position stands at depth 0 where an entry starts there
    pub rolled-starts : (from : Position) → IsStanding b.rows from → (key : Key) → IsKeyOf b from key
        → ((place : ℕ) × IsAt roll.entries key place × (slice_get (values_of roll.entries) place ≡ Some 0)) ↔ ((e : E) × IsStarter node b from entries e)
    rolled-starts from standing key is = (
      λ (place, at, depth_is). one-starts node b count entries roll.entries looking from standing key is place 0 at depth_is (λ i. 0),
      λ (e, starter).
          let (j, at, depth_is) = starter-at node b count entries roll.entries looking from standing key is e starter in
          (j, at, depth_is ∙ ap Some starter.first),
    )

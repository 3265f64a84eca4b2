use Rattle.std.proofs.Common.{◌≡◌, ◌≤◌, ◌+◌, ◌∙◌, Bool, Contains, arith, false, length, refl, subst, sym, true, ℕ}
use Rattle.std.specs.Map.{keys_of}
use Rattle.std.proofs.lemmas.Option.{same_Some}
use Rattle.sok_board.specs.BoxSets.{put_in_order}
use Rattle.sok_board.proofs.Lists.{Contains-at}
use Rattle.sok_state.specs.declared.key.Key.{Key}
use Rattle.sok_state.specs.Pushes.{Reaches}
use Rattle.sok_state.specs.Tables.{Enters, Entries, GoesLast, Tabled}
use Rattle.sok_state.proofs.Stepped.{ComesNext, next_of}
use Rattle.sok_alone.specs.Losses.{losses_of}
use Rattle.sok_search.specs.declared.search.Search.{Search}
use Rattle.sok_search.specs.PushScratches.{IsLoaded}
use Rattle.sok_search.specs.Steps.{IsBoundedAs, holding}
use Rattle.sok_search.specs.Views.{progress_of}
use Rattle.sok_search.proofs.Adding.{added-made}
use Rattle.sok_search.proofs.Asking.{raised-next}
use Rattle.sok_search.proofs.Entering as held
use Rattle.sok_search.proofs.Filling.{full-more}
use Rattle.sok_search.proofs.LeavingOut.{spared-no_fewer}
use Rattle.sok_search.proofs.Pushing.{pushed-added}
use Rattle.sok_search.proofs.reaching.enter.Goals as goal
use Rattle.sok_search.proofs.reaching.enter.Goals.{In_ok-at, In_ok-standing, In_ok-standing-2}

pub overflow_add-deeper : goal.overflow_add-deeper
overflow_add-deeper c =
    let small = held.small_depth c.args.setting.now.board.now c.args.visit.now c.args.search.now c.requires.state in
    omega (arith, small)

-- the state that the step leads to
comes_in : (c : In_ok-standing) → ComesNext c.args.setting.now.board.now c.args.visit.now.key.now c.args.step.push c.args.step.to c.args.step.least
comes_in c =
    let s = c.args.step in
    let step = c.requires.step in
    held.comes c.args.setting.now.board.now c.args.visit.now c.args.search.now c.requires.state c.args.push_scratch.now.scene c.requires.loaded.opened
    s.push step.legal s.to s.least step.ahead step.next

-- how it stands
judged_in : (c : In_ok-standing-2) → IsBoundedAs c.args.setting.now.board.now c.args.search.now.aim.whole (losses_of c.args.search.now.losses) c.args.step.least
    (put_in_order c.args.step.push.from c.args.step.to c.args.visit.now.key.now.boxes) c.in_ok-standing-2.standing
judged_in c =
    let b = c.args.setting.now.board.now in
    let v = c.args.visit.now in
    let s = c.args.step in
    let step = c.requires.step in
    let scene = c.args.push_scratch.now.scene in
    let can = held.can b v c.args.search.now c.requires.state scene c.requires.loaded.opened s.push step.legal in
    let comes = held.comes b v c.args.search.now c.requires.state scene c.requires.loaded.opened s.push step.legal s.to s.least step.ahead step.next in
    let losses = losses_of c.args.search.now.losses in
    raised-next b c.requires.state.running.accepted v.key.now s.push s.to scene can step.ahead s.least comes
    c.judge_after.new.push_scratch.lifts c.in_ok-standing.ensures.push_scratch.are_lifts c.args.search.now.aim.whole losses c.in_ok-standing.standing
    c.in_ok-standing-2.standing (c.in_ok-standing.ensures.judged losses s.push.from c.requires.lost)
    (c.in_ok-standing-2.ensures (put_in_order s.push.from s.to v.key.now.boxes) step.moved.moved step.moved.rising)

-- the state that is visited is loaded behind it
loaded_in : (c : In_ok-standing-2) → IsLoaded c.args.setting.now.board.now c.args.visit.now.key.now
    (record c.judge_after.new.push_scratch { free = c.raise_after.new.free })
loaded_in c = record {
  serves = c.in_ok-standing.ensures.push_scratch;
  opened = record {
    laid = c.in_ok-standing.ensures.laid;
    reached = subst (Reaches c.args.setting.now.board.now c.args.visit.now.key.now) (sym c.judge_after.ensures.reached) c.requires.loaded.opened.reached;
  };
}

pub returns-then-is_spared-clause-loaded : goal.returns-then-is_spared-clause-loaded
returns-then-is_spared-clause-loaded c = loaded_in ((goal.at.returns-then-is_spared-clause-loaded c).In_ok-standing-2)

pub returns-then-is_spared-clause-pushed : goal.returns-then-is_spared-clause-pushed
returns-then-is_spared-clause-pushed c =
    let b = c.args.setting.now.board.now in
    let v = c.args.visit.now in
    let s = c.args.step in
    let at = goal.at.returns-then-is_spared-clause-pushed c in
    let comes = comes_in at.In_ok-standing in
    held.left_out b v c.args.search.now c.requires.state s.push (record {
      part = c.if-not-search.true;
      no_fewer = spared-no_fewer b c.requires.state.running.accepted v.key.now (next_of v.key.now s.push.from s.to s.least) s.push comes.came.exact
          comes.came.of_board c.args.search.now.aim.whole (losses_of c.args.search.now.losses) c.in_ok-standing-2.standing (judged_in at.In_ok-standing-2)
          c.args.search.now.aim.upper v.depth (c.is_spared.ensures c.if-is_spared.true);
    })

pub returns-then-len-limit-clause-cut : goal.returns-then-len-limit-clause-cut
returns-then-len-limit-clause-cut c = λ _.
    let v = c.args.visit.now in
    let s = c.args.step in
    let state = c.requires.state in
    let legal = c.requires.step.legal in
    let comes = comes_in ((goal.at.returns-then-len-limit-clause-cut c).In_ok-standing) in
    let next = next_of v.key.now s.push.from s.to s.least in
    let long = c.if-len-limit.true in
    let count = c.len.ensures.count in
    let full : v.limit ≤ length c.args.search.now.table.entries = omega (arith, long, count) in
    record {
      more = full-more c.args.setting.now.board.now state.running.accepted v.limit (holding v.index (progress_of c.args.search.now)) v.index
          v.key.now next s.push legal.after state.running.search full state.there legal.leads (comes.came.exact legal.after legal.leads)
          (c.requires.new.absent v.key.now next state.there comes.is);
      search = state.running.search;
      aim_is = refl;
    }

pub insert_next-requires-clause-exists : goal.insert_next-requires-clause-exists
insert_next-requires-clause-exists c = held.within c.args.setting.now.board.now c.args.visit.now c.args.search.now c.requires.state

pub insert_next-requires-clause-to : goal.insert_next-requires-clause-to
insert_next-requires-clause-to c =
    let exists = c.requires.step.moved.within in
    let wide = c.requires.state.running.search.wide in
    omega (arith, exists, wide)

pub insert_next-requires-clause-there : goal.insert_next-requires-clause-there
insert_next-requires-clause-there c = λ key at.
    subst (λ (k : Key). Contains k.boxes c.args.step.push.from) (same_Some c.args.visit.now.key.now key (sym c.requires.state.there ∙ at))
    c.requires.step.moved.there

-- a key that was lacking goes last
goes_last : (old new : Entries) (key : Key) (depth at : ℕ) (is_new : Bool) → Enters old key depth at is_new new → (Contains (keys_of old) key → ⊥)
    → GoesLast old key depth at new
goes_last old new key depth at true enters absent = enters
goes_last old new key depth at false enters absent = absurd (absent (Contains-at (keys_of old) key at enters.there))

last_in : (c : In_ok-at) → ComesNext c.args.setting.now.board.now c.args.visit.now.key.now c.args.step.push c.args.step.to c.args.step.least
    → GoesLast c.args.search.now.table.entries (next_of c.args.visit.now.key.now c.args.step.push.from c.args.step.to c.args.step.least)
    (c.args.visit.now.depth + 1) c.in_ok-at.at c.insert_next.new.self.entries
last_in c comes =
    let v = c.args.visit.now in
    let s = c.args.step in
    let next = next_of v.key.now s.push.from s.to s.least in
    goes_last c.args.search.now.table.entries c.insert_next.new.self.entries next (v.depth + 1) c.in_ok-at.at c.in_ok-at.field-0-1
    (c.in_ok-at.ensures.inserted.enters v.key.now next c.requires.state.there comes.is) (c.requires.new.absent v.key.now next c.requires.state.there comes.is)

pub origin_of-origin-requires : goal.origin_of-origin-requires
origin_of-origin-requires c = held.small_index c.args.setting.now.board.now c.args.visit.now c.args.search.now c.requires.state

pub add-requires : goal.add-requires
add-requires c =
    let at = goal.at.add-requires c in
    let last = (last_in at.In_ok-at (comes_in at.In_ok-standing)).last in
    let room = c.if-len-limit.false in
    let count = c.len.ensures.count in
    let small = c.requires.state.small in
    omega (arith, last, room, count, small)

pub returns-clause-loaded : goal.returns-clause-loaded
returns-clause-loaded c = loaded_in ((goal.at.returns-clause-loaded c).In_ok-standing-2)

-- the frame of a search with another table
same_frame : (search : Search) (table : Tabled) → table.room ≡ search.table.room
    → record { room = table.room; aim = search.aim; losses = search.losses } ≡ (progress_of search).frame
same_frame search table same = λ i. record { room = same i; aim = search.aim; losses = search.losses }

pub returns-clause-pushed : goal.returns-clause-pushed
returns-clause-pushed c =
    let v = c.args.visit.now in
    let q = progress_of c.add.new.search in
    let table = c.insert_next.new.self in
    let s = c.args.step in
    let at = goal.at.returns-clause-pushed c in
    let comes = comes_in at.In_ok-standing in
    let next = next_of v.key.now s.push.from s.to s.least in
    let last = last_in at.In_ok-at comes in
    let room = c.if-len-limit.false in
    let count = c.len.ensures.count in
    pushed-added c.args.setting.now.board.now v c.args.search.now c.requires.state s.push c.requires.step.legal next comes.came last.absent
    (omega (arith, room, count)) _ c.origin_of-origin.ensures (judged_in at.In_ok-standing-2) q
    (added-made (progress_of c.args.search.now) (record { room = table.room; aim = c.args.search.now.aim; losses = c.args.search.now.losses }) table.entries q
    next (v.depth + 1) c.in_ok-at.at _ (same_frame c.args.search.now table c.in_ok-at.ensures.room) last c.in_ok-add.ensures)

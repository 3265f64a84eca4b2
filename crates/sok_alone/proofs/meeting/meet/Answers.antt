use Rattle.std.proofs.Common.{inr, arith, subst, Contains}
use Rattle.std.specs.Map.{keys_of}
use Rattle.sok_state.specs.Keys.{key_position}
use Rattle.sok_state.specs.Tables.{IsAt}
use Rattle.sok_closed.proofs.Entered.{missing, present}
use Rattle.sok_closed.proofs.Rolling.{found-or-not}
use Rattle.sok_alone.specs.Judging.{TellsJudged}
use Rattle.sok_alone.proofs.Adding.{met-more}
use Rattle.sok_alone.proofs.Counting.{full-more}
use Rattle.sok_alone.proofs.Finishing.{given-up-reached}
use Rattle.sok_alone.proofs.Growing.{Grows-refl}
use Rattle.sok_alone.proofs.meeting.meet.Goals as goal

pub returns-then-is_some : goal.returns-then-is_some
returns-then-is_some g c =
    let entries = c.args.known.now.table.entries in
    let key = c.args.key.now in
    let told = found-or-not (Contains (keys_of entries) key → ⊥) (IsAt entries key) c.get.result c.is_some.result c.get.ensures c.is_some.ensures in
    let (place, there) = present _ _ c.is_some.result told c.if-is_some.true in
    record { known = c.requires.1.0; grows = Grows-refl c.args.known.now; place = place; there = there }

pub returns-then-is_live : goal.returns-then-is_live
returns-then-is_live g c =
    let b = c.args.setting.now.board.now in
    let key = c.args.key.now in
    λ lives_are. given-up-reached b.rows (key_position b g.start) (key_position b key) c.args.limit c.requires.1.1.reached
    (lives_are.each key (c.is_live.ensures c.if-is_live.true))

pub returns-then-len-limit : goal.returns-then-len-limit
returns-then-len-limit g c =
    let entries = c.args.known.now.table.entries in
    let key = c.args.key.now in
    let told = found-or-not (Contains (keys_of entries) key → ⊥) (IsAt entries key) c.get.result c.is_some.result c.get.ensures c.is_some.ensures in
    let full = c.if-len-limit.true in
    let count = c.len.ensures in
    λ _. inr (full-more c.args.setting.now.board.now c.requires.0.accepted g.start c.args.limit c.args.known.now c.requires.1.0 (omega (arith, full, count)) key
    c.requires.1.1 (missing _ _ c.is_some.result told c.if-is_some.false))

pub returns-in_ok-add-in-Stands : goal.returns-in_ok-add-in-Stands
returns-in_ok-add-in-Stands g c =
    let b = c.args.setting.now.board.now in
    let entries = c.args.known.now.table.entries in
    let key = c.args.key.now in
    let told = found-or-not (Contains (keys_of entries) key → ⊥) (IsAt entries key) c.get.result c.is_some.result c.get.ensures c.is_some.ensures in
    let room = c.if-len-limit.false in
    let count = c.len.ensures in
    met-more b c.requires.0.accepted g.start c.requires.0.few_boxes c.args.limit c.args.known.now c.add.new.known c.requires.1.0 key
    c.in-Stands.reason c.requires.1.1 (missing _ _ c.is_some.result told c.if-is_some.false)
    (subst (TellsJudged b key) c.in-Stands.is c.in_ok-judge.ensures) (omega (arith, room, count)) c.in_ok-add-in-Stands.ensures.entered
    c.in_ok-add-in-Stands.ensures.listed c.add.ensures.room

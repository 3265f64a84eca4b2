use Rattle.std.proofs.Common.{◌≡◌, ◌∙◌, true, false, ap, arith, get_or, length, set}
use Rattle.std.proofs.lemmas.List.{get_or-replicate, length-set}
use Rattle.sok_lift.specs.Numbers.{lift_in}
use Rattle.sok_lift.proofs.Taking.{HasLifts-HasTaken, HasTaken-none, free-behind, taken-partner}
use Rattle.sok_lift.proofs.raise.add_up.Goals as goal
use Rattle.sok_lift.proofs.raise.add_up.Goals.{in-Some, in_default}

pub loop-one-init : goal.loop-one-init
loop-one-init c =
    let n = length c.args.free.now in
    let room : n ≡ length c.args.boxes.now = c.requires.room in
    let all = c.fill.ensures.after (λ y e. e) in
    record {
      has = HasTaken-none (lift_in c.args.lifts.now) c.args.player c.args.boxes.now c.fill.new.self;
      room = c.fill.ensures.len ∙ room;
      few = omega arith;
      later = λ k past within. ap (λ free. get_or free k false) all ∙ get_or-replicate n k true false (omega (arith, within, room));
    }

pub loop-one-preserved : goal.loop-one-preserved
loop-one-preserved c = elim c.match-partner.branch [
  | in-Some w ↦
      let t = c.args.lifts.now in
      let boxes = c.args.boxes.now in
      let inv = c.loop-one.invariant in
      let free = c.loop-one.free in
      let one = c.loop-one.one in
      let other = w.in-Some.other in
      let found = w.in-Some.ensures.some in
      let taken = taken-partner t c.args.player boxes free c.loop-one.total one other w.in-Some.lift inv.room c.loop-one-test.true inv.later found inv.has in
      let sum = w.total-is in
      let number = w.from-total.ensures in
      record {
        has = rw (w.free-is, w.total-is, w.from-total.ensures) taken;
        room = ap length w.free-is ∙ length-set (set free one false) other false ∙ length-set free one false ∙ inv.room;
        few = let few = inv.few in let small = found.small in omega (arith, few, sum, number, small);
        later = rw w.free-is (free-behind boxes free one other found.before inv.later);
      }
  | in_default w ↦
      let inv = c.loop-one.invariant in
      let same = w.total-is in
      record {
        has = rw (w.free-is, w.total-is) inv.has;
        room = ap length w.free-is ∙ inv.room;
        few = let few = inv.few in omega (arith, few, same);
        later = rw w.free-is (λ k past within. inv.later k (omega (arith, past)) within);
      }
]

pub returns : goal.returns
returns c = HasLifts-HasTaken (lift_in c.args.lifts.now) c.args.player c.args.boxes.now c.loop-one.free c.loop-one.total c.loop-one.invariant.has

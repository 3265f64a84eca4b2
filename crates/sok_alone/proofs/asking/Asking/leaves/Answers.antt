use Rattle.std.proofs.Common.{ℕ, All, Contains, IsTrue, arith, rules, subst}
use Rattle.std.proofs.lemmas.List.{take_all}
use Rattle.std.proofs.lemmas.List.Elements.{All-more}
use Rattle.sok_board.specs.BoxSets.{put_in_order}
use Rattle.sok_alone.proofs.asking.Asking.leaves.Goals as goal

pub loop-square-preserved : goal.loop-square-preserved
loop-square-preserved c =
    let after : ℕ → Type 0 = Contains (put_in_order c.args.self.now.from c.args.self.now.to c.args.self.now.boxes.now) in
    let left : IsTrue c.leaves_one.result = search rules in
    All-more after c.args.squares.now c.loop-square.square-index 0 (omega arith) c.loop-square.invariant (c.leaves_one.ensures left)

pub returns : goal.returns
returns c = λ _.
    let after : ℕ → Type 0 = Contains (put_in_order c.args.self.now.from c.args.self.now.to c.args.self.now.boxes.now) in
    subst (All after) (take_all c.loop-square.square-index c.args.squares.now (omega arith)) c.loop-square.invariant

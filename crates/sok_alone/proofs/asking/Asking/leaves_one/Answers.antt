use Rattle.std.proofs.Common.{inl, inr}
use Rattle.sok_board.proofs.Moves.{IsMoved-put}
use Rattle.sok_alone.proofs.asking.Asking.leaves_one.Goals as goal

pub returns-then-square-self : goal.returns-then-square-self
returns-then-square-self c = λ _.
    (IsMoved-put c.args.self.now.from c.args.self.now.to c.args.self.now.boxes.now c.args.square).1 (inl c.if-square-self.true)

pub returns-then-square-self-2 : goal.returns-then-square-self-2
returns-then-square-self-2 c = λ there.
    (IsMoved-put c.args.self.now.from c.args.self.now.to c.args.self.now.boxes.now c.args.square).1 (inr (c.has.ensures.0 there, c.if-square-self-2.true))

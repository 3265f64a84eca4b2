use Rattle.std.proofs.Common.{◌∙◌, ap, subst, sym, length}
use Rattle.sok_board.specs.BoxSets.{IsBoxList, IsMoved, put_in_order}
use Rattle.sok_board.proofs.Moves.{IsMoved-put, IsBoxList-put}
use Rattle.sok_board.proofs.box_set.BoxSet.moved.Goals as goal

pub invariant_of-result : goal.invariant_of-result
invariant_of-result c =
    subst IsBoxList (sym (c.in_ok-squares.ensures ∙ ap (put_in_order c.args.from c.args.to) c.list.ensures.list))
    (IsBoxList-put c.args.from c.args.to c.args.self.now c.list.ensures.rising c.list.ensures.few c.requires.from c.requires.to).0

pub returns-clause-moved : goal.returns-clause-moved
returns-clause-moved c =
    subst (IsMoved c.args.self.now c.args.from c.args.to) (sym (c.in_ok-squares.ensures ∙ ap (put_in_order c.args.from c.args.to) c.list.ensures.list))
    (IsMoved-put c.args.from c.args.to c.args.self.now)

pub returns-clause-rising : goal.returns-clause-rising
returns-clause-rising c = (invariant_of-result c).rising

pub returns-clause-as_many : goal.returns-clause-as_many
returns-clause-as_many c =
    ap length (c.in_ok-squares.ensures ∙ ap (put_in_order c.args.from c.args.to) c.list.ensures.list)
    ∙ (IsBoxList-put c.args.from c.args.to c.args.self.now c.list.ensures.rising c.list.ensures.few c.requires.from c.requires.to).1

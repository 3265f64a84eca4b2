use Rattle.std.proofs.Common.{Err, IfOk, ap, refl, subst}
use Rattle.sok_search.specs.declared.aim.Aim.{Aim}
use Rattle.sok_search.specs.Findings.{IsFinding}
use Rattle.sok_search.proofs.solve.find_by.Goals as goal

pub find_in-requires-clause-search : goal.find_in-requires-clause-search
find_in-requires-clause-search c = (c.args.limit, c.in-Ok.ensures.searched.search)

pub find_in-requires-clause-finished : goal.find_in-requires-clause-finished
find_in-requires-clause-finished c = c.in-Ok.ensures.searched.empty

pub returns-in-Ok : goal.returns-in-Ok
returns-in-Ok c = subst (λ (aim : Aim). IfOk c.find_in.result (IsFinding c.args.board.now.rows c.args.limit aim.upper)) c.in-Ok.ensures.searched.aim_is
    (c.find_in.ensures.finding c.args.limit c.in-Ok.ensures.searched.search)

pub halted-requires : goal.halted-requires
halted-requires c =
    let left = c.in-Err-Cut.ensures.cut (ap Err c.in-Err-Cut.field-0-is) in
    (c.args.board.now, c.requires.accepted, record { more = left.more; search = left.search; aim_is = refl })

pub returns-in-Err-Cut : goal.returns-in-Err-Cut
returns-in-Err-Cut c =
    let left = c.in-Err-Cut.ensures.cut (ap Err c.in-Err-Cut.field-0-is) in
    subst (λ (aim : Aim). IsFinding c.args.board.now.rows c.args.limit aim.upper c.halted.result) left.aim_is
    (c.halted.ensures c.args.board.now c.requires.accepted (record { more = left.more; search = left.search; aim_is = refl }))

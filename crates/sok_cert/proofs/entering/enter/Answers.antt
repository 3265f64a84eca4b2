use Rattle.std.proofs.Common.{subst, length, MatchOption}
use Rattle.sok_board.specs.Area.{boxes_of}
use Rattle.sok_closed.proofs.Entered.{missing, present}
use Rattle.sok_closed.proofs.Fine.{IsOfBoard-more}
use Rattle.sok_closed.specs.Lookup.{GoesLast}
use Rattle.sok_cert.specs.Closed.{IsPosition, is_expanded, node_of}
use Rattle.sok_cert.specs.Judging.{IsLocated}
use Rattle.sok_cert.specs.Rosters.{IsOfBoard}
use Rattle.sok_cert.proofs.Entered.{tells-misplaced, tells-repeated, tells-found}
use Rattle.sok_cert.proofs.entering.enter.Goals as goal
use Rattle.sok_cert.proofs.entering.enter.Goals.{After-enter, After-judge}

located : (c : After-enter) → IsLocated c.args.setting.now.board.now c.args.entry.now c.in-Some.field-0
located c =
    let e = c.args.entry.now in
    subst (λ o. MatchOption o (IsPosition c.args.setting.now.board.now e → ⊥) (IsLocated c.args.setting.now.board.now e)) c.in-Some.is c.in_ok-boxes.ensures.found

pub returns-in_default-clause-tells : goal.returns-in_default-clause-tells
returns-in_default-clause-tells c = λ entries known.
    tells-misplaced c.args.setting.now.board.now c.args.claim entries c.args.roll.now c.requires.accepted known c.args.entry.now c.args.roll.now c.len-index.result
    c.len-index.ensures (subst (λ o. MatchOption o (IsPosition c.args.setting.now.board.now c.args.entry.now → ⊥) (IsLocated c.args.setting.now.board.now c.args.entry.now)) c.in_default.is c.in_ok-boxes.ensures.found)

pub returns-then-not-branch-clause-tells : goal.returns-then-not-branch-clause-tells
returns-then-not-branch-clause-tells c = λ entries known.
    let stays = missing _ _ c.in_ok-enter.field-0 c.in_ok-enter.ensures.entered c.if-not-branch.true in
    tells-repeated c.args.setting.now.board.now c.args.claim entries c.args.roll.now c.requires.accepted known c.args.entry.now c.in-Some.field-0
    (located (goal.at.returns-then-not-branch-clause-tells c).After-enter) c.enter.new.self c.len-index.result c.len-index.ensures stays.place stays.there

-- the state was entered
came : (c : After-judge) → GoesLast c.args.roll.now c.in-Some.field-0.key c.args.entry.now.depth (is_expanded c.args.entry.now.reason) c.enter.new.self
came c = present _ _ c.in_ok-enter.field-0 (rw c.is_expanded.ensures at c.in_ok-enter.ensures.entered) c.if-not-branch.false

-- the roll stays one of the board
goes_on : (c : After-judge) → IsLocated c.args.setting.now.board.now c.args.entry.now c.in-Some.field-0 → IsOfBoard c.args.setting.now.board.now c.enter.new.self
goes_on c there =
    let b = c.args.setting.now.board.now in
    IsOfBoard-more b c.requires.accepted (length (boxes_of b)) c.requires.accepted.few_boxes c.args.roll.now c.enter.new.self (node_of c.args.entry.now)
    c.in-Some.field-0 there c.requires.of_board (came c).entries c.in_ok-enter.ensures.room

pub returns-clause-tells : goal.returns-clause-tells
returns-clause-tells c = λ entries known.
    let new = came (goal.at.returns-clause-tells c).After-judge in
    rw c.fault_of.ensures (tells-found c.args.setting.now.board.now c.args.claim entries c.args.roll.now c.requires.accepted known c.args.entry.now c.in-Some.field-0
    (located (goal.at.returns-clause-tells c).After-enter) new.absent c.enter.new.self c.len-index.result c.len-index.ensures c.in_ok-found.found
    c.in_ok-found.ensures.found new.entries new.marks)

pub returns-in_err-found-clause-of_board : goal.returns-in_err-found-clause-of_board
returns-in_err-found-clause-of_board c = goes_on (goal.at.returns-in_err-found-clause-of_board c).After-judge (located (goal.at.returns-in_err-found-clause-of_board c).After-enter)

pub returns-clause-of_board : goal.returns-clause-of_board
returns-clause-of_board c = goes_on (goal.at.returns-clause-of_board c).After-judge (located (goal.at.returns-clause-of_board c).After-enter)

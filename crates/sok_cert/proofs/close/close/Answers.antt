use Rattle.std.proofs.Common.{◌∙◌, length, subst, sym, true≢false}
use Rattle.sok_rules.specs.Play.{start}
use Rattle.sok_board.specs.Area.{boxes_of}
use Rattle.sok_closed.specs.Lookup.{TellsMissed}
use Rattle.sok_closed.proofs.Fine.{IsLooking-fine, fine-closed}
use Rattle.sok_closed.proofs.Missed.{rolled-closed, rolled-open}
use Rattle.sok_cert.specs.Closed.{IsBarredBy, node_of}
use Rattle.sok_cert.proofs.close.close.Goals as goal

pub returns-then-not-branch : goal.returns-then-not-branch
returns-then-not-branch c = λ claim entries known.
    let b = c.args.board.now in
    let looking = IsLooking-fine node_of b (length (boxes_of b)) (IsBarredBy b claim) entries c.args.roll.now c.requires.accepted
    c.requires.accepted.few_boxes known in
    (known.fine, λ e starter. true≢false (sym ((c.in_ok-has_start.ensures entries looking).1 (e, starter)) ∙ c.if-not-branch.true))

pub returns-in-Some : goal.returns-in-Some
returns-in-Some c = λ claim entries known.
    let b = c.args.board.now in
    let roll = c.args.roll.now in
    let looking = IsLooking-fine node_of b (length (boxes_of b)) (IsBarredBy b claim) entries roll c.requires.accepted c.requires.accepted.few_boxes known in
    let starter = (c.in_ok-has_start.ensures entries looking).0 c.if-not-branch.false in
    let missed = subst (TellsMissed b roll) c.in-Some.is c.in_ok-index.ensures in
    (known.fine, starter, rolled-open node_of b (length (boxes_of b)) entries roll looking known.rolled c.in-Some.index c.in-Some.push missed)

pub returns-in-None : goal.returns-in-None
returns-in-None c = λ claim entries known.
    let b = c.args.board.now in
    let roll = c.args.roll.now in
    let looking = IsLooking-fine node_of b (length (boxes_of b)) (IsBarredBy b claim) entries roll c.requires.accepted c.requires.accepted.few_boxes known in
    let starter = (c.in_ok-has_start.ensures entries looking).0 c.if-not-branch.false in
    let followed = subst (TellsMissed b roll) c.in-None.is c.in_ok-index.ensures in
    fine-closed node_of b (length (boxes_of b)) (IsBarredBy b claim) (start b.rows) entries c.requires.accepted known.fine starter
    (rolled-closed node_of b (length (boxes_of b)) entries roll looking known.rolled followed)

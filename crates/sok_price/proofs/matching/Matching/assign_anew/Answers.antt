use Rattle.sok_price.proofs.Words.{All, All-from_get_or, AreCosts, AreOfBoxes, KeptMatching, Serves, ap, arith, length, subst, sym, ◌<◌, ◌+◌}
use Rattle.sok_price.proofs.{CostRows.AreCosts-below, Sparing.AreOfBoxes-rows}
use Rattle.sok_price.proofs.matching.Matching.assign_anew.Goals as goal

pub assign_rows-requires-clause-costs : goal.assign_rows-requires-clause-costs
assign_rows-requires-clause-costs c =
    let inside = c.self.inside in
    let rows = c.in_ok-rows_of.field-0.items in
    let own = c.in_ok-rows_of.ensures in
    let squares = ap (λ (kept : KeptMatching). kept.squares) c.self.view_is in
    subst (AreCosts inside.costs) (sym c.deref.ensures.value) (AreCosts-below inside.costs (inside.squares + 1) rows
    (All-from_get_or (λ row. row < inside.squares + 1) rows 0 (λ k within.
    let box : k < length c.args.boxes.now = omega (arith, within, own.whole) in
    omega (arith, own.each k box, c.requires.exist k 0 box, squares))) (omega (arith, own.whole, c.requires.few)) c.self.invariant.shaped.small
    c.self.invariant.entries)

pub returns : goal.returns
returns c = λ b serves.
    let boxes = c.args.boxes.now in
    let own = c.in_ok-rows_of.ensures in
    let before = subst (Serves b) (sym c.self.view_is) serves in
    let exist = subst (λ n. All (λ square. square < n) boxes) serves.squares c.requires.exist in
    c.assign_rows.ensures b boxes
    (subst (AreOfBoxes b boxes c.self.inside.costs) (sym c.deref.ensures.value)
    (AreOfBoxes-rows b boxes c.in_ok-rows_of.field-0.items c.self.inside.costs before.tabled exist own.whole own.each))

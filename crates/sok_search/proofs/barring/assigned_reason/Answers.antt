use Rattle.std.proofs.Common.{sym, subst, All, length, List, ℕ, ◌∷◌}
use Rattle.sok_cert.specs.Text.{IsSmall}
use Rattle.sok_price.specs.declared.assign.Match.TheVariants.{Crowd, Prices}
use Rattle.sok_price.specs.Matches.{ArePrices, IsMatch}
use Rattle.sok_search.proofs.Reasons.{members-fit, none-inside, prices-fit}
use Rattle.sok_search.proofs.barring.assigned_reason.Goals as goal

prices : (c : goal.After-drop-branch)
    → ArePrices c.args.board.now c.args.boxes.now c.from-u.result c.from-v.result c.in-Prices.total c.in-Prices.goal_of.items
prices c =
    let found : IsMatch c.args.board.now c.args.boxes.now (Prices c.in-Prices.u c.in-Prices.v c.in-Prices.total c.in-Prices.goal_of) = subst
    (IsMatch c.args.board.now c.args.boxes.now) c.in-Prices.is (c.in_ok-u.ensures.least c.args.board.now c.requires.serves) in
    rw (c.from-u.ensures, c.from-v.ensures) found

pub returns-in-Prices-clause-assigned : goal.returns-in-Prices-clause-assigned
returns-in-Prices-clause-assigned c = (c.in-Prices.total, c.in-Prices.goal_of.items, prices c)

pub returns-in-Prices-clause-fits : goal.returns-in-Prices-clause-fits
returns-in-Prices-clause-fits c =
    prices-fit c.args.board.now c.args.boxes.now c.from-u.result c.from-v.result c.in-Prices.goal_of.items c.in-Prices.total (prices c)

crowd : (c : goal.After-from-members) → IsMatch c.args.board.now c.args.boxes.now (Crowd c.in-Crowd.members)
crowd c = subst (IsMatch c.args.board.now c.args.boxes.now) c.in-Crowd.is (c.in_ok-u.ensures.least c.args.board.now c.requires.serves)

pub returns-clause-assigned : goal.returns-clause-assigned
returns-clause-assigned c = rw c.from-members.ensures (crowd c)

pub returns-clause-fits : goal.returns-clause-fits
returns-clause-fits c =
    let few = members-fit c.args.boxes.now c.in-Crowd.members.items c.list-list.ensures.few (crowd c).listed in
    (tt, subst (λ (members : List ℕ). All IsSmall (length members ∷ members)) (sym c.from-members.ensures) few, none-inside)

use Rattle.sok_price.proofs.Words.{ℕ, ◌≡◌, ◌-◌, ◌∙◌, ap, sym, List, arith, length, get_or, moved_from}
use Rattle.sok_price.proofs.Exchanging.{moved-take}
use Rattle.sok_price.proofs.exchange.free_goal.Goals as goal

pub returns-clause-moved : goal.returns-clause-moved
returns-clause-moved c = λ k inside.
    let xs = c.args.goal_of.now.items in
    let last = c.len-last.result - 1 in
    let last_is : length c.truncate.new.self.items ≡ last = omega (arith, c.len-last.ensures, c.swap.ensures.len, c.truncate.ensures.len) in
    ap (λ (goals : List ℕ). get_or goals k 0) c.truncate.ensures.items
    ∙ moved-take xs c.swap.new.self.items c.args.row last k c.swap.ensures.by_index (omega (arith, inside, last_is))
    ∙ ap (λ n. get_or xs (moved_from c.args.row n k) 0) (sym last_is)

use Rattle.sok_price.proofs.Words.{IsChange, List, subst, ℕ}
use Rattle.sok_price.proofs.Exchanging.{AreSet-moved}
use Rattle.sok_price.proofs.settle.settle.Goals as goal

pub returns-then-not-exchange-clause-kept : goal.returns-then-not-exchange-clause-kept
returns-then-not-exchange-clause-kept c =
    let (_, set, _) = c.setting.invariant in
    let change = subst (λ (rows : List ℕ). IsChange c.args.squares rows c.in-Some.row c.in-Some.entry) c.deref.ensures.value c.in-Some.ensures in
    AreSet-moved set change c.exchange.ensures.moved c.exchange.ensures.costs

pub setting-preserved : goal.setting-preserved
setting-preserved c =
    let (_, set, _) = c.setting.invariant in
    let change = subst (λ (rows : List ℕ). IsChange c.args.squares rows c.in-Some.row c.in-Some.entry) c.deref.ensures.value c.in-Some.ensures in (
      c.exchange.ensures.tells.whole c.if-not-exchange.false,
      AreSet-moved set change c.exchange.ensures.moved c.exchange.ensures.costs,
      c.exchange.ensures.shaped.room,
    )

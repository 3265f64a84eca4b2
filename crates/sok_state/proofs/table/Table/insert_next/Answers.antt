use Rattle.std.proofs.Common.{subst, sym}
use Rattle.sok_state.specs.declared.store.Store.{Store}
use Rattle.sok_state.specs.Stores.{TakesMove}
use Rattle.sok_state.proofs.table.Table.insert_next.Goals as goal
use Rattle.sok_state.proofs.table.Table.insert_next.Goals.{then-not-takes_next+in_ok-widen, else-not-takes_next}

pub insert_next-requires-in-Listed-clause-takes : goal.insert_next-requires-in-Listed-clause-takes
insert_next-requires-in-Listed-clause-takes c =
    let args = c.args in
    subst (λ (s : Store). TakesMove s args.index args.from args.to) c.in-Listed.is (elim c.if-not-takes_next.branch [
      | then-not-takes_next+in_ok-widen w ↦ subst (λ inside. TakesMove inside.store args.index args.from args.to) (sym w.self-inside-is)
          (w.in_ok-widen.ensures.takes_moves args.index args.from args.to)
      | else-not-takes_next w ↦ subst (λ inside. TakesMove inside.store args.index args.from args.to) (sym w.self-inside-is)
          (c.takes_next.ensures.takes w.if-not-takes_next.false)
    ])

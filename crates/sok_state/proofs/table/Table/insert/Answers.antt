use Rattle.std.proofs.Common.{inl, inr, sym, ap, ◌∙◌, subst, true≢false, length, List, ℕ, Contains}
use Rattle.std.specs.Map.{keys_of}
use Rattle.sok_state.specs.Tables.{Tabled}
use Rattle.sok_state.proofs.PackedTables.{on_err}
use Rattle.sok_state.proofs.table.Table.insert.Goals as goal

pub returns-in_err-widen-clause-refused_new : goal.returns-in_err-widen-clause-refused_new
returns-in_err-widen-clause-refused_new c = on_err (Contains (keys_of c.args.self.now.entries) c.args.key.now → ⊥) c.from_residual.result
    (elim c.takes_count.ensures.lacks [
      | inl takes ↦ absurd (true≢false (sym takes ∙ c.if-not-takes_count.true))
      | inr lacks ↦ subst (λ (table : Tabled). Contains (keys_of table.entries) c.args.key.now → ⊥) c.self.view_is
          (lacks c.args.key.now (sym (ap (λ (boxes : List ℕ). length boxes) c.list.ensures.list)))
    ])

use Rattle.std.proofs.Common.{arith, subst}
use Rattle.std.proofs.lemmas.Result.{IfOk-weaker, on_err_weaker}
use Rattle.std.specs.Map.{keys_of}
use Rattle.std.specs.Prelude.{Contains}
use Rattle.sok_state.specs.declared.key.Key.{Key}
use Rattle.sok_state.specs.Tables.{Enters}
use Rattle.sok_state.proofs.ListKeys.{no_more_squares}
use Rattle.sok_state.proofs.Moves.{next-at}
use Rattle.sok_state.proofs.packed_table.PackedTable.insert_next.Goals as goal

pub enter-requires-clause-few : goal.enter-requires-clause-few
enter-requires-clause-few g c =
    let args = c.args in
    let next = c.moved-next.ensures.next in
    let fewer = no_more_squares args.from args.to _ _ next.rising next.moved (c.requires.there _ c.packed.ensures.there) in
    let few = c.packed.ensures.few in
    omega (arith, fewer, few)

pub returns-clause-inserted : goal.returns-clause-inserted
returns-clause-inserted g c = IfOk-weaker c.enter.result _ _ (λ told entered. record {
  enters = λ key next there is.
      let args = c.args in
      let equal = next-at args.self.now.entries args.index args.from args.to args.least _ key _ next c.packed.ensures.there c.moved-next.ensures.next there is in
      subst (λ (k : Key). Enters args.self.now.entries k args.depth told.0 told.1 c.enter.new.self.entries) equal entered;
})
    c.enter.ensures.inserted

pub returns-clause-refused_new : goal.returns-clause-refused_new
returns-clause-refused_new g c = on_err_weaker c.enter.result (λ absent. record {
  absent = λ key next there is.
      let args = c.args in
      let equal = next-at args.self.now.entries args.index args.from args.to args.least _ key _ next c.packed.ensures.there c.moved-next.ensures.next there is in
      subst (λ (k : Key). Contains (keys_of args.self.now.entries) k → ⊥) equal absent;
})
    c.enter.ensures.refused_new

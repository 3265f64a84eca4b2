use Rattle.std.proofs.Common.{inl, inr, arith, ap, length, subst, Contains}
use Rattle.std.proofs.lemmas.Bool.{cases_Bool}
use Rattle.std.proofs.lemmas.Bool.Decides.{nat_tests}
use Rattle.std.specs.Map.{keys_of}
use Rattle.sok_state.specs.declared.store.Store.{Store}
use Rattle.sok_state.specs.Stores.{seen}
use Rattle.sok_state.specs.declared.key.Key.{Key}
use Rattle.sok_state.proofs.store.takes_count.Goals as goal

pub returns-in-Listed-clause-lacks : goal.returns-in-Listed-clause-lacks
returns-in-Listed-clause-lacks c = elim (cases_Bool _) [
  | inl takes ↦ inl takes
  | inr not ↦ inr (λ key long there.
      let (form, fit, same) = c.forms.ensures key (subst (λ (s : Store). Contains (keys_of (seen s).entries) key) c.in-Listed.is there) in
      let few = fit.taken.few in
      let equal = ap (λ (k : Key). length k.boxes) same in
      absurd (grind (arith, nat_tests, not, long, few, equal)))
]

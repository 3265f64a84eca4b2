use Rattle.std.proofs.Common.{◌≡◌, ◌<◌, inl, inr, arith, ap, length, true≢false, sym, ◌∙◌, subst, Contains}
use Rattle.std.proofs.lemmas.Bool.{cases_Bool}
use Rattle.std.proofs.lemmas.Option.{same_Some}
use Rattle.std.specs.Map.{keys_of}
use Rattle.sok_state.specs.declared.store.Store.{Store}
use Rattle.sok_state.specs.Stores.{seen}
use Rattle.sok_state.specs.declared.key.Key.{Key}
use Rattle.sok_state.specs.Tables.{IsAt, IsNext}
use Rattle.sok_state.specs.PackedKeys.{apart, list_limit, list_state}
use Rattle.sok_state.proofs.ListKeys.{past_lists}
use Rattle.sok_state.proofs.store.takes_next.Goals as goal

pub returns-in-Listed-clause-lacks : goal.returns-in-Listed-clause-lacks
returns-in-Listed-clause-lacks c = elim (cases_Bool c.takes_move.result) [
  | inl takes ↦ inl takes
  | inr not ↦ inr (λ least. record {
    absent = λ key next at is_next there.
        let packed = c.packed.result.now in
        let fits = c.packed.ensures.fits in
        let same : key ≡ list_state packed = same_Some key (list_state packed) (sym (subst (λ (s : Store). IsAt (seen s).entries key c.args.index) c.in-Listed.is at) ∙ c.packed.ensures.there) in
        let comes = subst (λ (k : Key). IsNext k c.args.from c.args.to least next) same is_next in
        let full : length (apart c.args.from c.args.to packed.boxes.items) < list_limit → ⊥ = λ few. true≢false (sym (c.takes_move.ensures.1 (record { few = few; room = subst (λ (s : Store). c.args.to < (seen s).room) c.in-Listed.is c.requires.to })) ∙ not) in
        let past = past_lists c.args.from c.args.to packed.boxes.items next.boxes fits.rising comes.rising comes.moved fits.taken.few full in
        let (form, fit, is) = c.forms.ensures next (subst (λ (s : Store). Contains (keys_of (seen s).entries) next) c.in-Listed.is there) in
        let few = fit.taken.few in
        let equal = ap (λ (k : Key). length k.boxes) is in
        omega (arith, past, few, equal);
  })
]

use Rattle.std.proofs.Common.{◌≡◌, ◌<◌, ◌∙◌, Some, sym, ap, subst, arith, length, slice_get}
use Rattle.std.proofs.lemmas.Option.{none-some, same_Some, slice_get-get_or, slice_get_within}
use Rattle.sok_search.proofs.Bucketing.{popped}
use Rattle.sok_search.proofs.buckets.Buckets.pop.Goals as goal

pub returns-in-Some : goal.returns-in-Some
returns-in-Some c =
    let buckets = c.self.inside.buckets in
    let old = c.index_mut-bucket.result.now in
    let found = c.in-Some.ensures in
    let at : slice_get buckets.items c.in-Some.rank ≡ Some found.bucket = ap (λ items. slice_get items c.in-Some.rank) (sym c.as_slice.ensures.value)
    ∙ found.there in
    let within = slice_get_within buckets.items c.in-Some.rank found.bucket at in
    let there : slice_get buckets.items c.in-Some.rank ≡ Some old = slice_get-get_or buckets.items c.in-Some.rank old within
    ∙ ap Some (sym c.index_mut-bucket.ensures.value) in
    let same : found.bucket ≡ old = same_Some found.bucket old (sym at ∙ there) in
    let filled : 0 < length old.items = subst (λ bucket. 0 < length bucket.items) same found.filled in
    let some = c.pop.ensures.value 0 (omega (arith, filled, old.ok)) in
    popped (λ bucket. bucket.items) buckets.items c.in-Some.rank old c.pop.new.self c.args.self.now c.pop.result there
    c.self.view_is c.pop.ensures.items (λ none. none-some _ (sym none ∙ some))

use Rattle.std.proofs.Common.{◌≡◌, ◌<◌, ◌≤◌, ◌+◌, ◌∙◌, List, ℕ, refl, sym, ap, get_or, set, subst, take}
use Rattle.std.proofs.lemmas.List.{set-get_or}
use Rattle.std.proofs.lemmas.Option.{slice_get-get_or}
use Rattle.sok_search.specs.Buckets.{in_layers}
use Rattle.sok_search.specs.Steps.{HasOneMore}
use Rattle.sok_search.proofs.Bucketing.{none-all, none-first, none-more, one-less-set}
use Rattle.sok_search.proofs.queue.pop_from.Goals as goal

pub returns-in-Some : goal.returns-in-Some
returns-in-Some c =
    let layers = c.loop-place.layers in
    let old = get_or layers c.loop-place.place c.index-layers-place.result in
    let there = slice_get-get_or layers c.loop-place.place c.index-layers-place.result (subst (λ n. c.loop-place.place < n) (sym c.loop-place.auto.layers)
    c.loop-place-test.true) in
    subst (λ (before : List (List ℕ)). HasOneMore (in_layers (set layers c.loop-place.place c.pop.new.self)) c.in-Some.index (in_layers before))
    c.loop-place.invariant.0
    (one-less-set (λ layer. layer) layers c.loop-place.place old c.pop.new.self c.in-Some.index there c.in-Some.ensures)

pub loop-place-init : goal.loop-place-init
loop-place-init c = (refl, λ first. none-first (λ layer. layer) c.args.layers.now c.args.from first)

pub loop-place-preserved : goal.loop-place-preserved
loop-place-preserved c =
    let layers = c.loop-place.layers in
    let place = c.loop-place.place in
    let (empty, after) = c.in_default.ensures in
    let same : set layers place c.pop.new.self ≡ layers = ap (set layers place) (after ∙ sym empty) ∙ set-get_or layers place c.index-layers-place.result in
    let there = slice_get-get_or layers place c.index-layers-place.result (subst (λ n. place < n) (sym c.loop-place.auto.layers) c.loop-place-test.true) in (
      same ∙ c.loop-place.invariant.0,
      λ first. ap (λ (xs : List (List ℕ)). in_layers (take (place + 1) xs)) same
          ∙ none-more (λ layer. layer) layers place (get_or layers place c.index-layers-place.result) there empty (c.loop-place.invariant.1 first),
    )

pub returns : goal.returns
returns c =
    let layers = c.loop-place.layers in
    let same = c.loop-place.invariant.0 in (
      same,
      λ first. ap in_layers (sym same)
          ∙ none-all (λ layer. layer) layers c.loop-place.place (subst (λ n. n ≤ c.loop-place.place) (sym c.loop-place.auto.layers) c.loop-place-test.false)
          (c.loop-place.invariant.1 first),
    )

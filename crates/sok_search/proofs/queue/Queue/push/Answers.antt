use Rattle.std.proofs.Common.{◌∙◌, Some, sym, ap, set, subst}
use Rattle.std.proofs.lemmas.Option.{slice_get-get_or}
use Rattle.sok_search.specs.Buckets.{in_layers}
use Rattle.sok_search.specs.Steps.{HasOneMore}
use Rattle.sok_search.proofs.Bucketing.{one-more-set}
use Rattle.sok_search.proofs.queue.Queue.push.Goals as goal

pub returns : goal.returns
returns c =
    let layers = c.make_room.new.layers in
    let old = c.index_mut.result.now in
    let there = slice_get-get_or layers.items c.args.pushes old c.in_ok-make_room.ensures.room ∙ ap Some (sym c.index_mut.ensures.value) in
    let after = in_layers (set layers.items c.args.pushes c.push.new.self) in
    subst (λ before. HasOneMore before c.args.index after) (c.in_ok-make_room.ensures.same ∙ c.self.view_is)
    (one-more-set (λ layer. layer) layers.items c.args.pushes old c.push.new.self c.args.index there c.in_ok-push.ensures)

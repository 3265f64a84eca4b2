use Rattle.std.proofs.Common.{◌∙◌, Some, sym, ap, set, subst}
use Rattle.std.proofs.lemmas.Option.{slice_get-get_or}
use Rattle.sok_search.specs.Buckets.{in_buckets}
use Rattle.sok_search.specs.Steps.{HasOneMore}
use Rattle.sok_search.proofs.Bucketing.{one-more-push, one-more-set}
use Rattle.sok_search.proofs.buckets.Buckets.push.Goals as goal

pub returns : goal.returns
returns c =
    let buckets = c.make_room.new.buckets in
    let old = c.index_mut.result.now in
    let there = slice_get-get_or buckets.items c.args.rank old c.in_ok-make_room.ensures.room ∙ ap Some (sym c.index_mut.ensures.value) in
    let one = subst (HasOneMore old.items c.args.index) (sym c.in_ok-push.ensures.items) (one-more-push old.items c.args.index) in
    let after = in_buckets (set buckets.items c.args.rank c.push.new.self) in
    subst (λ before. HasOneMore before c.args.index after) (c.in_ok-make_room.ensures.same ∙ c.self.view_is)
    (one-more-set (λ bucket. bucket.items) buckets.items c.args.rank old c.push.new.self c.args.index there one)

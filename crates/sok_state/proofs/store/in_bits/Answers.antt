use Rattle.std.proofs.Common.{◌<◌, subst, arith, All}
use Rattle.sok_board.proofs.Lists.{Contains-at}
use Rattle.sok_board.specs.Limits.{square_limit}
use Rattle.std.specs.Map.{keys_of}
use Rattle.sok_state.specs.declared.key.Key.{Key}
use Rattle.sok_state.proofs.Copied.{copies}
use Rattle.sok_state.proofs.store.in_bits.Goals as goal

pub insert-requires : goal.insert-requires
insert-requires c =
    let (form, fit, is) = c.forms.ensures c.in_ok-key.key (Contains-at (keys_of c.args.lists.now.entries) c.in_ok-key.key c.loop-index.index c.in_ok-key.ensures) in
    record { small = omega arith; room = subst (λ (k : Key). All (λ square. square < square_limit) k.boxes) is fit.taken.room }

pub loop-index-preserved : goal.loop-index-preserved
loop-index-preserved c = copies c.args.lists.now.entries c.loop-index.bits.entries c.insert.new.self.entries c.loop-index.index c.in_ok-key.key
    c.depth.result c.in_ok-insert.field-0.0 c.in_ok-insert.field-0.1 c.len-index-end.ensures.distinct c.loop-index.invariant c.in_ok-key.ensures
    c.depth.ensures c.in_ok-insert.ensures.inserted

use Rattle.std.proofs.Common.{arith, refl}
use Rattle.std.proofs.lemmas.List.{same_lists}
use Rattle.sok_bar.proofs.inners.are_same.Goals as goal

pub returns : goal.returns
returns c =
    let inner = c.args.inner.now in
    let past = c.loop-place-test.false in (
      λ _. same_lists inner c.args.other.now c.if-inner-other.false (λ k d within. c.loop-place.invariant k d (omega (arith, within, past))),
      λ _. refl,
    )

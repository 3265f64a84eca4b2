use Rattle.sok_search.proofs.reaching.ask.Goals as goal

pub loss_after-requires-clause-pushed : goal.loss_after-requires-clause-pushed
loss_after-requires-clause-pushed c =
    let moved = c.requires.step.moved in
    record { exist = moved.exist; there = moved.there; within = moved.within; free = moved.free }

use Rattle.sok_state.proofs.stepping.after.Goals as goal

pub returns : goal.returns
returns c = c.after.ensures.after

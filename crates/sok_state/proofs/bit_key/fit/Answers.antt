use Rattle.sok_state.proofs.bit_key.fit.Goals as goal

pub returns : goal.returns
returns c = λ r. (c.type_inv.words r).fits

use Rattle.sok_state.proofs.States.{tells-states}
use Rattle.sok_state.proofs.law.keys_tell_states.Goals as goal

pub returns : goal.returns
returns c = tells-states

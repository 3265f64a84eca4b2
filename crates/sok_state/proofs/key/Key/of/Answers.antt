use Rattle.std.proofs.Common.{List, ℕ, subst}
use Rattle.sok_state.specs.Keys.{TellsState}
use Rattle.sok_state.proofs.key.Key.of.Goals as goal

pub returns-clause-tells : goal.returns-clause-tells
returns-clause-tells c = subst (λ (boxes : List ℕ). TellsState c.args.board.now c.args.player boxes c.key_of.result) c.in_ok-copy.ensures.same
    c.key_of.ensures.tells

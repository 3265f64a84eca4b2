use Rattle.std.proofs.Common.{◌<◌, length, subst, sym}
use Rattle.sok_field.specs.Numbers.{Draws}
use Rattle.sok_state.proofs.normalizer.Normalizer.key.Goals as goal

pub key_over-requires-clause-drawn : goal.key_over-requires-clause-drawn
key_over-requires-clause-drawn c =
    let b = c.args.board.now in
    subst (Draws b (λ n. n < length b.area)) (sym c.copy_from.ensures) c.requires.of_board

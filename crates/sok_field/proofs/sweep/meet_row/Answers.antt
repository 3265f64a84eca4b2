use Rattle.std.proofs.Common.{get_or, bit_or}
use Rattle.sok_field.proofs.Stepping.{and-inside, GoesOn-met}
use Rattle.sok_field.proofs.sweep.meet_row.Goals as goal

pub stepped-word-requires : goal.stepped-word-requires
stepped-word-requires c = and-inside (get_or c.args.free.now c.args.r 0) (bit_or (get_or c.args.seen.now c.args.r 0) c.args.beside)

pub returns-clause-goes_on : goal.returns-clause-goes_on
returns-clause-goes_on c = λ start flood.
    GoesOn-met c.args.free.now c.args.seen.now start c.args.r c.args.beside c.stepped-word.result c.requires.row c.requires.beside c.stepped-word.ensures
    c.if-seeds-row.false flood

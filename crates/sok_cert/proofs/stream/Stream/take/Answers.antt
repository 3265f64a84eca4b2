use Rattle.std.proofs.Common.{◌++◌, subst, sym}
use Rattle.sok_cert.specs.Parts.{progressed_of}
use Rattle.sok_cert.specs.Streams.{StandsFor, Streamed}
use Rattle.sok_cert.proofs.stream.Stream.take.Goals as goal

pub invariant_of-result : goal.invariant_of-result
invariant_of-result c =
    let known = c.self.invariant in
    let text = known.3.0 in
    (known.0, known.1, c.in-Ok.ensures.of_board, (text ++ c.args.piece.now, c.in-Ok.ensures.stands text known.3.1))

pub returns-in-Ok-clause-stands : goal.returns-in-Ok-clause-stands
returns-in-Ok-clause-stands c = λ text stands.
    let here = subst (λ (s : Streamed). StandsFor s.board text s.progress) (sym c.self.view_is) stands in
    subst (λ (s : Streamed). StandsFor s.board (text ++ c.args.piece.now) (progressed_of c.take.new.self)) c.self.view_is
    (c.in-Ok.ensures.stands text here)

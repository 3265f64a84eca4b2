use Rattle.std.proofs.Common.{◌++◌}
use Rattle.std.proofs.lemmas.Result.{on_ok_weaker}
use Rattle.sok_cert.specs.Parts.{progressed_of}
use Rattle.sok_cert.proofs.Streaming.{StandsFor-same, IsTaken-start, IsTaken-line, IsTaken-on, IsTaken-all}
use Rattle.sok_cert.proofs.progress.Progress.take.Goals as goal

pub loop-part-init : goal.loop-part-init
loop-part-init c = record { taken = IsTaken-start c.args.setting.now.board.now (progressed_of c.args.self.now) c.args.piece.now; of_board = c.requires.of_board }

pub loop-part-preserved : goal.loop-part-preserved
loop-part-preserved c =
    let b = c.args.setting.now.board.now in
    let old = progressed_of c.args.self.now in
    let now = progressed_of c.loop-part.self in
    let ended = progressed_of c.end_line.new.self in
    let piece = c.args.piece.now in
    let behind = c.in-Some.behind.now in
    record {
      taken = IsTaken-on b old ended (progressed_of c.pass_known.new.self) piece behind c.in_ok-rest.rest.now
          (IsTaken-line b old now ended piece c.loop-part.rest.now c.in-Some.part.now behind c.loop-part.invariant.taken c.in-Some.ensures
          c.in_ok-end_line.ensures.stands)
          c.in_ok-rest.ensures.takes;
      of_board = c.in_ok-rest.ensures.of_board;
    }

pub returns-clause-stands : goal.returns-clause-stands
returns-clause-stands c = λ text stands.
    let b = c.args.setting.now.board.now in
    let old = progressed_of c.args.self.now in
    let now = progressed_of c.loop-part.self in
    let next = progressed_of c.keep.new.self in
    let piece = c.args.piece.now in
    let rest = c.loop-part.rest.now in
    let taken = c.loop-part.invariant.taken in
    on_ok_weaker c.keep.result
    (StandsFor-same b next ((text ++ taken.done) ++ rest) (text ++ piece) (IsTaken-all b old now piece rest taken text))
    (c.keep.ensures.stands b (text ++ taken.done) (taken.stands text stands))

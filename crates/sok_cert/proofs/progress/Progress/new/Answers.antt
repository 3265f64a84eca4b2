use Rattle.std.proofs.Common.{vec_len}
use Rattle.sok_cert.specs.Parts.{rostered_of}
use Rattle.sok_cert.proofs.Streaming.{stands-nothing}
use Rattle.sok_cert.proofs.progress.Progress.new.Goals as goal

pub returns-clause-nothing : goal.returns-clause-nothing
returns-clause-nothing c =
    stands-nothing c.args.board.now (vec_len c.new.result) c.new-2.result.items (rostered_of c.new-5.result) c.new-2.ensures.items
    c.new.ensures.len c.new-5.ensures.none

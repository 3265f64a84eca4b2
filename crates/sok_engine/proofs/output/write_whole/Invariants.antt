use Rattle.std.proofs.Common.{◌≡◌, ℕ, List, ◌++◌, length}
use Rattle.std.specs.Io.KnownBytes.{Appends}
use Rattle.sok_engine.proofs.output.write_whole.Given as goal

abbrev pub invariant-rest : goal.invariant-rest
invariant-rest g l = (done : List ℕ) × (l.initial.rest ≡ done ++ l.rest) × Appends (g.W.Write.contents l.initial.writer) (g.W.Write.contents l.writer) done

abbrev pub decreases-rest : goal.decreases-rest
decreases-rest g l = length l.rest

use Rattle.std.proofs.Common.{[], refl}
use Rattle.sok_near.proofs.Passing.{passed-none}
use Rattle.sok_near.proofs.scan.NearScan.new.Goals as goal

pub returns : goal.returns
returns c = passed-none [] _ c.new.ensures refl (record { first = c.new-2.ensures; count = refl })

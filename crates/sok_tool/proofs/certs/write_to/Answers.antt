use Rattle.std.proofs.Common.{refl}
use Rattle.sok_tool.proofs.certs.write_to.Goals as goal

pub returns-in-Ok : goal.returns-in-Ok
returns-in-Ok g c = (
  record { old = g.F.Output.Write.contents c.in_ok-file.file; new = g.F.Output.Write.contents c.write.new.out },
  c.in_ok-file.ensures.apart,
  (c.in_ok-file.file, c.write.new.out, c.in_ok-file.ensures.made, refl),
  c.in-Ok.ensures.ok,
)

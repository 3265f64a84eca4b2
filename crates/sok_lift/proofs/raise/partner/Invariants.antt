use Rattle.std.proofs.Common.{◌≡◌, IfNone, IfSome}
use Rattle.sok_lift.specs.Pairs.{IsMost, IsPartner}
use Rattle.sok_lift.proofs.raise.partner.Given as goal

abbrev pub invariant-loop-other : goal.invariant-loop-other
invariant-loop-other l = record {
  some : IfSome l.best (λ found. IsPartner l.lifts l.player l.boxes l.free l.one found.0 found.1);
  is : IfSome l.best (λ found. l.most ≡ found.1);
  none : IfNone l.best (l.most ≡ 0);
  most : IsMost l.lifts l.player l.boxes l.free l.one l.most l.other;
}

use Rattle.std.proofs.Common.{get_or}
use Rattle.sok_field.specs.Rounds.{from_high, from_low}
use Rattle.sok_field.proofs.Seams.{AreAcross}
use Rattle.sok_field.proofs.spread.spread_wide.Given as goal

abbrev pub invariant-loop-r : goal.invariant-loop-r
invariant-loop-r l = record {
  low : AreAcross (λ k. from_high (get_or l.seen_high k 0)) l.seen_low l.free_low l.out_low l.r;
  high : AreAcross (λ k. from_low (get_or l.seen_low k 0)) l.seen_high l.free_high l.out_high l.r;
}

use Rattle.std.proofs.Common.{◌≡◌, ◌<◌, get_or, length, true, false}
use Rattle.sok_field.specs.Crossings.{AreClosed}
use Rattle.sok_field.specs.Rounds.{from_high, from_low}
use Rattle.sok_field.proofs.Seams.{AreAcross}
use Rattle.sok_field.proofs.crossing.cross.Given as goal

abbrev pub invariant-loop-r : goal.invariant-loop-r
invariant-loop-r l = record {
  low : AreAcross (λ k. from_high (get_or l.initial.high k 0)) l.initial.low l.free_low l.low l.r;
  high : AreAcross (λ k. from_low (get_or l.initial.low k 0)) l.initial.high l.free_high l.high l.r;
  more : l.changed ≡ true → AreClosed l.free_low l.free_high l.initial.low l.initial.high → ⊥;
  first : l.changed ≡ true → l.news.first < length l.initial.low;
  last : l.changed ≡ true → l.news.last < length l.initial.low;
  same_low : l.news.low ≡ 0 → l.low ≡ l.initial.low;
  same_high : l.news.high ≡ 0 → l.high ≡ l.initial.high;
  same : l.changed ≡ false → (l.low ≡ l.initial.low) × (l.high ≡ l.initial.high);
}

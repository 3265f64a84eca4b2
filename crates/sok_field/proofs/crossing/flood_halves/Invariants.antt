use Rattle.std.proofs.Common.{◌≡◌, ◌<◌, ◌+◌, ◌-◌, length, sum}
use Rattle.sok_field.specs.Crossings.{IsWide}
use Rattle.sok_field.specs.Rounds.{IsClosed}
use Rattle.sok_field.proofs.Across.{AreFree}
use Rattle.sok_field.proofs.crossing.flood_halves.Given as goal

abbrev pub invariant-loop-more : goal.invariant-loop-more
invariant-loop-more l = record {
  free : AreFree l.free_low l.free_high;
  wide : IsWide l.free_low l.free_high l.fn.from l.low l.high;
  first : l.news.first < length l.free_low;
  last : l.news.last < length l.free_low;
  closed_low : l.news.low ≡ 0 → IsClosed l.low l.free_low;
  closed_high : l.news.high ≡ 0 → IsClosed l.high l.free_high;
}

abbrev pub decreases-loop-more : goal.decreases-loop-more
decreases-loop-more l = (sum l.free_low + sum l.free_high) - (sum l.low + sum l.high)

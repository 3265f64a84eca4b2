use Rattle.std.proofs.Common.{◌≡◌, ◌++◌, All, decimal, length, map}
use Rattle.std.specs.List.{slice_split}
use Rattle.sok_entry.specs.Text.{IsSmall}
use Rattle.sok_entry.specs.Reading.{is_space}
use Rattle.sok_entry.proofs.number.read_numbers.Given as goal

abbrev pub invariant-loop-number : goal.invariant-loop-number
invariant-loop-number l = record {
  small : All IsSmall l.numbers.items;
  split : slice_split is_space l.text ≡ map decimal l.numbers.items ++ slice_split is_space l.rest;
}

abbrev pub decreases-loop-number : goal.decreases-loop-number
decreases-loop-number l = length l.rest

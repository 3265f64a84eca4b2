use Rattle.std.proofs.Common.{◌≡◌, ◌≤◌, ◌++◌, take, vec_capacity}
use Rattle.sok_entry.specs.Text.{spaced}
use Rattle.sok_entry.proofs.writing.push_numbers.Given as goal

abbrev pub invariant-loop-number : goal.invariant-loop-number
invariant-loop-number l = record {
  items : l.text.items ≡ l.fn.text.items ++ spaced (take l.number-index l.numbers);
  room : vec_capacity l.fn.text ≤ vec_capacity l.text;
}

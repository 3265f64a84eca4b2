use Rattle.std.proofs.Common.{◌≡◌, ◌≤◌, ◌++◌, map, take, vec_capacity}
use Rattle.std.specs.List.{flat_map}
use Rattle.sok_entry.specs.Text.{ended, inner_line}
use Rattle.sok_entry.proofs.writing.push_inner_lines.Given as goal

abbrev pub invariant-loop-position : goal.invariant-loop-position
invariant-loop-position l = record {
  items : l.text.items ≡ l.fn.text.items ++ flat_map ended (map inner_line (take l.position-index l.inner));
  room : vec_capacity l.fn.text ≤ vec_capacity l.text;
}

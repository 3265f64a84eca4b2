use Rattle.std.proofs.Common.{◌*◌, ◌≤◌, length}
use Rattle.std.specs.Prelude.{vec_capacity, vec_len}
use Rattle.sok_state.proofs.Listed.{IsListing}
use Rattle.sok_state.proofs.legal.list_pushes.Given as goal

abbrev pub invariant-loop-from : goal.invariant-loop-from
invariant-loop-from l = record {
  listing : IsListing l.board l.key l.from-index l.pushes.items;
  few : vec_len l.pushes ≤ l.from-index * 4;
  room : length l.key.boxes * 4 ≤ vec_capacity l.pushes;
}

use Rattle.std.proofs.Common.{length, ◌≡◌, ◌++◌, map}
use Rattle.std.specs.Str.Lines.{lines}
use Rattle.sok_text.specs.declared.kind.Kind.TheVariants.{Note}
use Rattle.sok_text.specs.Kinds.{StartsOther}
use Rattle.sok_text.specs.Collections.{parts_of}
use Rattle.sok_text.proofs.collection.Collection.read.Given as goal

abbrev pub invariant-loop-here : goal.invariant-loop-here
invariant-loop-here l = record {
  starts : StartsOther Note (lines l.here.rest.now);
  so_far : parts_of (lines l.text) ≡ record {
    notes = lines l.notes;
    boards = map (λ part. record { board = lines part.board.now; after = lines part.after.now }) l.parts.items ++ (parts_of (lines l.here.rest.now)).boards;
  };
}

abbrev pub decreases-loop-here : goal.decreases-loop-here
decreases-loop-here l = length l.here.rest.now

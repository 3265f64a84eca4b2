use Rattle.std.proofs.Common.{◌++◌, map, sym, ◌∙◌, ap, subst}
use Rattle.std.proofs.lemmas.List.{map_push}
use Rattle.std.specs.Str.Lines.{lines}
use Rattle.sok_text.specs.declared.collection.Part.{Part}
use Rattle.sok_text.specs.declared.kind.Kind.TheVariants.{Note}
use Rattle.sok_text.specs.Kinds.{StartsOther}
use Rattle.sok_text.specs.Lines.{Passes}
use Rattle.sok_text.proofs.Lines.{lines-first}
use Rattle.sok_text.specs.Collections.{parts_of}
use Rattle.sok_text.proofs.Blocks.{parts_of-start, parts_of-more, length-board_passed}
use Rattle.sok_text.proofs.Runs.{not_empty, take-Passes}
use Rattle.sok_text.proofs.collection.Collection.read.Goals as goal

pub loop-here-init : goal.loop-here-init
loop-here-init c =
    let passed : Passes Note c.args.text.now c.pass-first.result.rest.now =
    subst (λ text. Passes Note text c.pass-first.result.rest.now) c.place_at.ensures c.pass-first.ensures.passes in
    let notes = sym (take-Passes Note c.args.text.now c.pass-first.result.rest.now passed) ∙ sym c.before-notes.ensures in
    record {
      starts = c.pass-first.ensures.ends;
      so_far = parts_of-start c.args.text.now c.pass-first.result.rest.now passed c.pass-first.ensures.ends
          ∙ (λ i. record {
            notes = lines (notes i);
            boards = map (λ part. record { board = lines part.board.now; after = lines part.after.now }) (sym c.new-parts.ensures.items i) ++
                (parts_of (lines c.pass-first.result.rest.now)).boards;
          });
    }

pub pass_board-behind-requires : goal.pass_board-behind-requires
pass_board-behind-requires c =
    let some = not_empty c.loop-here.here.rest.now (sym c.is_empty.ensures ∙ c.loop-here-test.true) in
    record {
      full = some;
      begins = subst (StartsOther Note) (lines-first c.loop-here.here.rest.now some) c.loop-here.invariant.starts;
    }

pub loop-here-smaller : goal.loop-here-smaller
loop-here-smaller c =
    length-board_passed c.loop-here.here.rest.now c.pass_board-behind.result.rest.now c.pass-next.result.rest.now c.pass_board-behind.ensures c.pass-next.ensures.passes

pub loop-here-preserved : goal.loop-here-preserved
loop-here-preserved c =
    let here = c.loop-here.here.rest.now in
    let behind = c.pass_board-behind.result.rest.now in
    let next = c.pass-next.result.rest.now in
    let notes = lines c.before-notes.result.now in
    let grown = sym (map_push (λ (part : Part). record { board = lines part.board.now; after = lines part.after.now }) c.loop-here.parts.items
    (record { board = c.before-board.result; after = c.before-after.result }))
    ∙ ap (map (λ (part : Part). record { board = lines part.board.now; after = lines part.after.now })) (sym c.in_ok-push.ensures.items) in
    record {
      starts = c.pass-next.ensures.ends;
      so_far = parts_of-more (parts_of (lines c.args.text.now)) notes _ here behind next c.before-board.result.now c.before-after.result.now
          c.pass_board-behind.ensures c.pass-next.ensures.passes c.pass-next.ensures.ends c.before-board.ensures c.before-after.ensures
          c.loop-here.invariant.so_far
          ∙ ap (λ done. record { notes = notes; boards = done ++ (parts_of (lines next)).boards }) grown;
    }

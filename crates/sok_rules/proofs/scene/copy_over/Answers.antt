use Rattle.std.proofs.Common.{ℕ, List, Vec, ◌<◌, ◌∙◌, sym, ap, arith, length}
use Rattle.std.proofs.lemmas.List.{length-map}
use Rattle.sok_rules.specs.declared.cell.Cell.{Cell}
use Rattle.sok_rules.specs.Levels.{cells_of}
use Rattle.sok_rules.proofs.Rows.{cells_of_copied_over_more, same_length-cells_of, shape-set}
use Rattle.sok_rules.proofs.scene.copy_over.Goals as goal

pub copy_from_slice-requires : goal.copy_from_slice-requires
copy_from_slice-requires c =
    let old = c.index_mut.result.now in
    let same = same_length-cells_of c.args.rows.now c.loop-place.cells.items c.loop-place.place c.index-rows-place.result old c.loop-place.invariant.shape
    c.index-rows-place.is c.index_mut.ensures.value (omega arith) in
    omega (arith, same, old.ok.0, c.deref.ensures)

pub loop-place-preserved : goal.loop-place-preserved
loop-place-preserved c =
    let rows = c.args.rows.now in
    let old = c.args.cells.now.items in
    let size : List Cell → ℕ = λ line. length line in
    let lengths = ap length c.requires in
    let within_old : c.loop-place.place < length (cells_of old) =
    omega (arith, lengths, length-map (cells_of old) size, length-map (cells_of rows) size, length-map rows (λ (v : Vec Cell _). v.items)) in
    let copied = c.copy_from_slice.ensures.items ∙ c.deref.ensures.value in
    let row = c.index-rows-place.result in
    let same = same_length-cells_of rows c.loop-place.cells.items c.loop-place.place row c.index_mut.result.now c.loop-place.invariant.shape
    c.index-rows-place.is c.index_mut.ensures.value (omega arith) in
    record {
      written = cells_of_copied_over_more (cells_of old) rows c.loop-place.cells.items c.loop-place.place row c.copy_from_slice.new.self
          (omega arith) within_old c.loop-place.invariant.written c.index-rows-place.is copied;
      shape = shape-set (cells_of rows) c.loop-place.cells.items c.loop-place.place c.index_mut.result.now c.copy_from_slice.new.self
          c.loop-place.invariant.shape c.index_mut.ensures.value (ap length copied ∙ sym same);
    }

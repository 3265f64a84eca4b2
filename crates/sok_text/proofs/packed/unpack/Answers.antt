use Rattle.std.proofs.Common.{arith}
use Rattle.std.proofs.lemmas.Bool.Decides.{nat_tests}
use Rattle.std.proofs.lemmas.List.{length-map}
use Rattle.sok_rules.specs.Levels.{cells_of}
use Rattle.sok_text.proofs.Unpacking.{AreUnpacked-more, level_of-many, level_of-unpacked}
use Rattle.sok_text.proofs.packed.unpack.Goals as goal
use Rattle.sok_text.proofs.packed.unpack.Goals.{then-loop-rows-test+else-len-le-LIMIT, else-loop-rows-test}

pub loop-rows-preserved : goal.loop-rows-preserved
loop-rows-preserved c =
    AreUnpacked-more c.args.line.now c.loop-rows.left.now c.cut_part.result.0.now c.cut_part.result.1.now c.loop-rows.rows.items c.push.new.self.items
    c.in_ok-row_of.field-0 c.loop-rows.invariant c.cut_part.ensures.parts c.in_ok-row_of.ensures c.in_ok-push.ensures.items

pub returns : goal.returns
returns c =
    let line = c.args.line.now in
    let left = c.loop-rows.left.now in
    let rows = cells_of c.loop-rows.rows.items in
    elim c.loop-rows-test.branch [
      | then-loop-rows-test+else-len-le-LIMIT w ↦ level_of-many line left rows c.loop-rows.invariant
          (omega (arith, length-map c.loop-rows.rows.items (λ r. r.items)))
      | else-loop-rows-test w ↦ level_of-unpacked line left rows c.loop-rows.invariant (grind (arith, nat_tests))
    ]

use Rattle.std.proofs.Common.{◌≡◌, ◌≢◌, ◌+◌, ◌≤◌, ◌⊎◌, ◌++◌, ◌-◌, true≢false, vec_len, length, replicate, min, sym, ◌∙◌, arith, inl, inr}
use Rattle.std.proofs.lemmas.Bool.Decides.{nat_tests}
use Rattle.sok_rules.specs.Limits.{size_limit}
use Rattle.sok_rules.specs.declared.cell.Cell.TheVariants.{Floor}
use Rattle.sok_text.specs.Counts.{times}
use Rattle.sok_text.proofs.Unpacking.{IsLike-end, IsLike-wide, IsUnpacked-more, IsUnpacked-other, cells-digits, cells-none}
use Rattle.sok_text.proofs.Filling.{filled}
use Rattle.sok_text.proofs.Runs.{not_empty}
use Rattle.sok_text.proofs.packed.row_of.Goals as goal
use Rattle.sok_text.proofs.packed.row_of.Goals.{else-len-gt-LIMIT-via-then-len-gt-LIMIT+else-not-is_floor, else-len-gt-LIMIT-via-else-len-gt-LIMIT}

pub returns-in_default : goal.returns-in_default
returns-in_default c =
    let left = c.loop-left.left.now in
    let cut = c.cut_digits.ensures in
    IsLike-end c.args.part.now left c.loop-left.row.items c.loop-left.invariant
    (cells-digits left c.cut_digits.result.0.now c.cut_digits.result.1.now (not_empty left (sym c.is_empty.ensures ∙ c.loop-left-test.true)) cut.whole cut.digits
    (omega arith))

pub loop-left-preserved-in_default-cell_of : goal.loop-left-preserved-in_default-cell_of
loop-left-preserved-in_default-cell_of c =
    let cut = c.cut_digits.ensures in
    IsUnpacked-other c.args.part.now c.loop-left.left.now c.cut_digits.result.0.now c.cut_digits.result.1.now c.loop-left.row.items c.loop-left.invariant
    cut.whole cut.digits cut.behind (omega arith) (sym c.cell_of.ensures ∙ c.in_default-cell_of.is)

pub returns : goal.returns
returns c =
    IsLike-end c.args.part.now c.loop-left.left.now c.loop-left.row.items c.loop-left.invariant
    (cells-none c.loop-left.left.now (grind (arith, nat_tests)))

pub returns-then-not-is_floor : goal.returns-then-not-is_floor
returns-then-not-is_floor c =
    let row = c.loop-left.row in
    let cell = c.in-Some.cell in
    let cut = c.cut_digits.ensures in
    let full : cell ≢ Floor = λ floor. true≢false (sym (c.is_floor.ensures.1 floor) ∙ c.if-not-is_floor.true) in
    let grown : c.resize.new.self.items ≡ row.items ++ replicate ((size_limit + 1) - length row.items) cell =
    c.in_ok-resize.ensures.items ∙ filled row.items cell (size_limit + 1) (vec_len row) ((size_limit + 1) - length row.items) (omega arith) (omega (arith, c.loop-left.invariant.short)) in
    IsLike-wide c.args.part.now c.loop-left.left.now c.cut_digits.result.0.now c.cut_digits.result.1.now row.items c.resize.new.self.items cell
    c.loop-left.invariant cut.whole cut.digits cut.behind (omega arith) (sym c.cell_of.ensures ∙ c.in-Some.is) full (omega arith) grown

pub loop-left-preserved : goal.loop-left-preserved
loop-left-preserved c =
    let row = c.loop-left.row in
    let cell = c.in-Some.cell in
    let cut = c.cut_digits.ensures in
    let t = times c.cut_digits.result.0.now in
    let short = c.loop-left.invariant.short in
    let room : c.min.result ≡ min (length row.items + t) size_limit = omega arith in
    let grown : c.resize-in-loop-left.new.self.items ≡ row.items ++ replicate (c.min.result - length row.items) cell =
    c.in_ok-resize-2.ensures.items ∙ filled row.items cell c.min.result (vec_len row) (c.min.result - length row.items) (omega arith) (omega arith) in
    let fits : (cell ≡ Floor) ⊎ (length row.items + t ≤ size_limit) = elim c.else-len-gt-LIMIT.branch [
      | else-len-gt-LIMIT-via-then-len-gt-LIMIT+else-not-is_floor w ↦ inl (w.is_floor.ensures.0 w.if-not-is_floor.false)
      | else-len-gt-LIMIT-via-else-len-gt-LIMIT w ↦ inr (omega arith)
    ] in
    IsUnpacked-more c.args.part.now c.loop-left.left.now c.cut_digits.result.0.now c.cut_digits.result.1.now row.items c.resize-in-loop-left.new.self.items cell
    c.min.result c.loop-left.invariant cut.whole cut.digits cut.behind (omega arith) (sym c.cell_of.ensures ∙ c.in-Some.is) fits room grown

use Rattle.std.proofs.Common.{◌∙◌, sym, true≢false}
use Rattle.sok_search.specs.Faults.{IsBadLimit, IsAcceptedWithin}
use Rattle.sok_search.proofs.Refusing.{handed-on, in-range, told-answer, told-board}
use Rattle.sok_search.proofs.solve.accept.Goals as goal

pub returns-in_err-board-clause-tells : goal.returns-in_err-board-clause-tells
returns-in_err-board-clause-tells c =
    let good : IsBadLimit c.args.limit → ⊥ = λ bad. true≢false (sym (c.is_bad.ensures.1 bad) ∙ c.if-is_bad.false) in
    handed-on c.args.level.now c.args.limit _ c.from_residual.result c.from_residual.ensures.1
    (told-board _ c.args.level.now c.args.limit good c.in_err-board.field-0.0 c.in_err-board.ensures.refused)

pub returns : goal.returns
returns c =
    let (positive, small) = in-range c.args.limit (λ bad. true≢false (sym (c.is_bad.ensures.1 bad) ∙ c.if-is_bad.false)) in
    let within : IsAcceptedWithin c.args.level.now c.args.limit c.in_ok-board.board = record {
      rows_are = c.in_ok-board.ensures.rows;
      accepted = c.in_ok-board.ensures.accepted;
      positive = positive;
      small = small;
    } in
    record { board = within; tells = told-answer c.args.level.now c.args.limit c.in_ok-board.board c.in_ok-board.board within }

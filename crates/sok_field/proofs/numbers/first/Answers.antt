use Rattle.std.proofs.Common.{arith}
use Rattle.sok_field.proofs.ByNumber.{IsLeast-first}
use Rattle.sok_field.proofs.OneSquare.{has-within}
use Rattle.sok_field.proofs.numbers.first.Goals as goal

pub overflow_mul-result : goal.overflow_mul-result
overflow_mul-result c =
    let row = has-within c.args.words.now c.in-Some.bit c.in-Some.ensures.first.among in
    omega (arith, row)

pub overflow_add-result : goal.overflow_add-result
overflow_add-result c =
    let row = has-within c.args.words.now c.in-Some.bit c.in-Some.ensures.first.among in
    let col = c.in-Some.ensures.narrow in
    omega (arith, row, col)

pub overflow_cast-result : goal.overflow_cast-result
overflow_cast-result c =
    let row = has-within c.args.words.now c.in-Some.bit c.in-Some.ensures.first.among in
    let col = c.in-Some.ensures.narrow in
    omega (arith, row, col)

pub returns-in-Some : goal.returns-in-Some
returns-in-Some c =
    let col = c.in-Some.ensures.narrow in
    IsLeast-first c.args.words.now c.in-Some.bit col c.in-Some.ensures.first

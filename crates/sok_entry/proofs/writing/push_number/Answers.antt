use Rattle.std.proofs.Common.{ℕ, ◌≡◌, ◌∙◌, ◌+◌, ◌/◌, ◌%◌, ◌<◌, ◌≤◌, [], ◌∷◌, ◌++◌, ap, arith, decimal, length, rules}
use Rattle.std.proofs.lemmas.Fmt.{decimal_digit}
use Rattle.std.proofs.lemmas.List.{length-append}
use Rattle.std.proofs.lemmas.Result.{on_err_weaker}
use Rattle.itoa.proofs.Decimal.{decimal_pair, decimal_two, length_one, length_two, pair}
use Rattle.sok_entry.proofs.writing.push_number.Goals as goal

-- of one digit
pub returns-then-number-lt10-clause-number : goal.returns-then-number-lt10-clause-number
returns-then-number-lt10-clause-number c = rw (decimal_digit c.args.number c.if-number-lt10.true) (search rules)

pub returns-then-number-lt10-clause-full : goal.returns-then-number-lt10-clause-full
returns-then-number-lt10-clause-full c =
    let one = length_one c.args.number c.if-number-lt10.true in
    on_err_weaker c.extend_from_slice.result (λ full. omega (arith, full, one, length-append (decimal c.args.number) [])) c.extend_from_slice.ensures.full

-- of two digits
pub returns-then-number-lt100-clause-number : goal.returns-then-number-lt100-clause-number
returns-then-number-lt100-clause-number c = rw (decimal_two c.args.number c.if-number-lt10.false c.if-number-lt100.true) (search rules)

pub returns-then-number-lt100-clause-full : goal.returns-then-number-lt100-clause-full
returns-then-number-lt100-clause-full c =
    let two = length_two c.args.number c.if-number-lt10.false c.if-number-lt100.true in
    on_err_weaker c.extend_from_slice-then-number-lt100.result (λ full. omega (arith, full, two, length-append (decimal c.args.number) [])) c.extend_from_slice-then-number-lt100.ensures.full

-- of three digits
decimal_three : (n : ℕ) → 100 ≤ n → n < 1000 → decimal n ≡ (48 + n / 100) ∷ pair (n % 100)
decimal_three n least few = decimal_pair n least (omega (arith, few)) ∙ ap (λ front. front ++ pair (n % 100)) (decimal_digit (n / 100) (omega (arith, few)))

pub returns-then-number-lt1000-clause-number : goal.returns-then-number-lt1000-clause-number
returns-then-number-lt1000-clause-number c = rw (decimal_three c.args.number c.if-number-lt100.false c.if-number-lt1000.true) (search rules)

pub returns-then-number-lt1000-clause-full : goal.returns-then-number-lt1000-clause-full
returns-then-number-lt1000-clause-full c =
    let three = ap length (decimal_three c.args.number c.if-number-lt100.false c.if-number-lt1000.true) in
    on_err_weaker c.extend_from_slice-then-number-lt1000.result (λ full. omega (arith, full, three, length-append (decimal c.args.number) [])) c.extend_from_slice-then-number-lt1000.ensures.full

use Rattle.std.proofs.Common.{arith, rules, sym}
use Rattle.sok_rules.specs.Squares.{is_man, is_astray}
use Rattle.sok_rules.proofs.Proper.{count_by-fits}
use Rattle.sok_rules.proofs.Rows.{fault_of-cells_of}
use Rattle.sok_rules.proofs.level.fault_in.Goals as goal

pub census_of-men-requires-clause-few_men : goal.census_of-men-requires-clause-few_men
census_of-men-requires-clause-few_men c =
    omega (arith, count_by-fits (λ row. row.items) is_man c.args.rows.now c.if-rows-gt-LIMIT.false (sym c.if-has_long_row.ensures))

pub census_of-men-requires-clause-few_astray : goal.census_of-men-requires-clause-few_astray
census_of-men-requires-clause-few_astray c =
    omega (arith, count_by-fits (λ row. row.items) is_astray c.args.rows.now c.if-rows-gt-LIMIT.false (sym c.if-has_long_row.ensures))

pub returns-then-rows-gt-LIMIT : goal.returns-then-rows-gt-LIMIT
returns-then-rows-gt-LIMIT c = rw fault_of-cells_of (search rules)

pub returns-then-has_long_row : goal.returns-then-has_long_row
returns-then-has_long_row c = rw fault_of-cells_of (search rules)

pub returns-in-Some : goal.returns-in-Some
returns-in-Some c = rw fault_of-cells_of (search rules)

pub returns-then-men-eq0 : goal.returns-then-men-eq0
returns-then-men-eq0 c = rw fault_of-cells_of (search rules)

pub returns-then-men-gt1 : goal.returns-then-men-gt1
returns-then-men-gt1 c = rw fault_of-cells_of (search rules)

pub returns-then-has_box : goal.returns-then-has_box
returns-then-has_box c = rw fault_of-cells_of (search rules)

pub returns-else-has_box : goal.returns-else-has_box
returns-else-has_box c = rw fault_of-cells_of (search rules)

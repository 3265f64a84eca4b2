use Rattle.std.proofs.Common.{◌≡◌, true, IsSomeAnd, ◌∙◌, sym, arith, subst, count_by}
use Rattle.sok_rules.specs.Squares.{holds, is_man, is_astray}
use Rattle.sok_rules.specs.Levels.{cells_of}
use Rattle.sok_rules.proofs.Man.{IsScene-from_IsProper, few_counted}
use Rattle.sok_rules.proofs.Rows.{sum_by-cells_of}
use Rattle.sok_rules.proofs.scene.look_over.Goals as goal

pub census_of-requires-clause-few_men : goal.census_of-requires-clause-few_men
census_of-requires-clause-few_men c = omega (arith, few_counted is_man c.args.rows.now c.requires)

pub census_of-requires-clause-few_astray : goal.census_of-requires-clause-few_astray
census_of-requires-clause-few_astray c = omega (arith, few_counted is_astray c.args.rows.now c.requires)

pub returns : goal.returns
returns c =
    let rows = cells_of c.args.rows.now in
    IsScene-from_IsProper rows c.unwrap.result c.census_of.result.astray c.requires
    (subst (λ o. IsSomeAnd o (λ man. holds is_man rows man ≡ true)) c.unwrap.ensures c.man_in.ensures)
    (c.census_of.ensures.astray ∙ sym (sum_by-cells_of (count_by is_astray) c.args.rows.now))

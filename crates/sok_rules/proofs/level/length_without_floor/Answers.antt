use Rattle.std.proofs.Common.{◌≡◌, ◌+◌, ◌-◌, take, ap, sym, ◌∙◌, arith, true≢false}
use Rattle.sok_rules.specs.Levels.{trimmed}
use Rattle.sok_rules.proofs.Rows.{trimmed-take_floor, trimmed-take_other}
use Rattle.sok_rules.proofs.level.length_without_floor.Goals as goal
use Rattle.sok_rules.proofs.level.length_without_floor.Goals.{in-Floor, in_default}

pub loop-kept-preserved : goal.loop-kept-preserved
loop-kept-preserved c =
    let row = c.args.row.now in
    let kept = c.loop-kept.kept in
    let one_more : kept ≡ (kept - 1) + 1 = omega arith in
    elim c.match-matches.branch [
      | in_default w ↦ absurd (true≢false (sym c.if-matches.true ∙ w.matches-is))
      | in-Floor w ↦ record {
        within = omega arith;
        rest_is_floor = c.loop-kept.invariant.rest_is_floor ∙ ap (λ n. trimmed (take n row)) one_more
            ∙ trimmed-take_floor row (kept - 1) _ (omega arith) w.in-Floor.is;
      }
    ]

pub returns-else-matches : goal.returns-else-matches
returns-else-matches c =
    let row = c.args.row.now in
    let kept = c.loop-kept.kept in
    let one_more : kept ≡ (kept - 1) + 1 = omega arith in
    elim c.match-matches.branch [
      | in-Floor w ↦ absurd (true≢false (sym w.matches-is ∙ c.if-matches.false))
      | in_default w ↦
          ap (λ n. take n row) one_more ∙ trimmed-take_other row (kept - 1) _ (omega arith) w.in_default.not-Floor
          ∙ ap (λ n. trimmed (take n row)) (sym one_more) ∙ sym c.loop-kept.invariant.rest_is_floor
    ]

use Rattle.std.proofs.Common.{ℕ, ◌≡◌, ◌<◌, ◌∙◌, inl, inr, List, true, length, ap, arith, subst, sym}
use Rattle.std.proofs.lemmas.Bool.{cases_lt}
use Rattle.sok_rules.specs.declared.cell.Spot.{Spot}
use Rattle.sok_field.specs.Crossings.{IsWide}
use Rattle.sok_field.specs.Fields.{has}
use Rattle.sok_field.specs.Halves.{halves, within}
use Rattle.sok_field.specs.Rounds.{IsClosed}
use Rattle.sok_field.proofs.Across.{AreFree, put-high, put-low, sum-flooded, sum-wide, wide-crossed, wide-exact, wide-high, wide-low, wide-more}
use Rattle.sok_field.proofs.Halves.{has-lower, has-upper}
use Rattle.sok_field.proofs.OneSquare.{has-within}
use Rattle.sok_field.proofs.Spreading.{has-col}
use Rattle.sok_field.proofs.crossing.flood_halves.Goals as goal
use Rattle.sok_field.proofs.crossing.flood_halves.Goals.{After-cross, then-from-lt-COLUMNS, else-from-lt-COLUMNS}

-- a square of both halves lies in a row that they have
row-within : (low high : List ℕ) (s : Spot) → length high ≡ length low → has (halves low high) s ≡ true → s.row < length low
row-within low high s same there = elim (cases_lt s.col 64) [
  | inl inside ↦ has-within low s (sym (has-lower low high s inside) ∙ there)
  | inr past ↦ let row = has-within high (within s) (sym (has-upper low high s past) ∙ there) in omega (arith, same, row)
]

pub put-requires-clause-row : goal.put-requires-clause-row
put-requires-clause-row c =
    let low = c.args.free_low.now in
    let there = sym (has-lower low c.args.free_high.now c.args.from c.if-from-lt-COLUMNS.true) ∙ c.requires.from in
    let inside = has-within low c.args.from there in
    omega (arith, inside)

pub put-requires-else-from-lt-COLUMNS-clause-row : goal.put-requires-else-from-lt-COLUMNS-clause-row
put-requires-else-from-lt-COLUMNS-clause-row c =
    let high = c.args.free_high.now in
    let there = sym (has-upper c.args.free_low.now high c.args.from (omega arith)) ∙ c.requires.from in
    let inside = has-within high (within c.args.from) there in
    let row = ap (λ (s : Spot). s.row) c.within.ensures in
    omega (arith, inside, row)

pub put-requires-else-from-lt-COLUMNS-clause-col : goal.put-requires-else-from-lt-COLUMNS-clause-col
put-requires-else-from-lt-COLUMNS-clause-col c =
    let high = c.args.free_high.now in
    let there = sym (has-upper c.args.free_low.now high c.args.from (omega arith)) ∙ c.requires.from in
    let inside = has-col high (within c.args.from) (c.type_inv.free_high c.args.from.row).fits there in
    let col = ap (λ (s : Spot). s.col) c.within.ensures in
    omega (arith, inside, col)

pub loop-more-init : goal.loop-more-init
loop-more-init c =
    let free_low = c.args.free_low.now in
    let free_high = c.args.free_high.now in
    let free : AreFree free_low free_high = record {
      same = c.requires.free;
      words_low = λ r. (c.type_inv.free_low r).fits;
      words_high = λ r. (c.type_inv.free_high r).fits;
    } in
    record {
      free = free;
      wide = elim c.if-from-lt-COLUMNS.branch [
        | then-from-lt-COLUMNS w ↦ subst (λ (T : Type 0). T) (λ i. IsWide free_low free_high c.args.from (sym w.low-is i) (sym w.high-is i))
            (put-low free c.args.from c.args.low.now w.put.new.rows c.args.high.now (omega arith) c.requires.high w.if-from-lt-COLUMNS.true
            c.requires.blank_low c.requires.blank_high w.put.ensures c.requires.from)
        | else-from-lt-COLUMNS w ↦ subst (λ (T : Type 0). T) (λ i. IsWide free_low free_high c.args.from (sym w.low-is i) (sym w.high-is i))
            (put-high free c.args.from w.within.result c.args.high.now c.args.low.now w.put-else-from-lt-COLUMNS.new.rows c.requires.low (omega arith)
            (omega (arith, w.if-from-lt-COLUMNS.false)) w.within.ensures c.requires.blank_high c.requires.blank_low w.put-else-from-lt-COLUMNS.ensures
            c.requires.from)
      ];
      first = row-within free_low free_high c.args.from c.requires.free c.requires.from;
      last = row-within free_low free_high c.args.from c.requires.free c.requires.from;
      closed_low = λ e. absurd (omega (arith, e));
      closed_high = λ e. absurd (omega (arith, e));
    }

-- each half is flooded
both : (c : After-cross) → IsWide c.args.free_low.now c.args.free_high.now c.args.from c.flood_rows.new.seen c.flood_rows-in-loop-more.new.seen
both c =
    let free = c.loop-more.invariant.free in
    let low = wide-low free c.loop-more.invariant.wide c.flood_rows.new.seen (omega arith) c.flood_rows.ensures.reaches in
    wide-high free low c.flood_rows-in-loop-more.new.seen (omega arith) c.flood_rows-in-loop-more.ensures.reaches

pub loop-more-preserved : goal.loop-more-preserved
loop-more-preserved c = record {
  free = c.loop-more.invariant.free;
  wide = wide-crossed c.loop-more.invariant.free (both ((goal.at.loop-more-preserved c).After-cross)) c.cross.ensures.crossed;
  first = omega (arith, c.in-Some.ensures.first);
  last = omega (arith, c.in-Some.ensures.last);
  closed_low = λ e. subst (λ rows. IsClosed rows c.args.free_low.now) (sym (c.in-Some.ensures.same_low e)) c.flood_rows.ensures.closed;
  closed_high = λ e. subst (λ rows. IsClosed rows c.args.free_high.now) (sym (c.in-Some.ensures.same_high e)) c.flood_rows-in-loop-more.ensures.closed;
}

pub returns-in_default : goal.returns-in_default
returns-in_default c =
    let free = c.loop-more.invariant.free in
    wide-exact free (wide-crossed free (both ((goal.at.returns-in_default c).After-cross)) c.cross.ensures.crossed) c.in_default.ensures.closed

pub loop-more-smaller : goal.loop-more-smaller
loop-more-smaller c =
    let free = c.loop-more.invariant.free in
    let flooded = both ((goal.at.loop-more-smaller c).After-cross) in
    let rises = sum-flooded c.args.free_low.now c.loop-more.low c.flood_rows.new.seen (omega arith) c.flood_rows.ensures.reaches in
    let rises_too = sum-flooded c.args.free_high.now c.loop-more.high c.flood_rows-in-loop-more.new.seen (omega arith) c.flood_rows-in-loop-more.ensures.reaches in
    let more = wide-more free flooded c.cross.ensures.crossed c.in-Some.ensures.more in
    let inside = sum-wide free (wide-crossed free flooded c.cross.ensures.crossed) in
    omega (arith, rises, rises_too, more, inside)

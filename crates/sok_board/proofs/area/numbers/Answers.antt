use Rattle.std.proofs.Common.{ℕ, Option, ◌≡◌, ◌<◌, None, Some, ap, ◌∙◌, arith, get_or, length, set}
use Rattle.std.proofs.lemmas.List.{get_or_default, length-set, length-replicate}
use Rattle.sok_rules.specs.declared.cell.Spot.{Spot}
use Rattle.sok_board.specs.Tables.{table_places, entry}
use Rattle.sok_board.proofs.AreaLaws.{origin}
use Rattle.sok_board.proofs.Numbering.{numbers_more}
use Rattle.sok_board.proofs.Tables.{clone-None, entry-replicate}
use Rattle.sok_board.proofs.area.numbers.Goals as goal

pub loop-number-init : goal.loop-number-init
loop-number-init c =
    let blank = c.in_ok-numbers.ensures.items_if_clones_equal (clone-None _ (λ x e. e)) in
    let places = table_places (length c.args.level.now) in
    let whole : length c.in_ok-numbers.numbers.items ≡ places = ap length blank ∙ length-replicate {0} {A = Option ℕ} c.place_count.result None ∙ c.place_count.ensures in
    (whole, λ s. entry-replicate None c.place_count.result c.in_ok-numbers.numbers.items blank s)

pub loop-number-preserved : goal.loop-number-preserved
loop-number-preserved c =
    let squares = c.args.squares.now in
    let numbers = c.loop-number.numbers.items in
    let n = c.loop-number.number in
    let x : Spot = get_or squares n origin in
    let inside : n < length squares = omega arith in
    let whole = c.loop-number.invariant.0 in (
      length-set numbers c.place.result (Some n) ∙ whole,
      λ s. ap (λ place. entry None (set numbers place (Some n)) s) c.place.ensures
          ∙ numbers_more (length c.args.level.now) squares numbers n x c.requires.within c.requires.in_order inside
          (get_or_default squares n x origin inside) whole c.loop-number.invariant.1 s,
    )

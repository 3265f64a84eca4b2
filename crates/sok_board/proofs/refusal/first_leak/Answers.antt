use Rattle.std.proofs.Common.{◌≡◌, ◌<◌, arith, sym, false, length, get_or}
use Rattle.std.proofs.lemmas.List.{get_or_default}
use Rattle.std.proofs.lemmas.List.Elements.{All-more}
use Rattle.sok_rules.specs.declared.cell.Spot.{Spot}
use Rattle.sok_board.specs.Refusals.{has_gap}
use Rattle.sok_board.proofs.AreaLaws.{origin}
use Rattle.sok_board.proofs.Inside.{HasPlace-InArea}
use Rattle.sok_board.proofs.Refusals.{first_leak-some, first_leak-none}
use Rattle.sok_board.proofs.refusal.first_leak.Goals as goal

pub has_gap-requires : goal.has_gap-requires
has_gap-requires c =
    let i = c.loop-spot.spot-index in
    let s : Spot = get_or c.args.squares.now i origin in
    HasPlace-InArea c.args.level.now c.requires.proper s (c.requires.area.inside i origin (omega arith))

pub returns-then-has_gap : goal.returns-then-has_gap
returns-then-has_gap c =
    let squares = c.args.squares.now in
    let i = c.loop-spot.spot-index in
    let s : Spot = get_or squares i origin in
    let inside : i < length squares = omega arith in
    first_leak-some c.args.level.now squares i s c.requires.area inside (get_or_default squares i s origin inside) c.loop-spot.invariant
    (sym c.if-has_gap.ensures)

pub loop-spot-preserved : goal.loop-spot-preserved
loop-spot-preserved c =
    All-more (λ s. has_gap c.args.level.now s ≡ false) c.args.squares.now c.loop-spot.spot-index origin (omega arith) c.loop-spot.invariant
    (sym c.if-has_gap.ensures)

pub returns : goal.returns
returns c = first_leak-none c.args.level.now c.args.squares.now c.loop-spot.spot-index c.requires.area (omega arith) c.loop-spot.invariant

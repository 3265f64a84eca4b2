use Rattle.std.proofs.Common.{◌∙◌, ap, is_some, sym, true≢false}
use Rattle.sok_board.specs.Area.{spot_of}
use Rattle.sok_region.proofs.Regions.{drawn-numbered, drawn-same, player-drawn, through-exact}
use Rattle.sok_state.proofs.Stepped.{first-key}
use Rattle.sok_state.proofs.least.least_square.Goals as goal

pub flood_from-requires-clause-start : goal.flood_from-requires-clause-start
flood_from-requires-clause-start c =
    let (boxes, placed, drawn) = c.requires.drawn in
    (through-exact c.args.board.now c.requires.accepted.numbered boxes c.args.free.now drawn c.args.player placed.player_exists).1 placed.free

pub unwrap-requires : goal.unwrap-requires
unwrap-requires c =
    let (boxes, placed, drawn) = c.requires.drawn in
    let accepted = c.requires.accepted in
    let (n, number) = drawn-numbered c.args.board.now boxes c.args.player c.args.free.now c.flood_from.new.seen accepted.proper accepted.numbered
    placed drawn c.flood_from.ensures c.in-Some.spot c.in-Some.ensures.among in
    ap is_some (c.square.ensures.number ∙ number)

pub unreachable-requires : goal.unreachable-requires
unreachable-requires c =
    let b = c.args.board.now in
    let (boxes, placed, drawn) = c.requires.drawn in
    let accepted = c.requires.accepted in
    let here = player-drawn b boxes c.args.player c.args.free.now c.flood_from.new.seen accepted.proper accepted.numbered placed drawn
    c.flood_from.ensures in
    absurd (true≢false (sym here ∙ c.in-None.ensures (spot_of b c.args.player)))

pub returns-clause-reached : goal.returns-clause-reached
returns-clause-reached c = λ boxes placed drawn.
    let accepted = c.requires.accepted in
    drawn-same c.args.board.now boxes c.args.player c.args.free.now c.flood_from.new.seen accepted.proper accepted.numbered placed drawn
    c.flood_from.ensures

pub returns-clause-key : goal.returns-clause-key
returns-clause-key c = λ boxes placed drawn.
    first-key c.args.board.now c.requires.accepted boxes c.args.player c.args.free.now c.flood_from.new.seen placed drawn c.flood_from.ensures
    c.in-Some.spot c.unwrap.result c.in-Some.ensures (sym c.square.ensures.number ∙ c.unwrap.ensures)

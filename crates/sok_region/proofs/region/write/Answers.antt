use Rattle.std.proofs.Common.{subst, arith, Contains}
use Rattle.sok_field.specs.Numbers.{Draws}
use Rattle.sok_region.proofs.Regions.{IsRegion-drawn, through-exact}
use Rattle.sok_region.proofs.region.write.Goals as goal

pub flood_from-requires-clause-start : goal.flood_from-requires-clause-start
flood_from-requires-clause-start c =
    let b = c.args.board.now in
    let placed = c.requires.placed in
    let free = c.free_squares-free.result in
    let drawn = subst (λ boxes. Draws b (λ n. Contains boxes n → ⊥) free) c.list.ensures.list c.free_squares-free.ensures.drawn in
    (through-exact b c.free_squares-free.ensures.accepted.numbered c.args.boxes.now free drawn c.args.player placed.player_exists).1 placed.free

pub write-requires : goal.write-requires
write-requires c =
    let few = c.free_squares-free.ensures.accepted.few_squares in
    let room = c.requires.room in
    omega (arith, few, room)

pub returns-clause-region : goal.returns-clause-region
returns-clause-region c =
    let b = c.args.board.now in
    let accepted = c.free_squares-free.ensures.accepted in
    let free = c.free_squares-free.result in
    let drawn = subst (λ boxes. Draws b (λ n. Contains boxes n → ⊥) free) c.list.ensures.list c.free_squares-free.ensures.drawn in
    IsRegion-drawn b c.args.boxes.now c.args.player free c.flood_from.new.seen accepted.proper accepted.numbered c.requires.placed drawn
    c.flood_from.ensures c.write.new.words c.write.ensures

use Rattle.std.proofs.Common.{◌≡◌, ◌↔◌, ◌<◌, IsNone, IsTrue, IfSome, false, length, sym, ap, ◌∙◌, subst, arith}
use Rattle.std.specs.Option.{option_map_or}
use Rattle.sok_rules.specs.Squares.{holds, is_wall, next}
use Rattle.sok_board.specs.Area.{spot_of, beside}
use Rattle.std.proofs.lemmas.List.{length-map}
use Rattle.sok_board.specs.Neighbours.{neighbours_of}
use Rattle.sok_board.specs.Boards.{IsNumbering}
use Rattle.sok_board.proofs.Around.{number_towards-kept, wall-beside, IfSome-beside}
use Rattle.sok_board.proofs.board.Board.neighbour.Goals as goal

told : (c : goal.After-towards) → c.towards.result ≡ beside c.args.self.now c.args.square c.args.dir
told c =
    let b = c.args.self.now in
    let kept = subst (λ a. IsNumbering a c.self.inside.numbering) c.self.view_is c.self.invariant in
    c.towards.ensures ∙ number_towards-kept b c.self.inside.numbering kept c.args.square c.args.dir c.index.result.now c.requires c.index.ensures

pub index-requires : goal.index-requires
index-requires c =
    let b = c.args.self.now in
    let kept = subst (λ a. IsNumbering a c.self.inside.numbering) c.self.view_is c.self.invariant in
    let list = c.self.inside.numbering.neighbours in
    let long = ap length kept.neighbours in
    let many = length-map b.area (neighbours_of c.self.inside.numbering.numbers.items) in
    omega (arith, list.ok.0, long, many, c.requires)

pub returns-clause-beside : goal.returns-clause-beside
returns-clause-beside c = told c

pub returns-clause-wall : goal.returns-clause-wall
returns-clause-wall c =
    let b = c.args.self.now in
    let kept = subst (λ a. IsNumbering a c.self.inside.numbering) c.self.view_is c.self.invariant in
    subst (λ o. IsNone o ↔ IsTrue (option_map_or (holds is_wall b.rows) (next c.args.dir (spot_of b c.args.square)) false)) (sym (told c))
    (wall-beside b kept.accepted c.args.square c.args.dir c.requires)

pub returns-clause-exists : goal.returns-clause-exists
returns-clause-exists c =
    let b = c.args.self.now in
    subst (λ o. IfSome o (λ m. m < length b.area)) (sym (told c)) (IfSome-beside b c.args.square c.args.dir)

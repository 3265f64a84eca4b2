-- The numbers of the squares beside one, read from a list.
use Rattle.std.proofs.Common.{ℕ, ◌≡◌, ◌<◌, ◌↔◌, refl, ap, sym, ◌∙◌, List, Option, Some, None, IsNone, IsTrue, IfSome, false, length, get_or}
use Rattle.std.proofs.lemmas.List.{get_or-map}
use Rattle.std.specs.Option.{option_and_then, option_map_or}
use Rattle.sok_rules.specs.declared.cell.Dir.{Dir}
use Rattle.sok_rules.specs.declared.cell.Dir.TheVariants.{Left, Up, Right, Down}
use Rattle.sok_rules.specs.declared.cell.Spot.{Spot}
use Rattle.sok_rules.specs.Squares.{holds, is_wall, next}
use Rattle.sok_board.specs.declared.neighbours.Neighbours.{Neighbours}
use Rattle.sok_board.specs.declared.survey.Numbering.{Numbering}
use Rattle.sok_board.specs.Area.{BoardView, IsAccepted, spot_of, number_of, beside}
use Rattle.sok_board.specs.Boards.{IsNumbering}
use Rattle.sok_board.specs.Neighbours.{number_towards, number_beside, neighbours_of}
use Rattle.sok_board.specs.Tables.{entry}
use Rattle.sok_board.proofs.Accepted.{wall_beside, IfSome-number_of}
use Rattle.sok_board.proofs.AreaLaws.{origin, spot_of-at, InArea-spot_of}

number_towards-neighbours_of : (numbers : List (Option ℕ)) (s : Spot) (d : Dir) → number_towards (neighbours_of numbers s) d ≡ number_beside numbers s d
number_towards-neighbours_of numbers s Left = refl
number_towards-neighbours_of numbers s Up = refl
number_towards-neighbours_of numbers s Right = refl
number_towards-neighbours_of numbers s Down = refl

same_numbers : (b : BoardView) (numbers : List (Option ℕ)) → ((s : Spot) → entry None numbers s ≡ number_of b s) → (o : Option Spot)
    → option_and_then (entry None numbers) o ≡ option_and_then (number_of b) o
same_numbers b numbers exact None = refl
same_numbers b numbers exact (Some s) = exact s

-- what is kept of a square tells the squares beside it
pub number_towards-kept : (b : BoardView) (kept : Numbering) → IsNumbering b kept → (n : ℕ) (d : Dir) (x : Neighbours) → n < length b.area
    → x ≡ get_or kept.neighbours.items n x → number_towards x d ≡ beside b n d
number_towards-kept b kept is n d x within read =
    let numbers = kept.numbers.items in
    let there = read ∙ ap (λ list. get_or list n x) is.neighbours ∙ get_or-map (neighbours_of numbers) b.area n origin x within
    ∙ ap (neighbours_of numbers) (sym (spot_of-at b n)) in
    ap (λ around. number_towards around d) there ∙ number_towards-neighbours_of numbers (spot_of b n) d
    ∙ same_numbers b numbers is.numbers (next d (spot_of b n))

-- a square of the area has no neighbour in the area exactly where a wall stands
pub wall-beside : (b : BoardView) → IsAccepted b → (n : ℕ) (d : Dir) → n < length b.area
    → IsNone (beside b n d) ↔ IsTrue (option_map_or (holds is_wall b.rows) (next d (spot_of b n)) false)
wall-beside b accepted n d within = wall_beside b accepted (spot_of b n) d (next d (spot_of b n)) (InArea-spot_of b accepted.numbered n within) refl

number_exists : (b : BoardView) (s : Spot) (o : Option ℕ) → IfSome o (λ n. (n < length b.area) × (spot_of b n ≡ s)) → IfSome o (λ n. n < length b.area)
number_exists b s None is = tt
number_exists b s (Some n) is = is.0

exists_beside : (b : BoardView) (o : Option Spot) → IfSome (option_and_then (number_of b) o) (λ n. n < length b.area)
exists_beside b None = tt
exists_beside b (Some s) = number_exists b s (number_of b s) (IfSome-number_of b s)

-- a neighbour is of the area
pub IfSome-beside : (b : BoardView) (n : ℕ) (d : Dir) → IfSome (beside b n d) (λ m. m < length b.area)
IfSome-beside b n d = exists_beside b (next d (spot_of b n))

-- Play: what one letter does, and what a list of letters does (Sokoban Wiki, "Game rules").
use Rattle.std.specs.Prelude.{ℕ, ◌≡◌, ◌+◌, List, [], ◌∷◌, Option, Some, None, Bool, true, false, not, ◌&&◌, if◌then◌else◌, find}
use Rattle.std.specs.Prelude.{unwrap_or, IsTrue, IsSomeAnd, ◌≤◌}
use Rattle.std.specs.Option.{option_and_then, option_map_or}
use Rattle.sok_rules.specs.declared.cell.Dir.{Dir}
use Rattle.sok_rules.specs.declared.cell.Spot.{Spot}
use Rattle.sok_rules.specs.Squares.{Rows, holds, is_open, is_box, is_goal, is_man, next, same_spot, places}

-- where the player stands, and which squares hold a box
pub record Position : Type 0 where
  pub man : Spot
  pub boxes : Spot → Bool

-- the position at which a level starts
unfoldable pub start : Rows → Position
start rows = record { man = unwrap_or (find (holds is_man rows) (places rows)) (record { row = 0; col = 0 }); boxes = holds is_box rows }

-- a position, and whether the letter that led to it pushed
pub record After : Type 0 where
  pub position : Position
  pub pushed : Bool

-- a set of squares, from which `from` is removed and to which `to` is then added
unfoldable pub moved : (Spot → Bool) → Spot → Spot → Spot → Bool
moved boxes from to s = if same_spot s to then true else if same_spot s from then false else boxes s

-- a push: the player enters `q`, and the box there moves on to `t`, which must be open and without a box
abbrev pub push : Rows → Position → Spot → Spot → Option After
push rows x q t =
    if holds is_open rows t && not (x.boxes t) then Some (record { position = record { man = q; boxes = moved x.boxes q t }; pushed = true }) else None

abbrev pub enter : Rows → Dir → Position → Spot → Option After
enter rows d x q =
    if not (holds is_open rows q) then None
    else if x.boxes q then option_and_then (push rows x q) (next d q)
    else Some (record { position = record x { man = q }; pushed = false })

-- the position after one letter, if it is legal
abbrev pub step : Rows → Dir → Position → Option After
step rows d x = option_and_then (enter rows d x) (next d x.man)

-- the position after a list of letters, if all of them are legal
abbrev pub run : Rows → Position → List Dir → Option Position
run rows x [] = Some x
run rows x (d ∷ w) = option_and_then (λ after. run rows after.position w) (step rows d x)

abbrev pub one_if : Bool → ℕ
one_if true = 1
one_if false = 0

-- the number of letters that push, in a legal list
abbrev pub pushes : Rows → Position → List Dir → ℕ
pushes rows x [] = 0
pushes rows x (d ∷ w) = option_map_or (λ after. one_if after.pushed + pushes rows after.position w) (step rows d x) 0

abbrev pub AllOnGoals : Rows → Position → Type 0
AllOnGoals rows x = (s : Spot) → IsTrue (x.boxes s) → IsTrue (holds is_goal rows s)

-- the list is legal, and all boxes stand on goals at its end
abbrev pub SolvesFrom : Rows → Position → List Dir → Type 0
SolvesFrom rows x w = IsSomeAnd (run rows x w) (AllOnGoals rows)

abbrev pub Solves : Rows → List Dir → Type 0
Solves rows w = SolvesFrom rows (start rows) w

-- every list that solves from the position has at least `n` pushes
abbrev pub AtLeastFrom : Rows → Position → ℕ → Type 0
AtLeastFrom rows x n = (w : List Dir) → SolvesFrom rows x w → n ≤ pushes rows x w

abbrev pub AtLeast : Rows → ℕ → Type 0
AtLeast rows n = AtLeastFrom rows (start rows) n

-- some list solves with n pushes, and none with fewer
pub record IsFewest (rows : Rows) (n : ℕ) : Type 0 where
  pub least : AtLeast rows n
  pub reached : (w : List Dir) × Solves rows w × (pushes rows (start rows) w ≡ n)

-- no list of letters solves from the position
abbrev pub NeverFrom : Rows → Position → Type 0
NeverFrom rows x = (w : List Dir) → ¬ (SolvesFrom rows x w)

abbrev pub IsUnsolvable : Rows → Type 0
IsUnsolvable rows = NeverFrom rows (start rows)

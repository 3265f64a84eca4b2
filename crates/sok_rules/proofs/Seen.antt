-- What shows at a square in the middle of play.
use Rattle.std.proofs.Common.{ℕ, ◌≡◌, refl, sym, ap, ◌∙◌, List, [], length, get_or, Bool, not, Some, None, if◌then◌else◌, option_map, arith}
use Rattle.std.proofs.lemmas.List.{length-map}
use Rattle.std.proofs.lemmas.Option.{none-some}
use Rattle.std.proofs.Math.ListN.{get_or-map}
use Rattle.sok_rules.specs.declared.cell.Cell.{Cell}
use Rattle.sok_rules.specs.declared.cell.Cell.TheVariants.{Wall, Floor, Goal, BoxOff, BoxOn, ManOff, ManOn}
use Rattle.sok_rules.specs.declared.cell.Spot.{Spot}
use Rattle.sok_rules.specs.Squares.{Rows, cell_at, holds, is_box, is_goal, is_man, is_open, same_spot}
use Rattle.sok_rules.specs.Play.{start}
use Rattle.sok_rules.specs.Scene.{SameGround}
use Rattle.sok_rules.specs.Session.{cell_in_play, shown_cell}
use Rattle.sok_rules.proofs.Grid.{IsWithin, IsWithin-from_cell_at, cell_at-within, holds-some}
use Rattle.sok_rules.proofs.Scenes.{SameGround-sym}

-- the cell that passes these tests
abbrev told : Bool → Bool → Bool → Bool → Cell
told opened goal boxed man =
    if not opened then Wall else if boxed then (if goal then BoxOn else BoxOff) else if man then
    (if goal then ManOn else ManOff) else if goal then Goal else Floor

cell_by_tests : (cell : Cell) → cell ≡ told (is_open cell) (is_goal cell) (is_box cell) (is_man cell)
cell_by_tests Wall = refl
cell_by_tests Floor = refl
cell_by_tests Goal = refl
cell_by_tests BoxOff = refl
cell_by_tests BoxOn = refl
cell_by_tests ManOff = refl
cell_by_tests ManOn = refl

-- rows of the same ground have the same places
pub IsWithin-SameGround : (old new : Rows) (s : Spot) → SameGround old new → IsWithin old s → IsWithin new s
IsWithin-SameGround old new s ground within =
    let size : List Cell → ℕ = λ row. length row in
    let same : length (get_or new s.row []) ≡ length (get_or old s.row []) = sym (get_or-map size new s.row [])
    ∙ ap (λ sizes. get_or sizes s.row 0) ground.shape ∙ get_or-map size old s.row [] in
    record {
      row = omega (arith, within.row, length-map old size, length-map new size, ap length ground.shape);
      col = omega (arith, within.col, same);
    }

-- what a scene shows is what the level's cell shows in its position
pub cell_at-scene : (rows now : Rows) (s : Spot) → SameGround rows now → ((t : Spot) → holds is_man now t ≡ same_spot (start now).man t)
    → cell_at now s ≡ cell_in_play rows (start now) s
unfolding start
cell_at-scene rows now s ground man_is = elim (cell_at rows s) as (λ o. cell_at rows s ≡ o
    → cell_at now s ≡ option_map (λ base. shown_cell base ((start now).boxes s) (same_spot (start now).man s)) o) [
      | None ↦ λ none. elim (cell_at now s) as (λ o. cell_at now s ≡ o → o ≡ None) [
        | None ↦ λ _. refl
        | Some cell ↦ λ there.
            let within = IsWithin-SameGround now rows s (SameGround-sym rows now ground) (IsWithin-from_cell_at now s cell there) in
            absurd (none-some _ (sym none ∙ cell_at-within rows s Wall within))
      ] refl
      | Some base ↦ λ there.
          let cell = get_or (get_or now s.row []) s.col Wall in
          let is : cell_at now s ≡ Some cell = cell_at-within now s Wall (IsWithin-SameGround rows now s ground (IsWithin-from_cell_at rows s base there)) in
          let opened : is_open cell ≡ is_open base = sym (holds-some is_open now s cell is) ∙ ground.opened s ∙ holds-some is_open rows s base there in
          let goal : is_goal cell ≡ is_goal base = sym (holds-some is_goal now s cell is) ∙ ground.goals s ∙ holds-some is_goal rows s base there in
          let boxed : is_box cell ≡ holds is_box now s = sym (holds-some is_box now s cell is) in
          let man : is_man cell ≡ same_spot (start now).man s = sym (holds-some is_man now s cell is) ∙ man_is s in
          is ∙ ap Some (cell_by_tests cell ∙ (λ i. told (opened i) (goal i) (boxed i) (man i)))
    ] refl

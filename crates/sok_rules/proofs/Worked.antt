-- Worked levels, computed.
use Rattle.std.proofs.Common.{◌≡◌, refl, sym, ◌∙◌, subst, inl, inr, List, [], ◌∷◌, Bool, false, true≢false, not, ◌&&◌, Some, None, IsSomeAnd, unwrap_or}
use Rattle.std.proofs.lemmas.Bool.{cases_Bool}
use Rattle.std.specs.List.{list_any}
use Rattle.sok_rules.specs.declared.cell.Cell.TheVariants.{Wall, Floor, Goal, BoxOff, ManOff}
use Rattle.sok_rules.specs.declared.cell.Dir.{Dir}
use Rattle.sok_rules.specs.declared.cell.Dir.TheVariants.{Left, Up, Right, Down}
use Rattle.sok_rules.specs.Squares.{Rows, holds, is_goal, places, places_from, places_in_row}
use Rattle.sok_rules.specs.Play.{AllOnGoals, Position, Solves, moved, pushes, run, start}
use Rattle.sok_rules.proofs.Grid.{IsWithin-from_holds}
use Rattle.sok_rules.proofs.Runs.{HasOpenBoxes-run, HasOpenBoxes-start}
use Rattle.sok_rules.proofs.Places.{list_any-places}

abbrev pub end_of : Rows → List Dir → Position
end_of rows w = unwrap_or (run rows (start rows) w) (start rows)

abbrev pub astray_at_end : Rows → List Dir → Bool
astray_at_end rows w = list_any (λ s. (end_of rows w).boxes s && not (holds is_goal rows s)) (places rows)

-- boxes stand at places of the text, so that a look at these is enough
pub solves_by_test : (rows : Rows) (w : List Dir) → run rows (start rows) w ≡ Some (end_of rows w) → astray_at_end rows w ≡ false → Solves rows w
solves_by_test rows w legal none = subst (λ o. IsSomeAnd o (AllOnGoals rows)) (sym legal) (λ s boxed. elim (cases_Bool (holds is_goal rows s)) [
  | inl on_goal ↦ on_goal
  | inr off_goal ↦
      let opened = HasOpenBoxes-run rows w (start rows) (end_of rows w) (HasOpenBoxes-start rows) legal s boxed in
      let found = list_any-places (λ t. (end_of rows w).boxes t && not (holds is_goal rows t)) rows s (IsWithin-from_holds _ rows s opened)
      (λ i. boxed i && not (off_goal i)) in
      absurd (true≢false (sym found ∙ none))
])

-- a room whose box has to be taken from behind
abbrev pub walled_room : Rows
walled_room =
    (Wall ∷ Wall ∷ Wall ∷ Wall ∷ Wall ∷ Wall ∷ []) ∷ (Wall ∷ Floor ∷ Floor ∷ Floor ∷ Floor ∷ Wall ∷ []) ∷ (Wall ∷ Floor ∷ BoxOff ∷ ManOff ∷ Goal ∷ Wall ∷ [])
    ∷ (Wall ∷ Wall ∷ Wall ∷ Wall ∷ Wall ∷ Wall ∷ []) ∷ []

abbrev round_the_box : List Dir
round_the_box = Up ∷ Left ∷ Left ∷ Down ∷ Right ∷ Right ∷ []

pub walled_room-solved : Solves walled_room round_the_box
unfolding start places places_from places_in_row holds moved
walled_room-solved = solves_by_test walled_room round_the_box refl refl

pub walled_room-pushes : pushes walled_room (start walled_room) round_the_box ≡ 2
unfolding start places places_from places_in_row holds moved
walled_room-pushes = refl

-- a corridor through which the box goes away from its goal and back
abbrev pub corridor_of_six_pushes : Rows
corridor_of_six_pushes =
    (Wall ∷ Wall ∷ Wall ∷ Wall ∷ Wall ∷ Wall ∷ Wall ∷ Wall ∷ []) ∷ (Wall ∷ Wall ∷ Wall ∷ Wall ∷ Floor ∷ Floor ∷ Floor ∷ Wall ∷ [])
    ∷ (Wall ∷ Goal ∷ ManOff ∷ BoxOff ∷ Floor ∷ Floor ∷ Floor ∷ Wall ∷ []) ∷ (Wall ∷ Wall ∷ Wall ∷ Wall ∷ Floor ∷ Floor ∷ Floor ∷ Wall ∷ [])
    ∷ (Wall ∷ Wall ∷ Wall ∷ Wall ∷ Wall ∷ Wall ∷ Wall ∷ Wall ∷ []) ∷ []

abbrev above_the_box : List Dir
above_the_box = Right ∷ Right ∷ Up ∷ Right ∷ Right ∷ Down ∷ Left ∷ Left ∷ Left ∷ Left ∷ []

abbrev below_the_box : List Dir
below_the_box = Right ∷ Right ∷ Down ∷ Right ∷ Right ∷ Up ∷ Left ∷ Left ∷ Left ∷ Left ∷ []

pub corridor-solved_above : Solves corridor_of_six_pushes above_the_box
unfolding start places places_from places_in_row holds moved
corridor-solved_above = solves_by_test corridor_of_six_pushes above_the_box refl refl

pub corridor-solved_below : Solves corridor_of_six_pushes below_the_box
unfolding start places places_from places_in_row holds moved
corridor-solved_below = solves_by_test corridor_of_six_pushes below_the_box refl refl

pub corridor-pushes_above : pushes corridor_of_six_pushes (start corridor_of_six_pushes) above_the_box ≡ 6
unfolding start places places_from places_in_row holds moved
corridor-pushes_above = refl

pub corridor-pushes_below : pushes corridor_of_six_pushes (start corridor_of_six_pushes) below_the_box ≡ 6
unfolding start places places_from places_in_row holds moved
corridor-pushes_below = refl

-- two boxes and three goals in a row
abbrev pub three_goals : Rows
three_goals =
    (Wall ∷ Wall ∷ Wall ∷ Wall ∷ Wall ∷ Wall ∷ Wall ∷ Wall ∷ []) ∷ (Wall ∷ ManOff ∷ Floor ∷ Floor ∷ Floor ∷ Floor ∷ Floor ∷ Wall ∷ [])
    ∷ (Wall ∷ Goal ∷ Floor ∷ BoxOff ∷ Goal ∷ BoxOff ∷ Goal ∷ Wall ∷ []) ∷ (Wall ∷ Wall ∷ Wall ∷ Wall ∷ Wall ∷ Wall ∷ Wall ∷ Wall ∷ []) ∷ []

abbrev far_box_first : List Dir
far_box_first = Right ∷ Right ∷ Right ∷ Down ∷ Right ∷ Up ∷ Left ∷ Left ∷ Left ∷ Down ∷ Right ∷ []

pub three_goals-solved : Solves three_goals far_box_first
unfolding start places places_from places_in_row holds moved
three_goals-solved = solves_by_test three_goals far_box_first refl refl

pub three_goals-pushes : pushes three_goals (start three_goals) far_box_first ≡ 2
unfolding start places places_from places_in_row holds moved
three_goals-pushes = refl

-- a second box behind the first blocks the push
abbrev pub box_behind_box : Rows
box_behind_box =
    (Wall ∷ Wall ∷ Wall ∷ Wall ∷ Wall ∷ Wall ∷ Wall ∷ []) ∷ (Wall ∷ ManOff ∷ BoxOff ∷ BoxOff ∷ Goal ∷ Goal ∷ Wall ∷ [])
    ∷ (Wall ∷ Wall ∷ Wall ∷ Wall ∷ Wall ∷ Wall ∷ Wall ∷ []) ∷ []

pub box_behind_box-blocked : run box_behind_box (start box_behind_box) (Right ∷ []) ≡ None
unfolding start places places_from places_in_row holds moved
box_behind_box-blocked = refl

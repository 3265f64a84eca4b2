-- Why the laws of an area ask that its squares are the area: with no square listed each box is a decoration, and moves.
use Rattle.std.proofs.Common.{refl, sym, true≢false, [], ◌∷◌}
use Rattle.sok_rules.specs.declared.cell.Cell.TheVariants.{Wall, Goal, BoxOff, ManOff}
use Rattle.sok_rules.specs.declared.cell.Dir.TheVariants.{Right}
use Rattle.sok_rules.specs.declared.cell.Spot.{Spot}
use Rattle.sok_rules.specs.Squares.{Rows, holds, places, places_from, places_in_row}
use Rattle.sok_rules.specs.Play.{start, moved}
use Rattle.sok_rules.proofs.Worked.{end_of}
use Rattle.sok_board.specs.Area.{BoardView}
use Rattle.sok_board.specs.Confined.{KeepsDecorations}

-- one push to the right solves
abbrev pub one_push : Rows
one_push =
    (Wall ∷ Wall ∷ Wall ∷ Wall ∷ Wall ∷ []) ∷ (Wall ∷ ManOff ∷ BoxOff ∷ Goal ∷ Wall ∷ []) ∷ (Wall ∷ Wall ∷ Wall ∷ Wall ∷ Wall ∷ []) ∷ []

abbrev pub without_area : BoardView
without_area = record { rows = one_push; area = [] }

pub KeepsDecorations-without_area : KeepsDecorations without_area → ⊥
unfolding start places places_from places_in_row holds moved
KeepsDecorations-without_area keeps =
    let box : Spot = record { row = 1; col = 2 } in
    true≢false (sym (keeps (end_of one_push (Right ∷ [])) (Right ∷ []) refl box refl))

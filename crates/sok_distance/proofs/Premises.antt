-- Why the law of pushes asks that a board's squares are the area: with no square listed no push is one of a listed box.
use Rattle.std.proofs.Common.{refl, true, arith, [], ◌∷◌}
use Rattle.sok_rules.specs.declared.cell.Dir.TheVariants.{Right}
use Rattle.sok_rules.specs.Squares.{holds, places, places_from, places_in_row}
use Rattle.sok_rules.specs.Play.{After, start, moved}
use Rattle.sok_rules.proofs.Worked.{end_of}
use Rattle.sok_board.proofs.AreaLaws.{InArea-man}
use Rattle.sok_board.proofs.Premises.{one_push, without_area}
use Rattle.sok_distance.specs.Pushes.{PushesAlone}

pub PushesAlone-without_area : PushesAlone without_area → ⊥
unfolding start places places_from places_in_row holds moved
PushesAlone-without_area pushes =
    let after : After = record { position = end_of one_push (Right ∷ []); pushed = true } in
    let past = (pushes (start one_push) Right after (InArea-man one_push) refl refl).from_exists in
    absurd (omega (arith, past))

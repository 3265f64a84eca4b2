-- Letters over squares that are let through lead where those of the graph lead.
use Rattle.std.proofs.Common.{ℕ, ◌≡◌, refl, List, [], ◌∷◌, Bool, true, false, Some, None, if◌then◌else◌}
use Rattle.std.specs.Option.{option_and_then}
use Rattle.sok_rules.specs.declared.cell.Dir.{Dir}
use Rattle.sok_board.specs.Area.{BoardView, beside}
use Rattle.sok_board.specs.Graphs.{follow}
use Rattle.sok_field.specs.Trails.{trail}
use Rattle.sok_region.specs.Paths.{paths}

pub follow-trail : (b : BoardView) (lets : ℕ → Bool) (from : ℕ) (w : List Dir) (s : ℕ) → follow (paths b lets from) s w ≡ trail b lets s w
follow-trail b lets from [] s = refl
follow-trail b lets from (d ∷ w) s = elim (beside b s d) as (λ o. option_and_then (λ t. follow (paths b lets from) t w)
    (option_and_then (λ t. if lets t then Some t else None) o) ≡ option_and_then (λ t. if lets t then trail b lets t w else None) o) [
      | None ↦ refl
      | Some t ↦ elim (lets t) as (λ h. option_and_then (λ t. follow (paths b lets from) t w) (if h then Some t else None)
          ≡ (if h then trail b lets t w else None)) [
            | true ↦ follow-trail b lets from w t
            | false ↦ refl
          ]
    ]

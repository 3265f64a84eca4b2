-- Letters over squares that are let through.
use Rattle.std.proofs.Common.{ℕ, ◌≡◌, refl, ap, ◌∙◌, List, [], ◌∷◌, ◌++◌, Bool, true, false, Some, None, if◌then◌else◌}
use Rattle.std.specs.Option.{option_and_then}
use Rattle.sok_rules.specs.declared.cell.Dir.{Dir}
use Rattle.sok_board.specs.Area.{BoardView, beside}
use Rattle.sok_field.specs.Trails.{trail, Leads}

pub trail-append : (b : BoardView) (lets : ℕ → Bool) (w v : List Dir) (s : ℕ)
    → trail b lets s (w ++ v) ≡ option_and_then (λ t. trail b lets t v) (trail b lets s w)
trail-append b lets [] v s = refl
trail-append b lets (d ∷ w) v s = elim (beside b s d) as (λ o. option_and_then (λ t. if lets t then trail b lets t (w ++ v) else None) o
    ≡ option_and_then (λ t. trail b lets t v) (option_and_then (λ t. if lets t then trail b lets t w else None) o)) [
      | None ↦ refl
      | Some t ↦ elim (lets t) as (λ h. (if h then trail b lets t (w ++ v) else None) ≡ option_and_then (λ t. trail b lets t v)
          (if h then trail b lets t w else None)) [
            | true ↦ trail-append b lets w v t
            | false ↦ refl
          ]
    ]

-- one letter
pub trail-one : (b : BoardView) (lets : ℕ → Bool) (s t : ℕ) (d : Dir) (w : List Dir) → beside b s d ≡ Some t → lets t ≡ true
    → trail b lets s (d ∷ w) ≡ trail b lets t w
trail-one b lets s t d w leads through = ap (option_and_then (λ u. if lets u then trail b lets u w else None)) leads ∙ ap
    (λ h. if h then trail b lets t w else None) through

pub Leads-start : (b : BoardView) (lets : ℕ → Bool) (s : ℕ) → Leads b lets s s
Leads-start b lets s = ([], refl)

-- one letter more
pub Leads-more : (b : BoardView) (lets : ℕ → Bool) (s t u : ℕ) (d : Dir) → Leads b lets s t → beside b t d ≡ Some u → lets u ≡ true → Leads b lets s u
Leads-more b lets s t u d (w, so_far) leads through =
    (w ++ d ∷ [], trail-append b lets w (d ∷ []) s ∙ ap (option_and_then (λ r. trail b lets r (d ∷ []))) so_far ∙ trail-one b lets t u d [] leads through)

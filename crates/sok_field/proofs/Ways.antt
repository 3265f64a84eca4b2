-- Letters over squares that are let through.
use Rattle.std.proofs.Common.{◌≡◌, refl, sym, ap, ◌∙◌, List, [], ◌∷◌, ◌++◌, Bool, true, false, Some, None, if◌then◌else◌}
use Rattle.std.specs.Option.{option_and_then}
use Rattle.std.proofs.lemmas.Option.{none-some, same_Some, option_and_then_some}
use Rattle.sok_rules.specs.declared.cell.Dir.{Dir}
use Rattle.sok_rules.specs.declared.cell.Spot.{Spot}
use Rattle.sok_rules.specs.Squares.{next}
use Rattle.sok_field.specs.Ways.{way, Joined}

way-append : (lets : Spot → Bool) (w v : List Dir) (s : Spot) → way lets s (w ++ v) ≡ option_and_then (λ t. way lets t v) (way lets s w)
way-append lets [] v s = refl
way-append lets (d ∷ w) v s = elim (next d s) as (λ o. option_and_then (λ t. if lets t then way lets t (w ++ v) else None) o
    ≡ option_and_then (λ t. way lets t v) (option_and_then (λ t. if lets t then way lets t w else None) o)) [
      | None ↦ refl
      | Some t ↦ elim (lets t) as (λ h. (if h then way lets t (w ++ v) else None) ≡ option_and_then (λ t. way lets t v) (if h then way lets t w else None)) [
        | true ↦ way-append lets w v t
        | false ↦ refl
      ]
    ]

pub way-one : (lets : Spot → Bool) (s t : Spot) (d : Dir) (w : List Dir) → next d s ≡ Some t → lets t ≡ true → way lets s (d ∷ w) ≡ way lets t w
way-one lets s t d w leads through = ap (option_and_then (λ u. if lets u then way lets u w else None)) leads ∙ ap (λ h. if h then way lets t w else None)
    through

pub Joined-start : (lets : Spot → Bool) (s : Spot) → Joined lets s s
Joined-start lets s = ([], refl)

-- one letter more
pub Joined-more : (lets : Spot → Bool) (s t u : Spot) (d : Dir) → Joined lets s t → next d t ≡ Some u → lets u ≡ true → Joined lets s u
Joined-more lets s t u d (w, so_far) leads through =
    (w ++ d ∷ [], way-append lets w (d ∷ []) s ∙ ap (option_and_then (λ r. way lets r (d ∷ []))) so_far ∙ way-one lets t u d [] leads through)

pub Joined-trans : (lets : Spot → Bool) (s t u : Spot) → Joined lets s t → Joined lets t u → Joined lets s u
Joined-trans lets s t u (w, first) (v, second) = (w ++ v, way-append lets w v s ∙ ap (option_and_then (λ r. way lets r v)) first ∙ second)

pub if_some : (b : Bool) (o : Spot) (w : List Dir) (lets : Spot → Bool) (x : Spot) → (if b then way lets o w else None) ≡ Some x
    → (b ≡ true) × (way lets o w ≡ Some x)
if_some true o w lets x e = (refl, e)
if_some false o w lets x e = absurd (none-some x e)

-- a set that no letter leaves has all that is joined to one of its squares
pub closed-whole : (lets mine : Spot → Bool) → ((s t : Spot) (d : Dir) → mine s ≡ true → next d s ≡ Some t → lets t ≡ true → mine t ≡ true)
    → (w : List Dir) (s t : Spot) → mine s ≡ true → way lets s w ≡ Some t → mine t ≡ true
closed-whole lets mine closed [] s t e leads = ap mine (sym (same_Some s t leads)) ∙ e
closed-whole lets mine closed (d ∷ w) s t e leads = option_and_then_some (λ u. if lets u then way lets u w else None) (next d s) t leads (λ u on rest.
    let (through, further) = if_some (lets u) u w lets t rest in
    closed-whole lets mine closed w u t (closed s u d e on through) further)

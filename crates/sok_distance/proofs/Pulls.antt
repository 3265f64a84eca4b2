-- Lone pushes and pulls: a push in reverse, and chains of pushes as letters from the goal.
use Rattle.std.proofs.Common.{ℕ, ◌≡◌, ◌<◌, ◌+◌, refl, sym, ap, ◌∙◌, List, [], ◌∷◌, Option, Some, None, arith, length}
use Rattle.std.proofs.lemmas.Option.{same_Some, option_and_then_some}
use Rattle.std.specs.Option.{option_and_then}
use Rattle.sok_rules.specs.declared.cell.Dir.{Dir}
use Rattle.sok_rules.specs.Squares.{opposite}
use Rattle.sok_rules.proofs.Spots.{opposite-twice}
use Rattle.sok_board.specs.Area.{BoardView, IsArea, beside}
use Rattle.sok_board.proofs.Beside.{beside-within, beside-back}
use Rattle.sok_board.specs.Graphs.{follow, TellsDepth}
use Rattle.sok_distance.specs.Pulls.{pulls}
use Rattle.sok_distance.specs.Pushing.{lone_push, lone_pushes, pull, Chain, TellsDistance}

-- a lone push ends on a square of the area
pub lone_push-within : (b : BoardView) (d : Dir) (s t : ℕ) → lone_push b d s ≡ Some t → t < length b.area
lone_push-within b d s t is = option_and_then_some (λ _. beside b s d) (beside b s (opposite d)) t is (λ k behind on. beside-within b d s t on)

-- and begins on one
pull-within : (b : BoardView) (d : Dir) (t s : ℕ) → pull b d t ≡ Some s → s < length b.area
pull-within b d t s is = option_and_then_some (λ u. option_and_then (λ _. Some u) (beside b u (opposite d))) (beside b t (opposite d)) s is (λ u first rest.
    option_and_then_some (λ _. Some u) (beside b u (opposite d)) s rest (λ _ _ same.
    beside-within b (opposite d) t s (first ∙ ap Some (same_Some u s same))))

-- what is pulled to a square is pushed back by a lone push
pub lone_push-pull : (b : BoardView) → IsArea b.rows b.area → (d : Dir) (s t : ℕ) → t < length b.area → pull b d t ≡ Some s → lone_push b d s ≡ Some t
lone_push-pull b area d s t within is =
    option_and_then_some (λ u. option_and_then (λ _. Some u) (beside b u (opposite d))) (beside b t (opposite d)) s is (λ u first rest.
    option_and_then_some (λ _. Some u) (beside b u (opposite d)) s rest (λ k behind same.
    let u_is : u ≡ s = same_Some u s same in
    let from : beside b t (opposite d) ≡ Some s = first ∙ ap Some u_is in
    let on : beside b s d ≡ Some t = ap (beside b s) (sym (opposite-twice d)) ∙ beside-back b area (opposite d) t s within from in
    ap (option_and_then (λ _. beside b s d)) (ap (λ n. beside b n (opposite d)) (sym u_is) ∙ behind) ∙ on))

-- and what is pushed by a lone push is pulled back
pub pull-lone_push : (b : BoardView) → IsArea b.rows b.area → (d : Dir) (s t : ℕ) → s < length b.area → lone_push b d s ≡ Some t → pull b d t ≡ Some s
pull-lone_push b area d s t within is =
    option_and_then_some (λ _. beside b s d) (beside b s (opposite d)) t is (λ k behind on.
    ap (option_and_then (λ u. option_and_then (λ _. Some u) (beside b u (opposite d)))) (beside-back b area d s t within on)
    ∙ ap (option_and_then (λ _. Some s)) behind)

-- letters from a goal to a square are a chain of pushes from the square to the goal, the last letter first, and the other way round
module _ (b : BoardView) (area : IsArea b.rows b.area) (g : ℕ) where
  pushes-follow : (w v : List Dir) (t s : ℕ) → t < length b.area → follow (pulls b g) t w ≡ Some s → lone_pushes b t v ≡ Some g → Chain b s g (length v + length w)
  pushes-follow [] v t s within leads pushed = (v, ap (λ t. lone_pushes b t v) (sym (same_Some t s leads)) ∙ pushed, omega arith)
  pushes-follow (d ∷ w) v t s within leads pushed = option_and_then_some (λ u. follow (pulls b g) u w) (pull b d t) s leads (λ u back rest.
      let on = lone_push-pull b area d u t within back in
      let (all, lead, long) = pushes-follow w (d ∷ v) u s (pull-within b d t u back) rest (ap (option_and_then (λ t. lone_pushes b t v)) on ∙ pushed) in
      (all, lead, omega (arith, long)))

  follow-pushes : (w v : List Dir) (s r : ℕ) → s < length b.area → lone_pushes b s w ≡ Some g → follow (pulls b g) s v ≡ Some r
      → (u : List Dir) × (follow (pulls b g) g u ≡ Some r) × (length u ≡ length v + length w)
  follow-pushes [] v s r within pushed leads = (v, ap (λ s. follow (pulls b g) s v) (sym (same_Some s g pushed)) ∙ leads, omega arith)
  follow-pushes (d ∷ w) v s r within pushed leads = option_and_then_some (λ t. lone_pushes b t w) (lone_push b d s) g pushed (λ t on rest.
      let back = pull-lone_push b area d s t within on in
      let (u, lead, long) = follow-pushes w (d ∷ v) t r (lone_push-within b d s t on) rest (ap (option_and_then (λ u. follow (pulls b g) u v)) back ∙ leads) in
      (u, lead, omega (arith, long)))

  -- so the depth of a square is its distance to the goal
  pub tells-distance : g < length b.area → (s : ℕ) → s < length b.area → (o : Option ℕ) → TellsDepth (pulls b g) s o → TellsDistance b g s o
  tells-distance exists s within None none = λ n (w, pushed, long). let (u, lead, _) = follow-pushes w [] s s within pushed refl in none u lead
  tells-distance exists s within (Some n) (w, shortest, long) = (
    let (v, pushed, same) = pushes-follow w [] g s exists shortest.lead refl in (v, pushed, omega (arith, same, long)),
    λ m (v, pushed, same).
        let (u, lead, as_long) = follow-pushes v [] s s within pushed refl in
        let least = shortest.least u lead in
        omega (arith, least, long, same, as_long),
  )

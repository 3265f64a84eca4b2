-- The lines of inner positions are those of entries alike.
use Rattle.std.proofs.Common.{◌≡◌, ◌++◌, ◌∷◌, refl, ap, ℕ, List, length, map}
use Rattle.std.specs.List.{flat_map}
use Rattle.sok_entry.specs.declared.entry.Inner.{Inner}
use Rattle.sok_entry.specs.declared.entry.InnerReason.TheVariants.{Expanded, Crowd, Frozen}
use Rattle.sok_entry.specs.Inside.{ended, letter_inside, line_inside, lines_inside, numbers_inside, spaced}
use Rattle.sok_entry.specs.Text.{entry_line, inner_line, inner_text, letter_of, numbers_of_reason, reason_alike}

line_inside-same : (i : Inner) → inner_line i ≡ line_inside i
unfolding entry_line
line_inside-same i =
    elim i.reason as (λ r. letter_of (reason_alike r) ∷ spaced ((i.depth ∷ i.player ∷ length i.boxes ∷ i.boxes) ++ numbers_of_reason (reason_alike r))
    ≡ letter_inside r ∷ spaced ((i.depth ∷ i.player ∷ length i.boxes ∷ i.boxes) ++ numbers_inside r)) [
      | Expanded ↦ refl
      | Crowd members ↦ refl
      | Frozen members ↦ refl
    ]

pub lines_inside-same : (inner : List Inner) → inner_text inner ≡ lines_inside inner
lines_inside-same inner = ap (λ (line : Inner → List ℕ). flat_map ended (map line inner)) (λ k i. line_inside-same i k)

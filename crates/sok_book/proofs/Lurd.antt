-- The marked text of letters ends before the first that is not legal.
use Rattle.std.proofs.Common.{◌≡◌, refl, ap, subst, ℕ, zero, suc, List, [], ◌∷◌, ◌++◌, Some, None, IsNone, IsSome, add-one, take, true≢false}
use Rattle.std.specs.Option.{option_and_then, option_map_or}
use Rattle.sok_rules.specs.declared.cell.Dir.{Dir}
use Rattle.sok_rules.specs.Squares.{Rows}
use Rattle.sok_rules.specs.Play.{Position, run, start, step}
use Rattle.sok_rules.specs.Replay.{IsBlockedAt}
use Rattle.sok_text.specs.Marked.{marked_letter, marked_text}
use Rattle.sok_book.specs.Texts.{lurd_of}

marked_text-front : (rows : Rows) (x : Position) (w : List Dir) (at : ℕ) → IsSome (run rows x (take at w)) → IsNone (run rows x (take (suc at) w))
    → marked_text rows x (take at w) ≡ marked_text rows x w
marked_text-front rows x [] zero legal blocked = refl
marked_text-front rows x [] (suc at) legal blocked = refl
marked_text-front rows x (d ∷ w) zero legal blocked = elim (step rows d x)
    as (λ o. IsNone (option_and_then (λ after. run rows after.position []) o)
    → [] ≡ option_map_or (λ after. marked_letter d after.pushed ++ marked_text rows after.position w) o []) [
      | None ↦ λ none. refl
      | Some after ↦ λ none. absurd (true≢false none)
    ] blocked
marked_text-front rows x (d ∷ w) (suc at) legal blocked = elim (step rows d x)
    as (λ o. IsSome (option_and_then (λ after. run rows after.position (take at w)) o)
    → IsNone (option_and_then (λ after. run rows after.position (take (suc at) w)) o)
    → option_map_or (λ after. marked_letter d after.pushed ++ marked_text rows after.position (take at w)) o []
    ≡ option_map_or (λ after. marked_letter d after.pushed ++ marked_text rows after.position w) o []) [
      | None ↦ λ some none. refl
      | Some after ↦ λ some none. ap (λ text. marked_letter d after.pushed ++ text) (marked_text-front rows after.position w at some none)
    ] legal blocked

-- so the letters before it have the same text
pub lurd_of-front : (rows : Rows) (w : List Dir) (at : ℕ) → IsBlockedAt rows w at → lurd_of rows (take at w) ≡ lurd_of rows w
lurd_of-front rows w at blocked =
    marked_text-front rows (start rows) w at blocked.legal (subst (λ n. IsNone (run rows (start rows) (take n w))) (add-one at) blocked.blocked)

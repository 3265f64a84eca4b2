use Rattle.std.proofs.Common.{ℕ, ◌≡◌, Bool, true, false, List, Option, Some, None, arith, get_or, length, refl}
use Rattle.std.proofs.lemmas.Grind.{common_steps}
use Rattle.std.proofs.lemmas.List.Sums.{position_or_len_is}
use Rattle.std.specs.List.{position_or_len}
use Rattle.std.specs.Prelude.{position}
use Rattle.memchr.specs.Find.{IsFirstByte, is_byte}
use Rattle.sok_text.proofs.line.line_end.Goals as goal

fails : (b : Bool) → (b ≡ true → ⊥) → b ≡ false
fails true other = absurd (other refl)
fails false other = refl

first_place : (a : ℕ) (xs : List ℕ) (found : Option ℕ) → IsFirstByte (is_byte a) xs found → found ≡ position (is_byte a) xs
first_place a xs None nowhere =
    let end : position_or_len (is_byte a) xs ≡ length xs = position_or_len_is (is_byte a) xs (length xs) 0 (omega arith)
    (λ k within. fails (is_byte a (get_or xs k 0)) (nowhere k (omega arith) within)) (λ beyond. absurd (omega arith)) in
    grind (arith, common_steps)
first_place a xs (Some k) (first, passes) =
    let high = first.high in
    let end : position_or_len (is_byte a) xs ≡ k = position_or_len_is (is_byte a) xs k 0 (omega (arith, high))
    (λ j before. fails (is_byte a (get_or xs j 0)) (first.before j (omega arith) before)) (λ there. passes) in
    grind (arith, common_steps)

pub returns : goal.returns
returns c = first_place 10 c.args.text.now c.memchr.result c.memchr.ensures

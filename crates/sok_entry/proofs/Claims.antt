-- The line of a claim.
use Rattle.std.proofs.Common.{ℕ, ◌≡◌, ◌≢◌, List, ◌++◌, codes, decimal, drop, get_or, ap, arith}
use Rattle.sok_entry.specs.declared.claim.Claim.{Claim}
use Rattle.sok_entry.specs.declared.claim.Claim.TheVariants.{Pushes, Unsolvable}
use Rattle.sok_entry.specs.Text.{IsSmall, claim_line}
use Rattle.sok_entry.specs.Reading.{IsClaimLine}

pub IsClaimLine-unsolvable : (line : List ℕ) → line ≡ codes "unsolvable" → IsClaimLine line Unsolvable
unfolding claim_line
IsClaimLine-unsolvable line same = (tt, same)

pub IsClaimLine-pushes : (word : List ℕ) (k : ℕ) → IsSmall k × (word ≡ decimal k) → IsClaimLine (codes "pushes " ++ word) (Pushes k)
unfolding claim_line
IsClaimLine-pushes word k is = (is.0, ap (λ w. codes "pushes " ++ w) is.1)

pushes_word : (word : List ℕ) (k : ℕ) → codes "pushes " ++ word ≡ claim_line (Pushes k) → word ≡ decimal k
unfolding claim_line
pushes_word word k same = ap (drop 7) same

not_unsolvable : (word : List ℕ) → codes "pushes " ++ word ≡ claim_line Unsolvable → ⊥
unfolding claim_line
not_unsolvable word same = omega (arith, ap (λ line. get_or line 0 0) same)

-- behind `pushes ` stands no number
pub no_pushes : (word : List ℕ) → ((k : ℕ) → IsSmall k × (word ≡ decimal k) → ⊥) → (claim : Claim) → IsClaimLine (codes "pushes " ++ word) claim → ⊥
no_pushes word none (Pushes k) is = none k (is.0, pushes_word word k is.1)
no_pushes word none Unsolvable is = not_unsolvable word is.1

-- a line of neither form
pub no_claim : (line : List ℕ) → line ≢ codes "unsolvable" → ((word : List ℕ) → line ≢ codes "pushes " ++ word) → (claim : Claim) → IsClaimLine line claim → ⊥
unfolding claim_line
no_claim line plain pushes (Pushes k) is = pushes (decimal k) is.1
no_claim line plain pushes Unsolvable is = plain is.1

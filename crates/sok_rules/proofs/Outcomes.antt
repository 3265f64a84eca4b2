-- A list of letters has one outcome.
use Rattle.std.proofs.Common.{ℕ, ◌≡◌, ◌<◌, ◌≤◌, ◌+◌, inl, inr, List, [], ◌∷◌, Some, None, Bool, true, false, IsTrue, IsSome, IsNone, zero, suc}
use Rattle.std.proofs.Common.{nat_lt, length, take, true≢false, sym, ◌∙◌, refl, subst, arith}
use Rattle.std.proofs.lemmas.Bool.{cases_Bool}
use Rattle.std.proofs.lemmas.Bool.Decides.{nat_tests}
use Rattle.std.proofs.lemmas.List.{take_all}
use Rattle.std.specs.Option.{option_and_then}
use Rattle.sok_rules.specs.declared.cell.Dir.{Dir}
use Rattle.sok_rules.specs.declared.play.Tally.{Tally}
use Rattle.sok_rules.specs.Squares.{Rows}
use Rattle.sok_rules.specs.Play.{After, Position, run, start, step}
use Rattle.sok_rules.specs.Replay.{IsTally, IsBlockedAt}

-- a list with an illegal letter stays illegal, however it goes on
pub none_longer : (rows : Rows) (w : List Dir) (x : Position) (n m : ℕ) → n ≤ m → IsNone (run rows x (take n w)) → IsNone (run rows x (take m w))
none_longer rows w x zero m shorter none = absurd (true≢false none)
none_longer rows [] x (suc n) m shorter none = absurd (true≢false none)
none_longer rows (d ∷ w) x (suc n) zero shorter none = absurd (omega arith)
none_longer rows (d ∷ w) x (suc n) (suc m) shorter none =
    elim (step rows d x) as (λ o. IsNone (option_and_then (λ (after : After). run rows after.position (take n w)) o)
    → IsNone (option_and_then (λ (after : After). run rows after.position (take m w)) o)) [
      | None ↦ λ still. still
      | Some a ↦ none_longer rows w a.position n m (omega arith)
    ] none

-- the place of the first illegal letter is no later than any other such place
blocked_order : (rows : Rows) (w : List Dir) (i j : ℕ) → IsBlockedAt rows w i → IsBlockedAt rows w j → i < j → ⊥
blocked_order rows w i j a b less =
    true≢false (sym b.legal ∙ none_longer rows w (start rows) (i + 1) j (omega arith) a.blocked)

pub blocked_one : (rows : Rows) (w : List Dir) (i j : ℕ) → IsBlockedAt rows w i → IsBlockedAt rows w j → i ≡ j
blocked_one rows w i j a b = elim (cases_Bool (nat_lt i j)) [
  | inl less ↦ absurd (blocked_order rows w i j a b (grind (arith, nat_tests)))
  | inr more ↦ elim (cases_Bool (nat_lt j i)) [
    | inl less ↦ absurd (blocked_order rows w j i b a (grind (arith, nat_tests)))
    | inr same ↦
        grind (arith, nat_tests)
  ]
]

pub blocked_not_legal : (rows : Rows) (w : List Dir) (i : ℕ) → IsBlockedAt rows w i → IsSome (run rows (start rows) w) → ⊥
blocked_not_legal rows w i blocked legal =
    let within : i < length w = blocked.within in
    true≢false (sym legal ∙
    subst (λ v. IsNone (run rows (start rows) v)) (take_all (length w) w (omega arith))
    (none_longer rows w (start rows) (i + 1) (length w) (omega arith) blocked.blocked))

same_bool : (a b : Bool) → (IsTrue a → IsTrue b) → (IsTrue b → IsTrue a) → a ≡ b
same_bool true true there back = refl
same_bool true false there back = absurd (true≢false (sym (there refl)))
same_bool false true there back = absurd (true≢false (sym (back refl)))
same_bool false false there back = refl

pub tally_one : (rows : Rows) (w : List Dir) (a b : Tally) → IsTally rows w a → IsTally rows w b → a ≡ b
tally_one rows w a b is_a is_b =
    let solved = same_bool a.solved b.solved (λ yes. is_b.solved.1 (is_a.solved.0 yes)) (λ yes. is_a.solved.1 (is_b.solved.0 yes)) in
    let pushes = is_a.pushes ∙ sym is_b.pushes in
    let moves = is_a.moves ∙ sym is_b.moves in
    λ i. record { solved = solved i; pushes = pushes i; moves = moves i }

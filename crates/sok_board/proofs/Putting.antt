-- Putting a square into a rising list from which another is left out.
use Rattle.std.proofs.Common.{ℕ, ◌≡◌, refl, sym, List, [], ◌∷◌, ◌++◌, Bool, true, false, ◌∙◌, ap, cond, not, ◌==◌, nat_lt}
use Rattle.std.proofs.lemmas.List.{append_assoc}
use Rattle.sok_board.specs.BoxSets.{put_in_order, without}

-- what is still to be put, before and after to has been
abbrev pub left_to_put : Bool → ℕ → ℕ → List ℕ → List ℕ
left_to_put put from to todo = cond put (without from todo) (put_in_order from to todo)

-- to is put before the first square past it
pub put-here : (after : List ℕ) (from to s : ℕ) (todo : List ℕ) → nat_lt to s ≡ true
    → (after ++ to ∷ []) ++ left_to_put true from to (s ∷ todo) ≡ after ++ left_to_put false from to (s ∷ todo)
unfolding put_in_order
put-here after from to s todo past =
    append_assoc after (to ∷ []) (without from (s ∷ todo))
    ∙ ap (λ b. after ++ cond b (to ∷ without from (s ∷ todo)) (cond (s == from) (put_in_order from to todo) (s ∷ put_in_order from to todo))) (sym past)

-- a square that stays is put as it comes
pub put-next : (after : List ℕ) (put : Bool) (from to s : ℕ) (todo : List ℕ) → (put ≡ false → nat_lt to s ≡ false) → (s == from) ≡ false
    → (after ++ s ∷ []) ++ left_to_put put from to todo ≡ after ++ left_to_put put from to (s ∷ todo)
unfolding put_in_order
put-next after true from to s todo before stays =
    append_assoc after (s ∷ []) (without from todo) ∙ ap (λ b. after ++ cond (not b) (s ∷ without from todo) (without from todo)) (sym stays)
put-next after false from to s todo before stays =
    append_assoc after (s ∷ []) (put_in_order from to todo)
    ∙ (λ i. after ++ cond (sym (before refl) i) (to ∷ without from (s ∷ todo)) (cond (sym stays i) (put_in_order from to todo) (s ∷ put_in_order from to todo)))

-- the square that is left out
pub put-none : (after : List ℕ) (put : Bool) (from to s : ℕ) (todo : List ℕ) → (put ≡ false → nat_lt to s ≡ false) → (s == from) ≡ true
    → after ++ left_to_put put from to todo ≡ after ++ left_to_put put from to (s ∷ todo)
unfolding put_in_order
put-none after true from to s todo before leaves = ap (λ b. after ++ cond (not b) (s ∷ without from todo) (without from todo)) (sym leaves)
put-none after false from to s todo before leaves =
    (λ i. after ++ cond (sym (before refl) i) (to ∷ without from (s ∷ todo)) (cond (sym leaves i) (put_in_order from to todo) (s ∷ put_in_order from to todo)))

-- at the end
pub put-last : (from to : ℕ) → put_in_order from to [] ≡ to ∷ []
unfolding put_in_order
put-last from to = refl

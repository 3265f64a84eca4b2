-- Elements behind others, as a vector is filled up with them.
use Rattle.std.proofs.Common.{ℕ, ◌≡◌, ◌+◌, ◌-◌, List, ◌++◌, length, replicate, take, ap, ◌∙◌, arith}
use Rattle.std.proofs.lemmas.List.{take_all}

pub filled : {X : Type 0} (xs : List X) (x : X) (room held n : ℕ) → held ≡ length xs → room ≡ length xs + n
    → take room xs ++ replicate (room - held) x ≡ xs ++ replicate n x
filled xs x room held n is all =
    let more : room - held ≡ n = omega arith in
    ap (λ front. front ++ replicate (room - held) x) (take_all room xs (omega arith)) ∙ ap (λ k. xs ++ replicate k x) more

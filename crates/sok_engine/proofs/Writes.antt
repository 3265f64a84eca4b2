-- What a writer holds as a text is written.
use Rattle.std.proofs.Common.{◌≡◌, ◌∙◌, ◌<◌, ◌-◌, ℕ, List, [], ◌++◌, Option, length, take, drop, sym, ap, subst, refl, arith, append_assoc, append-nil}
use Rattle.std.proofs.Common.{take-append-drop, length-append}
use Rattle.std.proofs.lemmas.List.{take_at, take_rest}
use Rattle.std.specs.Io.KnownBytes.{Appends, Keeps}
use Rattle.std.proofs.KnownBytes.{Appends-kept, Appends-trans}
use Rattle.sok_engine.specs.Written.{AppendsFront}

-- a write took n bytes of the rest
pub more_done : (all done rest : List ℕ) (n : ℕ) → all ≡ done ++ rest → all ≡ (done ++ take n rest) ++ take (length rest - n) (drop n rest)
more_done all done rest n e =
    e ∙ ap (λ l. done ++ l) (sym (take-append-drop n rest)) ∙ sym (append_assoc done (take n rest) (drop n rest))
    ∙ ap (λ l. (done ++ take n rest) ++ l) (sym (take_rest rest n))

stops : (a b : Option (List ℕ)) (all done rest : List ℕ) → all ≡ done ++ rest → 0 < length rest → Appends a b done → AppendsFront a b all
stops a b all done rest split more written =
    let front : take (length done) all ≡ done = ap (take (length done)) split ∙ take_at done rest _ refl in
    (length done, omega (arith, ap length split ∙ length-append done rest), subst (Appends a b) (sym front) written)

pub stops_at_error : (a b c : Option (List ℕ)) (all done rest : List ℕ) → all ≡ done ++ rest → 0 < length rest → Appends a b done → Keeps b c
    → AppendsFront a c all
stops_at_error a b c all done rest split more written kept = stops a c all done rest split more (Appends-kept a b c done written kept)

pub stops_at_none : (a b c : Option (List ℕ)) (all done rest : List ℕ) (n : ℕ) → all ≡ done ++ rest → 0 < length rest → Appends a b done
    → Appends b c (take n rest) → n ≡ 0
    → AppendsFront a c all
stops_at_none a b c all done rest n split more written none zero =
    let nothing : Appends b c [] = subst (λ k. Appends b c (take k rest)) zero none in
    stops a c all done rest split more (subst (Appends a c) (append-nil done) (Appends-trans a b c done [] written nothing))

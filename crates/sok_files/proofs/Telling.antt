-- What a line holds once a text was written into it, and what is told by writing it.
use Rattle.std.proofs.Common.{ℕ, ◌≡◌, ◌∙◌, inl, inr, List, [], ◌∷◌, ◌++◌, Option, Some, Result, Ok, Err, OnErr, OnOk, ap, is_ok, subst, sym, true, true≢false}
use Rattle.std.proofs.lemmas.List.{append-nil, append_assoc}
use Rattle.std.specs.Fmt.{WritesText, with_newline}
use Rattle.std.specs.Io.KnownBytes.{Appends}
use Rattle.std.specs.List.{FoldsTo, concat}
use Rattle.sok_engine.specs.Written.{AppendsFront}
use Rattle.sok_files.specs.Endings.{AppendsUpTo}

-- a step appends its part to the contents of a good writer, and leaves it good
abbrev AppendsIf : {W : Type 0} → (W → Type 0) → (W → List ℕ) → W → List ℕ → W → Type 0
AppendsIf IsGood contents a part b = IsGood a → IsGood b × (contents b ≡ contents a ++ part)

-- so do steps that succeeded
contents-after : {W : Type 0} (IsGood : W → Type 0) (contents : W → List ℕ) (parts : List (List ℕ)) (a b : W) → IsGood a
    → FoldsTo (AppendsIf IsGood contents) a parts b → contents b ≡ contents a ++ concat parts
contents-after IsGood contents [] a b good same = ap contents (sym same) ∙ sym (append-nil (contents a))
contents-after IsGood contents (part ∷ parts) a b good (next, appends, rest) =
    contents-after IsGood contents parts next b (appends good).0 rest ∙ ap (λ text. text ++ concat parts) (appends good).1
    ∙ append_assoc (contents a) part (concat parts)

-- an empty line holds a text and its end
pub line-of : {W E : Type 0} (IsGood : W → Type 0) (contents : W → List ℕ) (text : List ℕ) (a b : W) (result : Result (Unit {0}) E) → IsGood a
    → contents a ≡ [] → is_ok result ≡ true → OnOk result (WritesText (AppendsIf IsGood contents) a (with_newline (Some text)) b) → contents b ≡ text ++ 10 ∷ []
line-of IsGood contents text a b (Ok _) good empty ok wrote =
    contents-after IsGood contents wrote.parts a b good wrote.calls ∙ ap (λ front. front ++ concat wrote.parts) empty ∙ wrote.whole
line-of IsGood contents text a b (Err _) good empty ok wrote = absurd (true≢false (sym ok))

-- a text is told where all of it was written, or a front of it where that failed
pub AppendsUpTo-written : {E : Type 0} (old new : Option (List ℕ)) (bytes text : List ℕ) (result : Result (Unit {0}) E) → bytes ≡ text
    → OnOk result (Appends old new bytes) → OnErr result (AppendsFront old new bytes) → AppendsUpTo old new text
AppendsUpTo-written old new bytes text (Ok _) same ok err = inl (subst (Appends old new) same ok)
AppendsUpTo-written old new bytes text (Err _) same ok err = inr (subst (AppendsFront old new) same err)

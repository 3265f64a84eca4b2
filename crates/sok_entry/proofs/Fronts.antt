-- Where the number at the front of a text ends.
use Rattle.std.proofs.Common.{ℕ, ◌≡◌, ◌<◌, ◌≤◌, ◌+◌, ◌∙◌, inl, inr, zero, suc, sym, ap, subst, List, [], ◌∷◌, ◌++◌, arith, decimal, drop, get_or, length, take}
use Rattle.std.proofs.Math.ListN.{get_or-append}
use Rattle.std.proofs.Math.Seq.{get_or-append_seam}
use Rattle.std.proofs.lemmas.Bool.{cases_lt}
use Rattle.std.proofs.lemmas.List.{append-nil, get_or-take, length-append, length-take-le, take-append-le}
use Rattle.std.proofs.lemmas.Str.Parse.{digit_at, digits_value-take-le}
use Rattle.std.specs.Int.{IsInRange}
use Rattle.std.specs.Str.Parse.{AllDigits, digits_value}
use Rattle.sok_entry.specs.Text.{IsSmall}
use Rattle.sok_entry.specs.Fronts.{BeginsWith, EndsNumber, HasDigits}
use Rattle.sok_entry.proofs.Numbers.{IsNumeral-decimal, value-decimal}

-- a place behind which a number may end is that of a space, or the end
pub space-ends : (text : List ℕ) (count : ℕ) → count < length text → get_or text count 0 ≡ 32 → EndsNumber (drop count text)
space-ends [] count within space = absurd (omega (arith, within))
space-ends (c ∷ cs) zero within space = space
space-ends (c ∷ cs) (suc k) within space = space-ends cs k (omega (arith, within)) space

pub ends-space : (text : List ℕ) (count : ℕ) → EndsNumber (drop count text) → count < length text → get_or text count 0 ≡ 32
ends-space [] count ends within = absurd (omega (arith, within))
ends-space (c ∷ cs) zero ends within = ends
ends-space (c ∷ cs) (suc k) ends within = ends-space cs k ends (omega (arith, within))

pub end-ends : (text : List ℕ) → EndsNumber (drop (length text) text)
end-ends [] = tt
end-ends (c ∷ cs) = end-ends cs

module _ (text : List ℕ) (n : ℕ) (rest : List ℕ) (begins : BeginsWith text n rest) where
  -- behind the number stands a space
  behind : length (decimal n) < length text → get_or text (length (decimal n)) 0 ≡ 32
  behind within = at_seam rest begins.spelled begins.ends
    where
      at_seam : (more : List ℕ) → text ≡ decimal n ++ more → EndsNumber more → get_or text (length (decimal n)) 0 ≡ 32
      at_seam [] spelled ends = absurd (omega (arith, within, ap length (spelled ∙ append-nil (decimal n))))
      at_seam (c ∷ more) spelled ends = ap (λ t. get_or t (length (decimal n)) 0) spelled ∙ get_or-append_seam (decimal n) c more 0 ∙ ends

  -- the number itself has digits alone
  pub digit-inside : (at : ℕ) → at < length (decimal n) → IsInRange 48 57 (get_or text at 0)
  digit-inside at below = subst (IsInRange 48 57)
      (sym (ap (λ t. get_or t at 0) begins.spelled ∙ get_or-append (decimal n) rest 0 at below))
      (digit_at (decimal n) at (IsNumeral-decimal n begins.small).1 below)

  -- no more digits stand at the front
  not-past : (count : ℕ) → count ≤ length text → AllDigits 10 (take count text) → length (decimal n) < count → ⊥
  not-past count within digits before =
      let long = length-take-le count text within in
      let digit = digit_at (take count text) (length (decimal n)) digits (omega (arith, before, long)) in
      let space = behind (omega (arith, before, within)) in
      omega (arith, digit.0, get_or-take count text (length (decimal n)) 0 before, space)

  -- behind digits alone another digit, if it is one, is of the number
  pub inside : (at : ℕ) → at < length text → AllDigits 10 (take at text) → (get_or text at 0 ≡ 32 → ⊥) → at < length (decimal n)
  inside at within digits other = elim (cases_lt at (length (decimal n))) [
    | inl below ↦ below
    | inr past ↦ absurd (elim (cases_lt (length (decimal n)) at) [
      | inl before ↦ not-past at (omega (arith, within)) digits before
      | inr here ↦
          let same : length (decimal n) ≡ at = omega (arith, past, here) in
          other (ap (λ k. get_or text k 0) (sym same) ∙ behind (omega (arith, same, within)))
    ])
  ]

  -- and the value so far is no greater
  pub value-below : (at : ℕ) → at < length (decimal n) → digits_value 10 (take (at + 1) text) ≤ n
  value-below at below =
      let front : take (at + 1) text ≡ take (at + 1) (decimal n) =
      ap (take (at + 1)) begins.spelled ∙ take-append-le (at + 1) (decimal n) rest (omega (arith, below)) in
      omega (arith, ap (digits_value 10) front, digits_value-take-le 10 (decimal n) (at + 1) (omega arith), value-decimal n begins.small)

  -- digits up to a place where a number may end are those of the number
  pub exact : (value count : ℕ) → HasDigits text value count → count ≡ length (decimal n)
  exact value count has = elim (cases_lt count (length (decimal n))) [
    | inl short ↦
        let longer : length (decimal n) ≤ length text = let all = ap length begins.spelled in let both = length-append (decimal n) rest in omega (arith, all, both) in
        let space = ends-space text count has.ends (omega (arith, short, longer)) in
        let digit = digit-inside count short in
        absurd (omega (arith, digit.0, space))
    | inr past ↦ elim (cases_lt (length (decimal n)) count) [
      | inl before ↦ absurd (not-past count has.within has.digits before)
      | inr here ↦ omega (arith, past, here)
    ]
  ]

-- a word that is a number begins with it
alone : (word : List ℕ) (n : ℕ) → IsSmall n → word ≡ decimal n → BeginsWith word n []
alone word n small is = record { small = small; spelled = is ∙ sym (append-nil (decimal n)); ends = tt }

-- so it begins with one in any case
pub begins-alone : (word : List ℕ) → ((n : ℕ) (rest : List ℕ) → BeginsWith word n rest → ⊥) → (n : ℕ) → IsSmall n × (word ≡ decimal n) → ⊥
begins-alone word none n (small, is) = none n [] (alone word n small is)

-- and nothing stands behind it
pub nothing-behind : (word : List ℕ) (n : ℕ) (rest : List ℕ) → BeginsWith word n rest → 1 ≤ length rest → (m : ℕ) → IsSmall m × (word ≡ decimal m) → ⊥
nothing-behind word n rest begins some m (small, is) =
    let all = ap length begins.spelled in
    let both = length-append (decimal n) rest in
    let within : length (decimal n) < length word = omega (arith, all, both, some) in
    let digit = digit-inside word m [] (alone word m small is) (length (decimal n)) (let long = ap length is in omega (arith, within, long)) in
    omega (arith, digit.0, behind word n rest begins within)

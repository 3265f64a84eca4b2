-- Four rows at once that a round leaves alone.
use Rattle.std.proofs.Common.{ℕ, ◌≡◌, ◌<◌, ◌≤◌, ◌+◌, ◌-◌, inl, inr, zero, suc, List, [], ◌∷◌, refl, sym, ap, ◌∙◌, arith, get_or, length, bit_or, bit_xor}
use Rattle.std.specs.Int.Bits.{or_add_and, xor_add_and, xor_self}
use Rattle.std.specs.Simd.Lanes.{fold_l, zip2, chunk}
use Rattle.std.proofs.lemmas.Bool.{cases_lt}
use Rattle.std.proofs.lemmas.Nat.{and_le_l, and_le_r}
use Rattle.std.proofs.lemmas.Simd.{length-zip2, length-chunk, get_or-chunk, get_or-zip2}
use Rattle.sok_field.specs.Rounds.{spread_row}

pub or-zero : (a b : ℕ) → bit_or a b ≡ 0 → (a ≡ 0) × (b ≡ 0)
or-zero a b e =
    let all = or_add_and a b in
    let left = and_le_l a b in
    let right = and_le_r a b in
    (omega (arith, all, left, right, e), omega (arith, all, left, right, e))

pub xor-zero : (a b : ℕ) → bit_xor a b ≡ 0 → a ≡ b
xor-zero a b e =
    let all = xor_add_and a b in
    let left = and_le_l a b in
    let right = and_le_r a b in
    omega (arith, all, left, right, e)

at-each : (x : ℕ) (xs : List ℕ) → x ≡ 0 → ((k : ℕ) → get_or xs k 0 ≡ 0) → (k : ℕ) → get_or (x ∷ xs) k 0 ≡ 0
at-each x xs this rest zero = this
at-each x xs this rest (suc k) = rest k

-- no bit is set in any lane
lanes-from_fold : (a : ℕ) (xs : List ℕ) → fold_l bit_or a xs ≡ 0 → (a ≡ 0) × ((k : ℕ) → get_or xs k 0 ≡ 0)
lanes-from_fold a [] e = (e, λ k. refl)
lanes-from_fold a (x ∷ xs) e =
    let (both, rest) = lanes-from_fold (bit_or a x) xs e in
    let (first, this) = or-zero a x both in
    (first, at-each x xs this rest)

fold-from_lanes : (a : ℕ) (xs : List ℕ) → a ≡ 0 → ((k : ℕ) → k < length xs → get_or xs k 0 ≡ 0) → fold_l bit_or a xs ≡ 0
fold-from_lanes a [] none each = none
fold-from_lanes a (x ∷ xs) none each =
    let all = or_add_and a x in
    let this : x ≡ 0 = each 0 (omega arith) in
    fold-from_lanes (bit_or a x) xs (omega (arith, all, none, this)) (λ k below. each (suc k) (omega (arith, below)))

-- which bits a round turns in the rows from one on, if it makes them these four
abbrev turned : List ℕ → List ℕ → ℕ → List ℕ
turned seen four r = zip2 bit_xor four (chunk r 4 seen)

get_or-turned : (seen four : List ℕ) (r k : ℕ) → length four ≡ 4 → r + 4 ≤ length seen → k < 4
    → get_or (turned seen four r) k 0 ≡ bit_xor (get_or four k 0) (get_or seen (r + k) 0)
get_or-turned seen four r k long room within =
    let whole = length-chunk r 4 seen room in
    get_or-zip2 bit_xor four (chunk r 4 seen) k 0 0 0 (omega (arith, long, within)) (omega (arith, whole, within))
    ∙ ap (bit_xor (get_or four k 0)) (get_or-chunk r 4 seen k 0 within)

-- where it turns none it leaves the rows as they are
pub closed-lanes : (seen free four : List ℕ) (r : ℕ) → length four ≡ 4 → r + 4 ≤ length seen
    → ((j : ℕ) → j < 4 → get_or four j 0 ≡ spread_row seen free (r + j)) → fold_l bit_or 0 (turned seen four r) ≡ 0
    → ((k : ℕ) → k < r → get_or seen k 0 ≡ spread_row seen free k) → (k : ℕ) → k < r + 4 → get_or seen k 0 ≡ spread_row seen free k
closed-lanes seen free four r long room lanes none done k within = elim (cases_lt k r) [
  | inl before ↦ done k before
  | inr past ↦
      let below : k - r < 4 = omega arith in
      let at : r + (k - r) ≡ k = omega arith in
      let same = xor-zero (get_or four (k - r) 0) (get_or seen (r + (k - r)) 0)
      (sym (get_or-turned seen four r (k - r) long room below) ∙ (lanes-from_fold 0 (turned seen four r) none).1 (k - r)) in
      ap (λ n. get_or seen n 0) (sym at) ∙ sym same ∙ lanes (k - r) below ∙ ap (spread_row seen free) at
]

pub lanes-closed : (seen free four : List ℕ) (r : ℕ) → length four ≡ 4 → r + 4 ≤ length seen
    → ((j : ℕ) → j < 4 → get_or four j 0 ≡ spread_row seen free (r + j)) → ((k : ℕ) → get_or seen k 0 ≡ spread_row seen free k)
    → fold_l bit_or 0 (turned seen four r) ≡ 0
lanes-closed seen free four r long room lanes closed =
    let whole = length-zip2 bit_xor four (chunk r 4 seen) (long ∙ sym (length-chunk r 4 seen room)) in
    fold-from_lanes 0 (turned seen four r) refl (λ k below.
    let within : k < 4 = omega (arith, below, whole, long) in
    get_or-turned seen four r k long room within ∙ ap (λ n. bit_xor n (get_or seen (r + k) 0)) (lanes k within ∙ sym (closed (r + k)))
    ∙ xor_self (get_or seen (r + k) 0))

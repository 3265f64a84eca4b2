-- Rounds over both halves: what comes across the seam.
use Rattle.std.proofs.Common.{ℕ, ◌≡◌, ◌<◌, ◌≤◌, ◌+◌, inl, inr, List, sym, subst, ap, ◌∙◌, arith, get_or, set, length, bit_and, bit_or}
use Rattle.std.specs.Int.Bits.{and_zero_l}
use Rattle.std.proofs.lemmas.Bool.{cases_eq, cases_lt}
use Rattle.std.proofs.lemmas.List.{get_or_past, get_or-set_other, length-set}
use Rattle.std.proofs.lemmas.Nat.Bits.{bit_at-lt, bit_at_and, bit_at_or, same_from_bits}
use Rattle.sok_field.specs.Rounds.{above, spread_beside, spread_row, widened}
use Rattle.sok_field.proofs.OneSquare.{set-same}

-- what comes across is added
pub beside-row : (across : ℕ) (seen free : List ℕ) (r : ℕ)
    → bit_or (spread_row seen free r) (bit_and (get_or free r 0) across) ≡ spread_beside across seen free r
unfolding spread_row spread_beside
beside-row across seen free r =
    let f = get_or free r 0 in
    let x = widened (get_or seen r 0) in
    let over = above seen r in
    let under = get_or seen (r + 1) 0 in
    same_from_bits _ _ (λ c.
    let one = bit_at_or (bit_and f (bit_or (bit_or x over) under)) (bit_and f across) c in
    let two = bit_at_and f (bit_or (bit_or x over) under) c in
    let three = bit_at_or (bit_or x over) under c in
    let four = bit_at_or x over c in
    let five = bit_at_and f across c in
    let six = bit_at_and f (bit_or (bit_or (bit_or x across) over) under) c in
    let seven = bit_at_or (bit_or (bit_or x across) over) under c in
    let eight = bit_at_or (bit_or x across) over c in
    let nine = bit_at_or x across c in
    let f_small = bit_at-lt f c in
    let x_small = bit_at-lt x c in
    let over_small = bit_at-lt over c in
    let under_small = bit_at-lt under c in
    let across_small = bit_at-lt across c in
    omega (arith, one, two, three, four, five, six, seven, eight, nine, f_small, x_small, over_small, under_small, across_small))

-- the rows before an end have what comes across, and the others what their half tells
pub record AreAcross (across : ℕ → ℕ) (seen free out : List ℕ) (r : ℕ) : Type 0 where
  pub whole : length out ≡ length seen
  pub done : (k : ℕ) → k < r → get_or out k 0 ≡ spread_beside (across k) seen free k
  pub rest : (k : ℕ) → r ≤ k → get_or out k 0 ≡ spread_row seen free k

-- no more is added where nothing comes across
pub AreAcross-stays : {across : ℕ → ℕ} {seen free out : List ℕ} {r : ℕ} → AreAcross across seen free out r
    → bit_or (get_or out r 0) (bit_and (get_or free r 0) (across r)) ≡ get_or out r 0 → AreAcross across seen free out (r + 1)
AreAcross-stays {across = across} {seen = seen} {free = free} {out = out} {r = r} are none = record {
  whole = are.whole;
  done = λ k below. elim (cases_eq k r) [
    | inl same ↦
        subst (λ n. get_or out n 0 ≡ spread_beside (across n) seen free n) (sym same)
        (sym none ∙ ap (λ row. bit_or row (bit_and (get_or free r 0) (across r))) (are.rest r (omega arith)) ∙ beside-row (across r) seen free r)
    | inr apart ↦ are.done k (omega (arith, below, apart))
  ];
  rest = λ k past. are.rest k (omega (arith, past));
}

-- and nothing does where a round over both changes no row
pub none-across : {across : ℕ → ℕ} {seen free out : List ℕ} {r : ℕ} → AreAcross across seen free out r → get_or seen r 0 ≡ spread_row seen free r
    → get_or seen r 0 ≡ spread_beside (across r) seen free r → bit_or (get_or out r 0) (bit_and (get_or free r 0) (across r)) ≡ get_or out r 0
none-across {across = across} {seen = seen} {free = free} {out = out} {r = r} are closed beside =
    let same : get_or out r 0 ≡ spread_row seen free r = are.rest r (omega arith) in
    ap (λ row. bit_or row (bit_and (get_or free r 0) (across r))) same ∙ beside-row (across r) seen free r ∙ sym beside ∙ closed ∙ sym same

pub AreAcross-more : {across : ℕ → ℕ} {seen free out : List ℕ} {r : ℕ} → AreAcross across seen free out r → r < length out
    → AreAcross across seen free (set out r (bit_or (get_or out r 0) (bit_and (get_or free r 0) (across r)))) (r + 1)
AreAcross-more {across = across} {seen = seen} {free = free} {out = out} {r = r} are within =
    let word = bit_or (get_or out r 0) (bit_and (get_or free r 0) (across r)) in record {
      whole = length-set out r word ∙ are.whole;
      done = λ k below. elim (cases_eq k r) [
        | inl same ↦
            set-same out r word k within same ∙ ap (λ row. bit_or row (bit_and (get_or free r 0) (across r))) (are.rest r (omega arith))
            ∙ beside-row (across r) seen free r ∙ ap (λ n. spread_beside (across n) seen free n) (sym same)
        | inr apart ↦ get_or-set_other out r k word 0 apart ∙ are.done k (omega (arith, below, apart))
      ];
      rest = λ k past. get_or-set_other out r k word 0 (λ same. omega (arith, same, past)) ∙ are.rest k (omega (arith, past));
    }

beside-past : (across : ℕ) (seen free : List ℕ) (r : ℕ) → length free ≤ r → spread_beside across seen free r ≡ 0
unfolding spread_beside
beside-past across seen free r past =
    let rest = bit_or (bit_or (bit_or (widened (get_or seen r 0)) across) (above seen r)) (get_or seen (r + 1) 0) in
    ap (λ f. bit_and f rest) (get_or_past free r 0 past) ∙ and_zero_l rest

-- so each row is that of the round, once those that there are are
pub every-across : {across : ℕ → ℕ} {seen free out : List ℕ} {r : ℕ} → AreAcross across seen free out r → length free ≡ length seen → length seen ≤ r
    → (k : ℕ) → get_or out k 0 ≡ spread_beside (across k) seen free k
every-across {across = across} {seen = seen} {free = free} {out = out} {r = r} are long all k = elim (cases_lt k r) [
  | inl below ↦ are.done k below
  | inr past ↦ get_or_past out k 0 (omega (arith, are.whole, all, past)) ∙ sym (beside-past (across k) seen free k (omega (arith, long, all, past)))
]

-- Rounds, row by row.
use Rattle.std.proofs.Common.{ℕ, ◌≡◌, ◌<◌, ◌≤◌, ◌+◌, ◌-◌, zero, suc, List, refl, sym, ap, ◌∙◌, arith, inl, inr, get_or, length, bit_and, bit_or}
use Rattle.std.proofs.lemmas.Bool.{cases_lt}
use Rattle.std.proofs.lemmas.List.{get_or_past}
use Rattle.std.specs.Int.Bits.{and_zero_l}
use Rattle.sok_field.specs.Rounds.{above, widened, spread_row}

pub above-first : (rows : List ℕ) (r : ℕ) → r ≡ 0 → above rows r ≡ 0
above-first rows zero first = refl
above-first rows (suc r) first = absurd (omega (arith, first))

pub above-later : (rows : List ℕ) (r : ℕ) → 0 < r → above rows r ≡ get_or rows (r - 1) 0
above-later rows zero later = absurd (omega (arith, later))
above-later rows (suc r) later = let back : r ≡ suc r - 1 = omega arith in ap (λ k. get_or rows k 0) back

-- a row is the one above the next
pub above-more : (rows : List ℕ) (r : ℕ) → get_or rows r 0 ≡ above rows (r + 1)
above-more rows r = let next : suc r ≡ r + 1 = omega arith in ap (above rows) next

pub spread_row-of : (seen free : List ℕ) (r over under : ℕ) → above seen r ≡ over → under ≡ get_or seen (r + 1) 0
    → bit_and (get_or free r 0) (bit_or (bit_or (widened (get_or seen r 0)) over) under) ≡ spread_row seen free r
unfolding spread_row
spread_row-of seen free r over under is_over is_under =
    (λ i. bit_and (get_or free r 0) (bit_or (bit_or (widened (get_or seen r 0)) (sym is_over i)) (is_under i)))

-- past the end there is nothing
spread_row-past : (seen free : List ℕ) (r : ℕ) → length free ≤ r → spread_row seen free r ≡ 0
unfolding spread_row
spread_row-past seen free r past =
    let rest = bit_or (bit_or (widened (get_or seen r 0)) (above seen r)) (get_or seen (r + 1) 0) in
    ap (λ f. bit_and f rest) (get_or_past free r 0 past) ∙ and_zero_l rest

-- the first rows are those of the round
pub record AreSpread (seen free out : List ℕ) (r : ℕ) : Type 0 where
  pub within : r ≤ length seen
  pub done : (k : ℕ) → k < r → get_or out k 0 ≡ spread_row seen free k

-- so each row is that of the round, if the rows that there are are
pub every-row : (seen free out : List ℕ) → length free ≡ length out → ((r : ℕ) → r < length out → get_or out r 0 ≡ spread_row seen free r) → (r : ℕ)
    → get_or out r 0 ≡ spread_row seen free r
every-row seen free out whole done r = elim (cases_lt r (length out)) [
  | inl below ↦ done r below
  | inr past ↦ get_or_past out r 0 past ∙ sym (spread_row-past seen free r (omega arith))
]

-- One square of bit rows.
use Rattle.std.proofs.Common.{ℕ, ◌≡◌, ◌<◌, ◌≤◌, ◌-◌, ◌*◌, ◌%◌, ◌^◌, ◌⊎◌, ◌↔◌, inl, inr, List, sym, ap, ◌∙◌, arith, eqb, true, false, get_or, set, replicate}
use Rattle.std.proofs.Common.{length, bit_and, bit_or}
use Rattle.std.specs.Int.{bit_at, trailing_zeros, w64}
use Rattle.std.proofs.lemmas.Bool.{cases_eq, cases_lt}
use Rattle.std.proofs.lemmas.List.{get_or_past, get_or-set_same, get_or-set_other, get_or-replicate, length-replicate}
use Rattle.std.proofs.lemmas.Nat.Bits.{bit_at-zero, bit_at_set_same, bit_at_set_other, bit_at_clear_same, bit_at_clear_other, bit_at_and, bit_at_above}
use Rattle.std.proofs.lemmas.Nat.Bits.{bit_at-trailing_zeros}
use Rattle.sok_rules.specs.declared.cell.Spot.{Spot}
use Rattle.sok_field.specs.Fields.{has, IsFirstSquare}
use Rattle.sok_field.proofs.Spreading.{bit_of, has-on, on-has}

pub same_place : (s p : Spot) → s.row ≡ p.row → s.col ≡ p.col → s ≡ p
same_place s p row col = λ i. record { row = row i; col = col i }

pub set-same : (rows : List ℕ) (r x k : ℕ) → r < length rows → k ≡ r → get_or (set rows r x) k 0 ≡ x
set-same rows r x k within same = ap (λ n. get_or (set rows r x) n 0) same ∙ get_or-set_same rows r x 0 within

cases_place : (s p : Spot) → (s ≡ p) ⊎ (s ≡ p → ⊥)
cases_place s p = elim (cases_eq s.row p.row) [
  | inl row ↦ elim (cases_eq s.col p.col) [
    | inl col ↦ inl (same_place s p row col)
    | inr apart ↦ inr (λ same. apart (ap (λ (t : Spot). t.col) same))
  ]
  | inr apart ↦ inr (λ same. apart (ap (λ (t : Spot). t.row) same))
]

-- the bit of a square in another word of its row
bit-here : (rows : List ℕ) (p : Spot) (x : ℕ) → p.row < length rows → bit_of (set rows p.row x) p.row p.col ≡ bit_at x p.col
bit-here rows p x within = ap (λ n. bit_at n p.col) (get_or-set_same rows p.row x 0 within)

-- another word of a row, in which no other bit changes, leaves the other squares
others_stay : (rows : List ℕ) (p : Spot) (x : ℕ) → p.row < length rows
    → ((c : ℕ) → (c ≡ p.col → ⊥) → bit_at x c ≡ bit_at (get_or rows p.row 0) c)
    → (s : Spot) → (s ≡ p → ⊥) → has (set rows p.row x) s ≡ has rows s
unfolding has
others_stay rows p x within stays s other = ap (λ n. eqb n 1) (elim (cases_eq s.row p.row) [
  | inl row ↦
      ap (λ n. bit_at n s.col) (set-same rows p.row x s.row within row) ∙ stays s.col (λ col. other (same_place s p row col))
      ∙ sym (ap (λ k. bit_of rows k s.col) row)
  | inr apart ↦ ap (λ n. bit_at n s.col) (get_or-set_other rows p.row s.row x 0 apart)
])

-- a square put in, or taken out
pub put-exact : (rows : List ℕ) (p : Spot) → p.row < length rows → p.col < 64 → (s : Spot)
    → (has (set rows p.row (bit_or (get_or rows p.row 0) (1 * 2 ^ p.col % 2 ^ 64))) s ≡ true) ↔ ((s ≡ p) ⊎ (has rows s ≡ true))
put-exact rows p within narrow s =
    let word = get_or rows p.row 0 in
    let x = bit_or word (1 * 2 ^ p.col % 2 ^ 64) in
    elim (cases_place s p) [
      | inl same ↦ (
        λ _. inl same,
        λ _. ap (has (set rows p.row x)) same ∙ on-has (set rows p.row x) p (bit-here rows p x within ∙ bit_at_set_same w64 word p.col narrow),
      )
      | inr other ↦
          let kept = others_stay rows p x within (bit_at_set_other w64 word p.col narrow) s other in
          (λ e. inr (sym kept ∙ e), λ one. elim one [ inl same ↦ absurd (other same) | inr e ↦ kept ∙ e ])
    ]

-- a bit that is not taken away stays, also past the word
clear-other : (word k c : ℕ) → word < 2 ^ 64 → k < 64 → (c ≡ k → ⊥) → bit_at (bit_and word (2 ^ 64 - 1 - 1 * 2 ^ k % 2 ^ 64)) c ≡ bit_at word c
clear-other word k c fits narrow apart = elim (cases_lt c 64) [
  | inl below ↦ bit_at_clear_other w64 word k narrow c below apart
  | inr past ↦
      let mask = 2 ^ 64 - 1 - 1 * 2 ^ k % 2 ^ 64 in
      let both = bit_at_and word mask c in
      let none = bit_at_above word 64 c fits past in
      omega (arith, both, none)
]

pub take-exact : (rows : List ℕ) (p : Spot) → p.row < length rows → p.col < 64 → (s : Spot) → get_or rows p.row 0 < 2 ^ 64
    → (has (set rows p.row (bit_and (get_or rows p.row 0) (2 ^ 64 - 1 - 1 * 2 ^ p.col % 2 ^ 64))) s ≡ true) ↔ ((s ≡ p → ⊥) × (has rows s ≡ true))
take-exact rows p within narrow s fits =
    let word = get_or rows p.row 0 in
    let x = bit_and word (2 ^ 64 - 1 - 1 * 2 ^ p.col % 2 ^ 64) in
    elim (cases_place s p) [
      | inl same ↦ (
        λ e.
            let on = has-on (set rows p.row x) p (ap (has (set rows p.row x)) (sym same) ∙ e) in
            let off = bit-here rows p x within ∙ bit_at_clear_same w64 word p.col narrow in
            absurd (omega (arith, on, off)),
        λ (other, _). absurd (other same),
      )
      | inr other ↦
          let kept = others_stay rows p x within (λ c. clear-other word p.col c fits narrow) s other in
          (λ e. (other, sym kept ∙ e), λ (_, e). kept ∙ e)
    ]

-- a square of a set lies in its rows
pub has-within : (rows : List ℕ) (s : Spot) → has rows s ≡ true → s.row < length rows
has-within rows s e = elim (cases_lt s.row (length rows)) [
  | inl below ↦ below
  | inr past ↦
      let on = has-on rows s e in
      let none = ap (λ n. bit_at n s.col) (get_or_past rows s.row 0 past) ∙ bit_at-zero s.col in
      absurd (omega (arith, on, none))
]

pub has-past : (rows : List ℕ) (s : Spot) → length rows ≤ s.row → has rows s ≡ false
unfolding has
has-past rows s past =
    ap (λ n. eqb (bit_at n s.col) 1) (get_or_past rows s.row 0 past) ∙ ap (λ n. eqb n 1) (bit_at-zero s.col)

pub has-is : (rows : List ℕ) (s : Spot) (word : ℕ) → word ≡ get_or rows s.row 0 → eqb (bit_at word s.col) 1 ≡ has rows s
unfolding has
has-is rows s word is = ap (λ n. eqb (bit_at n s.col) 1) is

pub has-zero : (rows : List ℕ) → ((k : ℕ) → get_or rows k 0 ≡ 0) → (s : Spot) → has rows s ≡ false
unfolding has
has-zero rows zeros s = ap (λ n. eqb (bit_at n s.col) 1) (zeros s.row) ∙ ap (λ n. eqb n 1) (bit_at-zero s.col)

-- the lowest bit of the first row that has one is the first square
pub IsFirstSquare-lowest : (rows : List ℕ) (r : ℕ) → 0 < get_or rows r 0 → get_or rows r 0 < 2 ^ 64 → ((k : ℕ) → k < r → get_or rows k 0 ≡ 0)
    → IsFirstSquare (has rows) (record { row = r; col = trailing_zeros w64 (get_or rows r 0) })
IsFirstSquare-lowest rows r some fits empty =
    let word = get_or rows r 0 in
    let low = trailing_zeros w64 word in
    let (_, on, below) = bit_at-trailing_zeros w64 word some fits in
    record {
      among = on-has rows (record { row = r; col = low }) on;
      first = λ t e.
          let there = has-on rows t e in
          elim (cases_lt t.row r) [
            | inl over ↦
                let none = ap (λ n. bit_at n t.col) (empty t.row over) ∙ bit_at-zero t.col in
                absurd (omega (arith, there, none))
            | inr from ↦ elim (cases_eq t.row r) [
              | inl same ↦ elim (cases_lt t.col low) [
                | inl left ↦
                    let none = below t.col left in
                    let here = ap (λ k. bit_of rows k t.col) same in
                    absurd (omega (arith, there, none, here))
                | inr right ↦ elim (cases_eq t.col low) [
                  | inl col ↦ inl (same_place (record { row = r; col = low }) t (sym same) (sym col))
                  | inr apart ↦ inr (inr (sym same, omega (arith, right, apart)))
                ]
              ]
              | inr apart ↦ inr (inl (omega (arith, from, apart)))
            ]
          ];
    }

-- rows of zeros have no square
pub has-zeros : (n : ℕ) (rows : List ℕ) → rows ≡ replicate n 0 → (s : Spot) → has rows s ≡ false
has-zeros n rows is = has-zero rows (λ k. elim (cases_lt k n) [
  | inl below ↦ ap (λ xs. get_or xs k 0) is ∙ get_or-replicate n k 0 0 below
  | inr past ↦ let long = ap length is ∙ length-replicate n 0 in get_or_past rows k 0 (omega (arith, past, long))
])

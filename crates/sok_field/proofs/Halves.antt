-- Sets of squares in two halves.
use Rattle.std.proofs.Common.{ℕ, ◌≡◌, ◌<◌, ◌≤◌, ◌+◌, ◌-◌, ◌*◌, ◌%◌, ◌^◌, ◌⊎◌, ◌↔◌, inl, inr, List, Bool, refl, sym, ap, ◌∙◌, subst, arith, true, false, eqb, get_or, max, take, drop, ◌++◌}
use Rattle.std.proofs.Common.{IfSome, None, Option, Some, length, true≢false}
use Rattle.std.specs.Prelude.{MatchOption}
use Rattle.std.specs.Int.{bit_at}
use Rattle.std.specs.List.{range_with_len}
use Rattle.std.proofs.lemmas.Bool.{cases_Bool, cases_eq, cases_lt}
use Rattle.std.proofs.lemmas.Grind.{same_number_lists}
use Rattle.std.proofs.lemmas.List.{get_or-map, get_or-take, get_or_past, length-drop, length-map, take-append-drop}
use Rattle.std.proofs.lemmas.List.FromFn.{get_or-range_with_len, length-range_with_len}
use Rattle.std.proofs.lemmas.Nat.Bits.{bit_at-lt, bit_at-zero, bit_at_above, bit_at_cat_high, bit_at_cat_low, same_from_bits}
use Rattle.std.proofs.lemmas.Nat.{pow_pos}
use Rattle.std.proofs.Math.Nat.{mod-lt}
use Rattle.sok_rules.specs.declared.cell.Spot.{Spot}
use Rattle.sok_board.specs.declared.spans.Span.{Span}
use Rattle.sok_field.specs.Fields.{has, IsFirstSquare, IsHigh}
use Rattle.sok_field.specs.Halves.{AreWords, beyond, halves, within}
use Rattle.sok_field.specs.Spans.{LiesOn}
use Rattle.sok_field.proofs.Heights.{none-drop, none-past}
use Rattle.sok_field.proofs.OneSquare.{same_place}
use Rattle.sok_field.proofs.Parts.{masked}
use Rattle.sok_field.proofs.Spreading.{has-on, on-has}

row-halves : (low high : List ℕ) (r : ℕ) → get_or (halves low high) r 0 ≡ get_or high r 0 * 2 ^ 64 + get_or low r 0 % 2 ^ 64
row-halves low high r =
    let rows = max (length low) (length high) in
    let row : ℕ → ℕ = λ k. get_or high k 0 * 2 ^ 64 + get_or low k 0 % 2 ^ 64 in
    let whole = length-map (range_with_len 0 rows) row ∙ length-range_with_len 0 rows in
    elim (cases_lt r rows) [
      | inl inside ↦ get_or-map row (range_with_len 0 rows) r 0 0 (omega (arith, length-range_with_len 0 rows, inside))
          ∙ (let zero : 0 + r ≡ r = omega arith in ap row (get_or-range_with_len 0 rows r 0 inside ∙ zero))
      | inr past ↦
          get_or_past (halves low high) r 0 (omega (arith, whole, past))
          ∙ (λ i. sym (get_or_past high r 0 (omega (arith, past))) i * 2 ^ 64 + sym (get_or_past low r 0 (omega (arith, past))) i % 2 ^ 64)
    ]

-- a square of the lower half
pub has-lower : (low high : List ℕ) → (s : Spot) → s.col < 64 → has (halves low high) s ≡ has low s
unfolding has
has-lower low high s inside = ap (λ n. eqb n 1)
    (ap (λ n. bit_at n s.col) (row-halves low high s.row) ∙ bit_at_cat_low (get_or high s.row 0) 64 (get_or low s.row 0 % 2 ^ 64) s.col inside
    ∙ masked (get_or low s.row 0) s.col inside)

-- and one of the upper half
pub has-upper : (low high : List ℕ) → (s : Spot) → 64 ≤ s.col → has (halves low high) s ≡ has high (within s)
unfolding has
has-upper low high s past = ap (λ n. eqb n 1)
    (ap (λ n. bit_at n s.col) (row-halves low high s.row)
    ∙ bit_at_cat_high (get_or high s.row 0) 64 (get_or low s.row 0 % 2 ^ 64) s.col (mod-lt (get_or low s.row 0) (pow_pos 64)) past)

pub has-beyond : (low high : List ℕ) → (s : Spot) → has (halves low high) (beyond s) ≡ has high s
has-beyond low high s =
    let col : s.col + 64 - 64 ≡ s.col = omega arith in
    has-upper low high (beyond s) (omega arith) ∙ ap (has high) (same_place (within (beyond s)) s refl col)

-- a square of the upper half has its column within it
pub within-same : (s t : Spot) → 64 ≤ s.col → 64 ≤ t.col → within s ≡ within t → s ≡ t
within-same s t past there same =
    let col = ap (λ (u : Spot). u.col) same in
    same_place s t (ap (λ (u : Spot). u.row) same) (omega (arith, past, there, col))

-- what is told of the squares of each half is told of all
pub by-halves : (low high new_low new_high : List ℕ) (Q : Spot → Bool → Type 0)
    → ((s : Spot) → s.col < 64 → (has new_low s ≡ true) ↔ Q s (has low s))
    → ((s : Spot) → 64 ≤ s.col → (has new_high (within s) ≡ true) ↔ Q s (has high (within s)))
    → (s : Spot) → (has (halves new_low new_high) s ≡ true) ↔ Q s (has (halves low high) s)
by-halves low high new_low new_high Q lower upper s = elim (cases_lt s.col 64) [
  | inl inside ↦
      let new = has-lower new_low new_high s inside in
      let old = has-lower low high s inside in
      (λ e. subst (Q s) (sym old) ((lower s inside).0 (sym new ∙ e)), λ q. new ∙ (lower s inside).1 (subst (Q s) old q))
  | inr past ↦
      let new = has-upper new_low new_high s past in
      let old = has-upper low high s past in
      (λ e. subst (Q s) (sym old) ((upper s past).0 (sym new ∙ e)), λ q. new ∙ (upper s past).1 (subst (Q s) old q))
]

-- a row without a square
pub none-row : (rows : List ℕ) (r : ℕ) → ((c : ℕ) → has rows (record { row = r; col = c }) ≡ false) → get_or rows r 0 ≡ 0
none-row rows r none = same_from_bits (get_or rows r 0) 0 (λ c. elim (cases_eq (bit_at (get_or rows r 0) c) 1) [
  | inl on ↦ absurd (true≢false (sym (on-has rows (record { row = r; col = c }) on) ∙ none c))
  | inr off ↦ let small = bit_at-lt (get_or rows r 0) c in let zero = bit_at-zero c in omega (arith, off, small, zero)
])

-- halves without a square
pub blank-same : (a b : List ℕ) → length a ≡ length b → ((s : Spot) → has a s ≡ false) → ((s : Spot) → has b s ≡ false) → a ≡ b
blank-same a b long none_a none_b = same_number_lists a b long (λ r _. none-row a r (λ c. none_a (record { row = r; col = c })) ∙ sym (none-row b r (λ c. none_b (record { row = r; col = c }))))

-- the rows that have squares in one of two are all that differs
pub copied-rows : (old other front : List ℕ) (from height more : ℕ) → IsHigh old height → IsHigh other more → height ≤ from → more ≤ from
    → length old ≡ length other → front ≡ take from other → front ++ drop from old ≡ other
copied-rows old other front from height more high also past also_past long front_is =
    let rest = blank-same (drop from old) (drop from other) (length-drop from old ∙ ap (λ n. n - from) long ∙ sym (length-drop from other))
    (none-drop old height from high past) (none-drop other more from also also_past) in
    ap (λ rows. rows ++ drop from old) front_is ∙ ap (λ rows. take from other ++ rows) rest ∙ take-append-drop from other

-- a lower half alone
pub none-halves : (low high : List ℕ) → ((s : Spot) → has low s ≡ false) → ((s : Spot) → has high s ≡ false)
    → (s : Spot) → has (halves low high) s ≡ false
none-halves low high none_low none_high s = elim (cases_lt s.col 64) [
  | inl inside ↦ has-lower low high s inside ∙ none_low s
  | inr past ↦ has-upper low high s past ∙ none_high (within s)
]

pub none-beyond : (rows : List ℕ) → AreWords rows → (s : Spot) → 64 ≤ s.col → has rows s ≡ false
none-beyond rows words s past = elim (cases_Bool (has rows s)) [
  | inr none ↦ none
  | inl there ↦
      let off = bit_at_above (get_or rows s.row 0) 64 s.col (words s.row) past in
      let on = has-on rows s there in
      absurd (omega (arith, on, off))
]

pub has-alone : (low high : List ℕ) → AreWords low → ((s : Spot) → has high s ≡ false) → has (halves low high) ≡ has low
has-alone low high words none = λ i s. elim (cases_lt s.col 64) as (λ _. has (halves low high) s ≡ has low s) [
  | inl inside ↦ has-lower low high s inside
  | inr past ↦ has-upper low high s past ∙ none (within s) ∙ sym (none-beyond low words s past)
] i

-- a square, or a span, of the upper half by its column within it
pub put-within : (X : Type 0) (s spot p : Spot) → 64 ≤ s.col → 64 ≤ spot.col → p ≡ within spot → ((within s ≡ p) ⊎ X) ↔ ((s ≡ spot) ⊎ X)
put-within X s spot p past there is = (
  λ one. elim one [ inl same ↦ inl (within-same s spot past there (same ∙ is)) | inr x ↦ inr x ],
  λ one. elim one [ inl same ↦ inl (ap within same ∙ sym is) | inr x ↦ inr x ],
)

pub taken-within : (X : Type 0) (s spot p : Spot) → 64 ≤ s.col → 64 ≤ spot.col → p ≡ within spot
    → ((within s ≡ p → ⊥) × X) ↔ ((s ≡ spot → ⊥) × X)
taken-within X s spot p past there is = (
  λ (other, x). (λ same. other (ap within same ∙ sym is), x),
  λ (other, x). (λ same. other (within-same s spot past there (same ∙ is)), x),
)

pub lies-within : (span part : Span) (s : Spot) → 64 ≤ s.col → 64 ≤ span.first.col → part ≡ record span { first = within span.first }
    → LiesOn part (within s) ↔ LiesOn span s
lies-within span part s past there is =
    let row = ap (λ (r : Span). r.first.row) is in
    let col = ap (λ (r : Span). r.first.col) is in
    let long = ap (λ (r : Span). r.length) is in (
      λ (on, left, right). (on ∙ row, omega (arith, left, col, past, there), omega (arith, right, col, long, past, there)),
      λ (on, left, right). (on ∙ sym row, omega (arith, left, col, past, there), omega (arith, right, col, long, past, there)),
    )

-- one equivalence and another
pub then_iff : {A B C : Type 0} → A ↔ B → B ↔ C → A ↔ C
then_iff (there, back) (on, home) = (λ a. on (there a), λ c. back (home c))

pub either-iff : (X : Type 0) {A B : Type 0} → A ↔ B → (X ⊎ A) ↔ (X ⊎ B)
either-iff X (there, back) = (
  λ one. elim one [ inl x ↦ inl x | inr a ↦ inr (there a) ],
  λ one. elim one [ inl x ↦ inl x | inr b ↦ inr (back b) ],
)

-- a half that stays, where what changes lies in the other one
pub put-elsewhere : (X : Type 0) (s spot : Spot) → (s ≡ spot → ⊥) → X ↔ ((s ≡ spot) ⊎ X)
put-elsewhere X s spot apart = (λ x. inr x, λ one. elim one [ inl same ↦ absurd (apart same) | inr x ↦ x ])

pub taken-elsewhere : (X : Type 0) (s spot : Spot) → (s ≡ spot → ⊥) → X ↔ ((s ≡ spot → ⊥) × X)
taken-elsewhere X s spot apart = (λ x. (apart, x), λ (_, x). x)

pub lies-elsewhere : (X : Type 0) (s : Spot) (span : Span) → (LiesOn span s → ⊥) → X ↔ (X ⊎ LiesOn span s)
lies-elsewhere X s span apart = (λ x. inl x, λ one. elim one [ inl x ↦ x | inr on ↦ absurd (apart on) ])

pub apart-col : (s t : Spot) → (s.col ≡ t.col → ⊥) → s ≡ t → ⊥
apart-col s t apart same = apart (ap (λ (u : Spot). u.col) same)

-- the first square of each half
first-row : (rows : List ℕ) (s t : Spot) → IsFirstSquare (has rows) s → has rows t ≡ true → s.row ≤ t.row
first-row rows s t first there = elim (first.first t there) [
  | inl same ↦ let row = ap (λ (u : Spot). u.row) same in omega (arith, row)
  | inr (inl over) ↦ omega (arith, over)
  | inr (inr (row, _)) ↦ omega (arith, row)
]

pub first-lower : (low high : List ℕ) → (s : Spot) → s.col < 64 → IsFirstSquare (has low) s
    → ((t : Spot) → has high t ≡ true → s.row ≤ t.row) → IsFirstSquare (has (halves low high)) s
first-lower low high s narrow first above = record {
  among = has-lower low high s narrow ∙ first.among;
  first = λ t there. elim (cases_lt t.col 64) [
    | inl inside ↦ first.first t (sym (has-lower low high t inside) ∙ there)
    | inr past ↦
        let over = above (within t) (sym (has-upper low high t past) ∙ there) in
        elim (cases_eq s.row t.row) [
          | inl row ↦ inr (inr (row, omega (arith, narrow, past)))
          | inr apart ↦ inr (inl (omega (arith, over, apart)))
        ]
  ];
}

pub first-upper : (low high : List ℕ) → (s : Spot) → IsFirstSquare (has high) s
    → ((t : Spot) → has low t ≡ true → s.row < t.row) → IsFirstSquare (has (halves low high)) (beyond s)
first-upper low high s first below = record {
  among = has-beyond low high s ∙ first.among;
  first = λ t there. elim (cases_lt t.col 64) [
    | inl inside ↦ inr (inl (below t (sym (has-lower low high t inside) ∙ there)))
    | inr past ↦ elim (first.first (within t) (sym (has-upper low high t past) ∙ there)) [
      | inl same ↦
          let col = ap (λ (u : Spot). u.col) same in
          inl (same_place (beyond s) t (ap (λ (u : Spot). u.row) same) (omega (arith, col, past)))
      | inr (inl over) ↦ inr (inl over)
      | inr (inr (row, left)) ↦ inr (inr (row, omega (arith, left, past)))
    ]
  ];
}

-- what the lower half tells, where there is nothing in the upper one
pub first-alone : (low high : List ℕ) → (found : Option Spot)
    → MatchOption found ((s : Spot) → has low s ≡ false) (IsFirstSquare (has low)) → IfSome found (λ s. s.col < 64) → ((s : Spot) → has high s ≡ false)
    → MatchOption found ((s : Spot) → has (halves low high) s ≡ false) (IsFirstSquare (has (halves low high)))
first-alone low high None none narrow none_high = none-halves low high none none_high
first-alone low high (Some s) first narrow none_high =
    first-lower low high s narrow first (λ t there. absurd (true≢false (sym there ∙ none_high t)))

pub first-both : (low high : List ℕ) → (s t : Spot) → s.col < 64 → IsFirstSquare (has low) s → IsFirstSquare (has high) t
    → s.row ≤ t.row → IsFirstSquare (has (halves low high)) s
first-both low high s t narrow first first_high over =
    first-lower low high s narrow first (λ u there. let row = first-row high t u first_high there in omega (arith, row, over))

pub first-over : (low high : List ℕ) → (s t : Spot) → IsFirstSquare (has low) s → IsFirstSquare (has high) t
    → t.row < s.row → IsFirstSquare (has (halves low high)) (beyond t)
first-over low high s t first first_high over =
    first-upper low high t first_high (λ u there. let row = first-row low s u first there in omega (arith, row, over))

-- rows of which those that have squares are words
pub words-take : (rows : List ℕ) (height : ℕ) → IsHigh rows height → AreWords (take height rows) → AreWords rows
words-take rows height high words r = elim (cases_lt r height) [
  | inl below ↦ subst (λ n. n < 2 ^ 64) (get_or-take height rows r 0 below) (words r)
  | inr past ↦
      let zero = none-row rows r (λ c. none-past rows height high (record { row = r; col = c }) past) in
      omega (arith, zero)
]

-- halves with the same squares
pub halves-same : (low high low' high' : List ℕ) → ((s : Spot) → has low s ≡ has low' s) → ((s : Spot) → has high s ≡ has high' s)
    → (s : Spot) → has (halves low high) s ≡ has (halves low' high') s
halves-same low high low' high' same_low same_high s = elim (cases_lt s.col 64) [
  | inl inside ↦ has-lower low high s inside ∙ same_low s ∙ sym (has-lower low' high' s inside)
  | inr past ↦ has-upper low high s past ∙ same_high (within s) ∙ sym (has-upper low' high' s past)
]

-- A word put into words of numbers, from a number on.
use Rattle.std.proofs.Common.{ℕ, ◌≡◌, ◌<◌, ◌≤◌, ◌+◌, ◌-◌, ◌*◌, ◌/◌, ◌%◌, ◌^◌, ◌⊎◌, ◌↔◌, inl, inr, sym, ap, ◌∙◌, List, arith, true}
use Rattle.std.proofs.Common.{bit_and, bit_or, get_or, set, length, lit<}
use Rattle.std.specs.Int.{bit_at}
use Rattle.std.proofs.lemmas.Bool.{cases_eq, cases_lt}
use Rattle.std.proofs.lemmas.List.{get_or-set_other}
use Rattle.std.proofs.lemmas.Nat.{and_mask, pow_pos}
use Rattle.std.proofs.Math.Nat.{mod-lt, div-add-mod, mul_comm}
use Rattle.std.proofs.lemmas.Nat.Bits.{bit_at-lt, bit_at-zero, bit_at_and, bit_at_or, bit_at_ones, bit_at_above, bit_at_cat_low, bit_at_cat_high}
use Rattle.sok_rules.specs.declared.cell.Spot.{Spot}
use Rattle.sok_board.specs.Spans.{right_of}
use Rattle.sok_board.specs.declared.spans.Span.{Span}
use Rattle.sok_field.specs.Fields.{has}
use Rattle.sok_field.specs.Numbers.{bit_of_number}
use Rattle.sok_field.specs.Spans.{IsPut, StandsIn}
use Rattle.sok_field.proofs.OneSquare.{set-same}
use Rattle.sok_field.proofs.Spreading.{bit_of, has-on, on-has}

-- a word shifted up, within 64 bits
pub masked : (x c : ℕ) → c < 64 → bit_at (x % 2 ^ 64) c ≡ bit_at x c
masked x c within =
    let is : bit_at (x % 2 ^ 64) c ≡ bit_at (bit_and x (2 ^ 64 - 1)) c = ap (λ n. bit_at n c) (sym (and_mask x 64)) in
    let both = bit_at_and x (2 ^ 64 - 1) c in
    let one = bit_at_ones 64 c within in
    let small = bit_at-lt x c in
    omega (arith, is, both, one, small)

pub shl-low : (x k c : ℕ) → c < 64 → c < k → bit_at (x * 2 ^ k % 2 ^ 64) c ≡ 0
shl-low x k c within below =
    let plus : x * 2 ^ k + 0 ≡ x * 2 ^ k = omega arith in
    masked (x * 2 ^ k) c within ∙ ap (λ n. bit_at n c) (sym plus) ∙ bit_at_cat_low x k 0 c below ∙ bit_at-zero c

pub shl-high : (x k c : ℕ) → c < 64 → k ≤ c → 0 < 2 ^ k → bit_at (x * 2 ^ k % 2 ^ 64) c ≡ bit_at x (c - k)
shl-high x k c within from some =
    let plus : x * 2 ^ k + 0 ≡ x * 2 ^ k = omega arith in
    masked (x * 2 ^ k) c within ∙ ap (λ n. bit_at n c) (sym plus) ∙ bit_at_cat_high x k 0 c some from

pub shr-bit : (x k c : ℕ) → 0 < 2 ^ k → bit_at (x / 2 ^ k) c ≡ bit_at x (c + k)
shr-bit x k c some =
    let p : x / 2 ^ k * 2 ^ k + x % 2 ^ k ≡ x = let e = div-add-mod x (2 ^ k) in omega (arith, e, mul_comm (2 ^ k) (x / 2 ^ k)) in
    let back : c + k - k ≡ c = omega arith in
    ap (bit_at (x / 2 ^ k)) (sym back) ∙ sym (bit_at_cat_high (x / 2 ^ k) k (x % 2 ^ k) (c + k) (mod-lt x some) (omega arith)) ∙ ap (λ n. bit_at n (c + k)) p

-- where the bit of a number stands, of a word put in from a number on
put-in-word : (piece base n : ℕ) → base / 64 ≡ n / 64 → IsPut piece base n ↔ (bit_at (piece * 2 ^ (base % 64) % 2 ^ 64) (n % 64) ≡ 1)
put-in-word piece base n same = elim (cases_lt (n % 64) (base % 64)) [
  | inl below ↦
      let none = shl-low piece (base % 64) (n % 64) (omega arith) below in
      (λ (from, _). absurd (omega (arith, from, same, below)), λ on. absurd (omega (arith, on, none)))
  | inr from ↦
      let is = shl-high piece (base % 64) (n % 64) (omega arith) from (pow_pos (base % 64)) in
      let at : n - base ≡ n % 64 - base % 64 = omega (arith, same, from) in
      let bit = ap (bit_at piece) at in
      (λ (_, on). omega (arith, is, bit, on), λ on. (omega (arith, same, from), omega (arith, is, bit, on)))
]

put-in-next : (piece base n : ℕ) → base / 64 + 1 ≡ n / 64 → 0 < base % 64 → IsPut piece base n ↔ (bit_at (piece / 2 ^ (64 - base % 64)) (n % 64) ≡ 1)
put-in-next piece base n next some =
    let is = shr-bit piece (64 - base % 64) (n % 64) (pow_pos (64 - base % 64)) in
    let at : n - base ≡ n % 64 + (64 - base % 64) = omega (arith, next, some) in
    let bit = ap (bit_at piece) at in
    (λ (_, on). omega (arith, is, bit, on), λ on. (omega (arith, next), omega (arith, is, bit, on)))

put-elsewhere : (piece base n : ℕ) → piece < 2 ^ 64 → (base / 64 ≡ n / 64 → ⊥) → ((base / 64 + 1 ≡ n / 64 → ⊥) ⊎ (base % 64 ≡ 0)) → IsPut piece base n → ⊥
put-elsewhere piece base n fits apart one (from, on) =
    let past : 64 ≤ n - base = elim one [
      | inl apart_next ↦ omega (arith, apart, apart_next, from)
      | inr whole ↦ omega (arith, apart, whole, from)
    ] in
    let none = bit_at_above piece 64 (n - base) fits past in
    omega (arith, on, none)

-- a word joined to one of some words
pub join-exact : (bits : List ℕ) (row word : ℕ) → row < length bits → (s : Spot)
    → (has (set bits row (bit_or (get_or bits row 0) word)) s ≡ true) ↔ ((has bits s ≡ true) ⊎ StandsIn row word s)
join-exact bits row word within s =
    let x = bit_or (get_or bits row 0) word in
    let both = bit_at_or (get_or bits row 0) word s.col in
    let small = bit_at-lt (get_or bits row 0) s.col in
    let small_word = bit_at-lt word s.col in
    elim (cases_eq s.row row) [
      | inl same ↦
          let new : bit_of (set bits row x) s.row s.col ≡ bit_at x s.col = ap (λ n. bit_at n s.col) (set-same bits row x s.row within same) in
          let old : bit_of bits s.row s.col ≡ bit_of bits row s.col = ap (λ k. bit_of bits k s.col) same in (
            λ e.
                let on = has-on (set bits row x) s e in
                elim (cases_eq (bit_of bits row s.col) 1) [
                  | inl there ↦ inl (on-has bits s (old ∙ there))
                  | inr off ↦ inr (same, omega (arith, on, new, both, small, small_word, off))
                ],
            λ one. on-has (set bits row x) s (elim one [
              | inl e ↦ let there = has-on bits s e in omega (arith, new, both, old, there, small, small_word)
              | inr (_, on) ↦ omega (arith, new, both, on, small, small_word)
            ]),
          )
      | inr apart ↦
          let kept : bit_of (set bits row x) s.row s.col ≡ bit_of bits s.row s.col = ap (λ n. bit_at n s.col) (get_or-set_other bits row s.row x 0 apart) in (
            λ e. inl (on-has bits s (sym kept ∙ has-on (set bits row x) s e)),
            λ one. elim one [
              | inl e ↦ on-has (set bits row x) s (kept ∙ has-on bits s e)
              | inr (same, _) ↦ absurd (apart same)
            ],
          )
    ]

-- one row more of another set is joined
pub join-more : (old other rows : List ℕ) (r : ℕ) → r < length rows
    → ((s : Spot) → (has rows s ≡ true) ↔ ((has old s ≡ true) ⊎ ((s.row < r) × (has other s ≡ true)))) → (s : Spot)
    → (has (set rows r (bit_or (get_or rows r 0) (get_or other r 0))) s ≡ true) ↔ ((has old s ≡ true) ⊎ ((s.row < r + 1) × (has other s ≡ true)))
join-more old other rows r within so_far s =
    let new = join-exact rows r (get_or other r 0) within s in (
      λ e. elim (new.0 e) [
        | inl there ↦ elim ((so_far s).0 there) [
          | inl before ↦ inl before
          | inr (above, e) ↦ inr (omega (arith, above), e)
        ]
        | inr (row, on) ↦ inr (omega (arith, row), on-has other s (ap (λ k. bit_of other k s.col) row ∙ on))
      ],
      λ one. new.1 (elim one [
        | inl before ↦ inl ((so_far s).1 (inl before))
        | inr (up, e) ↦ elim (cases_eq s.row r) [
          | inl row ↦ inr (row, ap (λ k. bit_of other k s.col) (sym row) ∙ has-on other s e)
          | inr apart ↦ inl ((so_far s).1 (inr (omega (arith, up, apart), e)))
        ]
      ]),
    )

-- a word whose bits all lie in one word
put-alone : (old new : List ℕ) (piece base : ℕ) → ((n : ℕ) → IsPut piece base n → base / 64 ≡ n / 64)
    → ((s : Spot) → (has new s ≡ true) ↔ ((has old s ≡ true) ⊎ StandsIn (base / 64) (piece * 2 ^ (base % 64) % 2 ^ 64) s))
    → (n : ℕ) → (has new (bit_of_number n) ≡ true) ↔ ((has old (bit_of_number n) ≡ true) ⊎ IsPut piece base n)
put-alone old new piece base alone joined n = (
  λ e. elim ((joined (bit_of_number n)).0 e) [
    | inl before ↦ inl before
    | inr (row, on) ↦ inr ((put-in-word piece base n (sym row)).1 on)
  ],
  λ one. (joined (bit_of_number n)).1 (elim one [
    | inl before ↦ inl before
    | inr put ↦ let same = alone n put in inr (sym same, (put-in-word piece base n same).0 put)
  ]),
)

-- a word that begins with a word
pub put-whole : (old new : List ℕ) (piece base : ℕ) → piece < 2 ^ 64 → base % 64 ≡ 0
    → ((s : Spot) → (has new s ≡ true) ↔ ((has old s ≡ true) ⊎ StandsIn (base / 64) (piece * 2 ^ (base % 64) % 2 ^ 64) s))
    → (n : ℕ) → (has new (bit_of_number n) ≡ true) ↔ ((has old (bit_of_number n) ≡ true) ⊎ IsPut piece base n)
put-whole old new piece base fits whole = put-alone old new piece base (λ n put. elim (cases_eq (base / 64) (n / 64)) [
  | inl same ↦ same
  | inr apart ↦ absurd (put-elsewhere piece base n fits apart (inr whole) put)
])

-- a word that lies in two words
pub put-parted : (old mid new : List ℕ) (piece base : ℕ) → piece < 2 ^ 64 → 0 < base % 64
    → ((s : Spot) → (has mid s ≡ true) ↔ ((has old s ≡ true) ⊎ StandsIn (base / 64) (piece * 2 ^ (base % 64) % 2 ^ 64) s))
    → ((s : Spot) → (has new s ≡ true) ↔ ((has mid s ≡ true) ⊎ StandsIn (base / 64 + 1) (piece / 2 ^ (64 - base % 64)) s))
    → (n : ℕ) → (has new (bit_of_number n) ≡ true) ↔ ((has old (bit_of_number n) ≡ true) ⊎ IsPut piece base n)
put-parted old mid new piece base fits some first second n = (
  λ e. elim ((second (bit_of_number n)).0 e) [
    | inl before ↦ elim ((first (bit_of_number n)).0 before) [
      | inl there ↦ inl there
      | inr (row, on) ↦ inr ((put-in-word piece base n (sym row)).1 on)
    ]
    | inr (row, on) ↦ inr ((put-in-next piece base n (sym row) some).1 on)
  ],
  λ one. (second (bit_of_number n)).1 (elim one [
    | inl before ↦ inl ((first (bit_of_number n)).1 (inl before))
    | inr put ↦ elim (cases_eq (base / 64) (n / 64)) [
      | inl same ↦ inl ((first (bit_of_number n)).1 (inr (sym same, (put-in-word piece base n same).0 put)))
      | inr apart ↦ elim (cases_eq (base / 64 + 1) (n / 64)) [
        | inl next ↦ inr (sym next, (put-in-next piece base n next some).0 put)
        | inr apart_next ↦ absurd (put-elsewhere piece base n fits apart (inl apart_next) put)
      ]
    ]
  ]),
)

-- a word that ends with the words
pub put-last : (old new : List ℕ) (piece base : ℕ) → base / 64 + 1 ≡ length old → ((n : ℕ) → IsPut piece base n → n < 64 * length old)
    → ((s : Spot) → (has new s ≡ true) ↔ ((has old s ≡ true) ⊎ StandsIn (base / 64) (piece * 2 ^ (base % 64) % 2 ^ 64) s))
    → (n : ℕ) → (has new (bit_of_number n) ≡ true) ↔ ((has old (bit_of_number n) ≡ true) ⊎ IsPut piece base n)
put-last old new piece base last fits = put-alone old new piece base (λ n put.
    let from = put.0 in
    let below = fits n put in
    omega (arith, from, below, last))

-- the lowest bits of a full word
pub ones-exact : (length k : ℕ) → 0 < length → length ≤ 64 → (bit_at ((2 ^ 64 - 1) / 2 ^ (64 - length)) k ≡ 1) ↔ (k < length)
ones-exact length k some within =
    let is = shr-bit (2 ^ 64 - 1) (64 - length) k (pow_pos (64 - length)) in
    elim (cases_lt k length) [
      | inl below ↦
          let on = bit_at_ones 64 (k + (64 - length)) (omega arith) in
          (λ _. below, λ _. is ∙ on)
      | inr past ↦
          let off = bit_at_above (2 ^ 64 - 1) 64 (k + (64 - length)) (lit< tt) (omega arith) in
          (λ on. absurd (omega (arith, on, is, off)), λ below. absurd (omega (arith, below, past)))
    ]

-- a word of a span's squares
pub span-exact : (span : Span) (word : ℕ) → span.first.col + span.length ≤ 64 → ((k : ℕ) → (bit_at word k ≡ 1) ↔ (k < span.length)) → (c : ℕ)
    → (bit_at (word * 2 ^ span.first.col % 2 ^ 64) c ≡ 1) ↔ ((span.first.col ≤ c) × (c < span.first.col + span.length))
span-exact span word within exact c =
    let col = span.first.col in
    let x = word * 2 ^ col % 2 ^ 64 in
    elim (cases_lt c 64) [
      | inr past ↦
          let off = bit_at_above x 64 c (mod-lt (word * 2 ^ col) (pow_pos 64)) past in
          (λ on. absurd (omega (arith, on, off)), λ (_, below). absurd (omega (arith, below, past, within)))
      | inl narrow ↦ elim (cases_lt c col) [
        | inl left ↦
            let off = shl-low word col c narrow left in
            (λ on. absurd (omega (arith, on, off)), λ (from, _). absurd (omega (arith, from, left)))
        | inr from ↦
            let is = shl-high word col c narrow from (pow_pos col) in (
              λ on. let below = (exact (c - col)).0 (sym is ∙ on) in (from, omega (arith, below, from)),
              λ (_, below). is ∙ (exact (c - col)).1 (omega (arith, below, from)),
            )
      ]
    ]

-- the squares of a span in a row's word
pub cut-exact : (rows : List ℕ) (span : Span) (word k : ℕ) → ((k : ℕ) → (bit_at word k ≡ 1) ↔ (k < span.length))
    → (bit_at (bit_and (get_or rows span.first.row 0 / 2 ^ span.first.col) word) k ≡ 1) ↔ ((k < span.length) × (has rows (right_of span.first k) ≡ true))
cut-exact rows span word k exact =
    let row = get_or rows span.first.row 0 in
    let col = span.first.col in
    let both = bit_at_and (row / 2 ^ col) word k in
    let shifted = shr-bit row col k (pow_pos col) in
    let place : bit_at row (k + col) ≡ bit_of rows span.first.row (col + k) = let n : k + col ≡ col + k = omega arith in ap (bit_at row) n in
    let small = bit_at-lt word k in
    let small_row = bit_at-lt (row / 2 ^ col) k in (
      λ on.
          let one : bit_at word k ≡ 1 = omega (arith, on, both, small, small_row) in
          let there : bit_at (row / 2 ^ col) k ≡ 1 = omega (arith, on, both, small, small_row) in
          ((exact k).0 one, on-has rows (right_of span.first k) (sym place ∙ sym shifted ∙ there)),
      λ (below, e).
          let one = (exact k).1 below in
          let there : bit_at (row / 2 ^ col) k ≡ 1 = shifted ∙ place ∙ has-on rows (right_of span.first k) e in
          omega (arith, both, one, there),
    )

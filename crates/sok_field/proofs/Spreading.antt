-- Which squares a round has.
use Rattle.std.proofs.Common.{ℕ, ◌≡◌, ◌<◌, ◌+◌, ◌*◌, ◌/◌, ◌%◌, ◌^◌, ◌⊎◌, inl, inr, zero, suc, List, refl, sym, ap, ◌∙◌, arith, true, Some, get_or, bit_or, max}
use Rattle.std.proofs.Common.{min, add-one}
use Rattle.std.specs.Int.{bit_at}
use Rattle.std.proofs.lemmas.Bool.{cases_eq, eqb-true, eq-eqb}
use Rattle.std.proofs.lemmas.Option.{none-some, same_Some}
use Rattle.std.proofs.lemmas.Nat.Bits.{bit_at-lt, bit_at-suc, bit_at-zero, bit_at_and, bit_at_or}
use Rattle.sok_rules.specs.declared.cell.Dir.{Dir}
use Rattle.sok_rules.specs.declared.cell.Dir.TheVariants.{Left, Up, Right, Down}
use Rattle.sok_rules.specs.declared.cell.Spot.{Spot}
use Rattle.sok_rules.specs.Squares.{next}
use Rattle.sok_field.specs.Fields.{has}
use Rattle.sok_field.specs.Rounds.{above, widened, spread_row}
use Rattle.sok_field.proofs.Words.{bit_at-shl, bit_at-shl_first, bit_at-within}

-- a bit of a row
abbrev pub bit_of : List ℕ → ℕ → ℕ → ℕ
bit_of rows r c = bit_at (get_or rows r 0) c

pub has-on : (rows : List ℕ) (s : Spot) → has rows s ≡ true → bit_of rows s.row s.col ≡ 1
unfolding has
has-on rows s e = eqb-true (bit_of rows s.row s.col) 1 e

pub on-has : (rows : List ℕ) (s : Spot) → bit_of rows s.row s.col ≡ 1 → has rows s ≡ true
unfolding has
on-has rows s e = eq-eqb (bit_of rows s.row s.col) 1 e

-- a square of rows that are words lies in one of their columns
pub has-col : (rows : List ℕ) (s : Spot) → get_or rows s.row 0 < 2 ^ 64 → has rows s ≡ true → s.col < 64
has-col rows s fits e = bit_at-within (get_or rows s.row 0) s.col fits (has-on rows s e)

-- a square beside one of a set
pub record IsBeside (rows : List ℕ) (s : Spot) : Type 0 where
  pub dir : Dir
  pub other : Spot
  pub leads : next dir s ≡ Some other
  pub there : has rows other ≡ true

bit_at-spread_row : (seen free : List ℕ) (r c : ℕ) → bit_at (spread_row seen free r) c
    ≡ min (bit_of free r c) (max (max (max (max (bit_of seen r c) (bit_at (get_or seen r 0 * 2 % 2 ^ 64) c)) (bit_at (get_or seen r 0 / 2) c))
    (bit_at (above seen r) c)) (bit_of seen (r + 1) c))
unfolding spread_row
bit_at-spread_row seen free r c =
    let x = get_or seen r 0 in
    let under = get_or seen (r + 1) 0 in
    let e = bit_at_and (get_or free r 0) (bit_or (bit_or (widened x) (above seen r)) under) c in
    let e1 = bit_at_or (bit_or (widened x) (above seen r)) under c in
    let e2 = bit_at_or (widened x) (above seen r) c in
    let e3 = bit_at_or (bit_or x (x * 2 % 2 ^ 64)) (x / 2) c in
    let e4 = bit_at_or x (x * 2 % 2 ^ 64) c in
    e ∙ ap (min (bit_of free r c)) (e1 ∙ ap (λ m. max m (bit_at under c))
    (e2 ∙ ap (λ m. max m (bit_at (above seen r) c)) (e3 ∙ ap (λ m. max m (bit_at (x / 2) c)) e4)))

-- which of five bits is set
pub one_of : (m f x l r a u : ℕ) → m ≡ min f (max (max (max (max x l) r) a) u) → m ≡ 1 → f < 2 → x < 2 → l < 2 → r < 2 → a < 2 → u < 2
    → (f ≡ 1) × ((x ≡ 1) ⊎ ((l ≡ 1) ⊎ ((r ≡ 1) ⊎ ((a ≡ 1) ⊎ (u ≡ 1)))))
one_of m f x l r a u is on f2 x2 l2 r2 a2 u2 = (
  omega arith,
  elim (cases_eq x 1) [
    | inl e ↦ inl e
    | inr no_x ↦ elim (cases_eq l 1) [
      | inl e ↦ inr (inl e)
      | inr no_l ↦ elim (cases_eq r 1) [
        | inl e ↦ inr (inr (inl e))
        | inr no_r ↦ elim (cases_eq a 1) [
          | inl e ↦ inr (inr (inr (inl e)))
          | inr no_a ↦ inr (inr (inr (inr (omega arith))))
        ]
      ]
    ]
  ],
)

-- a bit of the row that comes from a column on
pub left-beside : (seen : List ℕ) (r c : ℕ) → c < 64 → bit_at (get_or seen r 0 * 2 % 2 ^ 64) c ≡ 1 → IsBeside seen (record { row = r; col = c })
left-beside seen r zero within on = let off = bit_at-shl_first (get_or seen r 0) in absurd (omega (arith, on, off))
left-beside seen r (suc c) within on =
    record {
      dir = Left;
      other = record { row = r; col = c };
      leads = refl;
      there = on-has seen (record { row = r; col = c })
          (sym (bit_at-shl (get_or seen r 0) c within) ∙ on);
    }

pub right-beside : (seen : List ℕ) (r c : ℕ) → bit_at (get_or seen r 0 / 2) c ≡ 1 → IsBeside seen (record { row = r; col = c })
right-beside seen r c on = record {
  dir = Right;
  other = record { row = r; col = c + 1 };
  leads = refl;
  there = on-has seen (record { row = r; col = c + 1 }) (ap (bit_at (get_or seen r 0)) (add-one c) ∙ bit_at-suc (get_or seen r 0) c ∙ on);
}

pub up-beside : (seen : List ℕ) (r c : ℕ) → bit_at (above seen r) c ≡ 1 → IsBeside seen (record { row = r; col = c })
up-beside seen zero c on = let off = bit_at-zero c in absurd (omega (arith, on, off))
up-beside seen (suc r) c on = record { dir = Up; other = record { row = r; col = c }; leads = refl; there = on-has seen (record { row = r; col = c }) on }

pub down-beside : (seen : List ℕ) (r c : ℕ) → bit_of seen (r + 1) c ≡ 1 → IsBeside seen (record { row = r; col = c })
down-beside seen r c on =
    record { dir = Down; other = record { row = r + 1; col = c }; leads = refl; there = on-has seen (record { row = r + 1; col = c }) on }

-- a bit of a row after a round is one of a free square that is seen or beside a seen one
pub row-from : (seen free : List ℕ) → ((r : ℕ) → get_or free r 0 < 2 ^ 64) → (s : Spot) → bit_at (spread_row seen free s.row) s.col ≡ 1
    → (has free s ≡ true) × ((has seen s ≡ true) ⊎ IsBeside seen s)
row-from seen free fits s on =
    let x = get_or seen s.row 0 in
    let (through, one) = one_of _ _ _ _ _ _ _ (bit_at-spread_row seen free s.row s.col) on (bit_at-lt (get_or free s.row 0) s.col) (bit_at-lt x s.col)
    (bit_at-lt (x * 2 % 2 ^ 64) s.col)
    (bit_at-lt (x / 2) s.col) (bit_at-lt (above seen s.row) s.col) (bit_at-lt (get_or seen (s.row + 1) 0) s.col) in
    let within = bit_at-within (get_or free s.row 0) s.col (fits s.row) through in (
      on-has free s through,
      elim one [
        | inl h ↦ inl (on-has seen s h)
        | inr (inl h) ↦ inr (left-beside seen s.row s.col within h)
        | inr (inr (inl h)) ↦ inr (right-beside seen s.row s.col h)
        | inr (inr (inr (inl h))) ↦ inr (up-beside seen s.row s.col h)
        | inr (inr (inr (inr h))) ↦ inr (down-beside seen s.row s.col h)
      ],
    )

-- so it is of each square of a round
pub spread-from : (seen free out : List ℕ) → ((r : ℕ) → get_or free r 0 < 2 ^ 64) → ((r : ℕ) → get_or out r 0 ≡ spread_row seen free r)
    → (s : Spot) → has out s ≡ true → (has free s ≡ true) × ((has seen s ≡ true) ⊎ IsBeside seen s)
spread-from seen free out fits round s e = row-from seen free fits s (ap (λ n. bit_at n s.col) (sym (round s.row)) ∙ has-on out s e)

all_of : (m f x l r a u : ℕ) → m ≡ min f (max (max (max (max x l) r) a) u) → f ≡ 1 → f < 2 → x < 2 → l < 2 → r < 2 → a < 2 → u < 2
    → (x ≡ 1) ⊎ ((l ≡ 1) ⊎ ((r ≡ 1) ⊎ ((a ≡ 1) ⊎ (u ≡ 1)))) → m ≡ 1
all_of m f x l r a u is through f2 x2 l2 r2 a2 u2 (inl e) = omega arith
all_of m f x l r a u is through f2 x2 l2 r2 a2 u2 (inr (inl e)) = omega arith
all_of m f x l r a u is through f2 x2 l2 r2 a2 u2 (inr (inr (inl e))) = omega arith
all_of m f x l r a u is through f2 x2 l2 r2 a2 u2 (inr (inr (inr (inl e)))) = omega arith
all_of m f x l r a u is through f2 x2 l2 r2 a2 u2 (inr (inr (inr (inr e)))) = omega arith

-- which bit of a round comes from a square beside
abbrev pub IsMet : List ℕ → ℕ → ℕ → Type 0
IsMet seen r c =
    (bit_of seen r c ≡ 1) ⊎ ((bit_at (get_or seen r 0 * 2 % 2 ^ 64) c ≡ 1) ⊎
    ((bit_at (get_or seen r 0 / 2) c ≡ 1) ⊎ ((bit_at (above seen r) c ≡ 1) ⊎ (bit_of seen (r + 1) c ≡ 1))))

met-beside : (seen : List ℕ) (r c : ℕ) (d : Dir) (t : Spot) → c < 64 → next d (record { row = r; col = c }) ≡ Some t → has seen t ≡ true → IsMet seen r c
met-beside seen r zero Left t within leads e = absurd (none-some t leads)
met-beside seen r (suc c) Left t within leads e =
    inr (inl (bit_at-shl (get_or seen r 0) c within ∙ has-on seen (record { row = r; col = c })
    (ap (has seen) (same_Some (record { row = r; col = c }) t leads) ∙ e)))
met-beside seen r c Right t within leads e =
    inr (inr (inl (sym (bit_at-suc (get_or seen r 0) c) ∙ ap (bit_at (get_or seen r 0)) (sym (add-one c))
    ∙ has-on seen (record { row = r; col = c + 1 }) (ap (has seen) (same_Some (record { row = r; col = c + 1 }) t leads) ∙ e))))
met-beside seen zero c Up t within leads e = absurd (none-some t leads)
met-beside seen (suc r) c Up t within leads e =
    inr (inr (inr (inl (has-on seen (record { row = r; col = c }) (ap (has seen) (same_Some (record { row = r; col = c }) t leads) ∙ e)))))
met-beside seen r c Down t within leads e =
    inr (inr (inr (inr (has-on seen (record { row = r + 1; col = c }) (ap (has seen) (same_Some (record { row = r + 1; col = c }) t leads) ∙ e)))))

-- a free square that is seen or beside a seen one has its bit in a row after a round
pub row-to : (seen free : List ℕ) → ((r : ℕ) → get_or free r 0 < 2 ^ 64) → (s : Spot) → has free s ≡ true
    → (has seen s ≡ true) ⊎ IsBeside seen s → bit_at (spread_row seen free s.row) s.col ≡ 1
row-to seen free fits s open_there met =
    let x = get_or seen s.row 0 in
    let through = has-on free s open_there in
    let within = bit_at-within (get_or free s.row 0) s.col (fits s.row) through in
    let one : IsMet seen s.row s.col = elim met [
      | inl e ↦ inl (has-on seen s e)
      | inr beside ↦ met-beside seen s.row s.col beside.dir beside.other within beside.leads beside.there
    ] in
    all_of _ _ _ _ _ _ _ (bit_at-spread_row seen free s.row s.col) through
    (bit_at-lt (get_or free s.row 0) s.col) (bit_at-lt x s.col) (bit_at-lt (x * 2 % 2 ^ 64) s.col)
    (bit_at-lt (x / 2) s.col) (bit_at-lt (above seen s.row) s.col) (bit_at-lt (get_or seen (s.row + 1) 0) s.col) one

-- and is of the round
pub spread-to : (seen free out : List ℕ) → ((r : ℕ) → get_or free r 0 < 2 ^ 64) → ((r : ℕ) → get_or out r 0 ≡ spread_row seen free r)
    → (s : Spot) → has free s ≡ true → (has seen s ≡ true) ⊎ IsBeside seen s → has out s ≡ true
spread-to seen free out fits round s open_there met =
    on-has out s (ap (λ n. bit_at n s.col) (round s.row) ∙ row-to seen free fits s open_there met)

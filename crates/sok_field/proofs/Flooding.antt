-- A flood, round by round.
use Rattle.std.proofs.Common.{ℕ, ◌≡◌, ◌<◌, ◌≤◌, ◌^◌, ◌⊎◌, ◌↔◌, inl, inr, List, Bool, refl, sym, ap, ◌∙◌, subst, true, false, true≢false, get_or, length, bit_and, sum}
use Rattle.sok_rules.specs.declared.cell.Spot.{Spot}
use Rattle.sok_rules.specs.Squares.{opposite}
use Rattle.sok_rules.proofs.Spots.{next-opposite}
use Rattle.sok_field.specs.Fields.{has}
use Rattle.sok_field.specs.Floods.{IsSpreading, Reaches}
use Rattle.sok_field.specs.Rounds.{spread_row}
use Rattle.sok_field.specs.Ways.{Joined}
use Rattle.sok_field.proofs.Spreading.{has-on, on-has, IsBeside, spread-from, spread-to}
use Rattle.sok_field.proofs.Totals.{sum-le, sum-lt}
use Rattle.sok_field.proofs.Ways.{Joined-more, Joined-start, Joined-trans, closed-whole}
use Rattle.sok_field.proofs.Words.{and-from_bits, bits-from_and, le-from_and}

-- the squares of one set are all of another, row by row
pub within-from_has : (xs ys : List ℕ) → ((s : Spot) → has xs s ≡ true → has ys s ≡ true) → (r : ℕ) → bit_and (get_or xs r 0) (get_or ys r 0) ≡ get_or xs r 0
within-from_has xs ys kept r = and-from_bits (get_or xs r 0) (get_or ys r 0)
    (λ c on. has-on ys (record { row = r; col = c }) (kept (record { row = r; col = c }) (on-has xs (record { row = r; col = c }) on)))

pub has-from_within : (xs ys : List ℕ) → ((r : ℕ) → bit_and (get_or xs r 0) (get_or ys r 0) ≡ get_or xs r 0) → (s : Spot) → has xs s ≡ true → has ys s ≡ true
has-from_within xs ys within s e = on-has ys s (bits-from_and (get_or xs s.row 0) (get_or ys s.row 0) (within s.row) s.col (has-on xs s e))

pub rises-from_has : (xs ys : List ℕ) → ((s : Spot) → has xs s ≡ true → has ys s ≡ true) → (r : ℕ) → get_or xs r 0 ≤ get_or ys r 0
rises-from_has xs ys kept r = le-from_and (get_or xs r 0) (get_or ys r 0) (within-from_has xs ys kept r)

beside-joined : (free seen : List ℕ) (start : Spot → Bool) (s : Spot) → ((t : Spot) → has seen t ≡ true → Reaches free start t) → has free s ≡ true → IsBeside seen s
    → Reaches free start s
beside-joined free seen start s sound through beside =
    let (t, begun, joined) = sound beside.other beside.there in
    (t, begun, Joined-more (has free) t beside.other s (opposite beside.dir) joined (next-opposite beside.dir s beside.other beside.leads) through)

-- a round keeps what is seen
pub kept-spread : (free seen out : List ℕ) (start : Spot → Bool) → ((r : ℕ) → get_or free r 0 < 2 ^ 64) → ((r : ℕ) → get_or out r 0 ≡ spread_row seen free r)
    → IsSpreading free start seen → (s : Spot) → has seen s ≡ true → has out s ≡ true
kept-spread free seen out start fits round flood s e = spread-to seen free out fits round s (has-from_within seen free flood.inside s e) (inl e)

-- a flood that keeps what is seen, and adds free squares beside it
pub IsSpreading-grown : (free seen out : List ℕ) (start : Spot → Bool) → length out ≡ length seen → ((s : Spot) → has seen s ≡ true → has out s ≡ true)
    → ((s : Spot) → has out s ≡ true → (has free s ≡ true) × ((has seen s ≡ true) ⊎ IsBeside seen s)) → IsSpreading free start seen → IsSpreading free start out
IsSpreading-grown free seen out start long keeps adds flood = record {
  whole = long ∙ flood.whole;
  begun = λ s e. keeps s (flood.begun s e);
  inside = within-from_has out free (λ s e. (adds s e).0);
  sound = λ s e.
      let (through, one) = adds s e in
      elim one [
        | inl old ↦ flood.sound s old
        | inr beside ↦ beside-joined free seen start s flood.sound through beside
      ];
}

-- as a round does
pub IsSpreading-spread : (free seen out : List ℕ) (start : Spot → Bool) → length out ≡ length seen → ((r : ℕ) → get_or free r 0 < 2 ^ 64)
    → ((r : ℕ) → get_or out r 0 ≡ spread_row seen free r)
    → IsSpreading free start seen → IsSpreading free start out
IsSpreading-spread free seen out start long fits round flood =
    IsSpreading-grown free seen out start long (kept-spread free seen out start fits round flood) (spread-from seen free out fits round) flood

-- it has more, unless it is the same
pub more-spread : (free seen out : List ℕ) (start : Spot → Bool) → length out ≡ length seen → ((r : ℕ) → get_or free r 0 < 2 ^ 64)
    → ((r : ℕ) → get_or out r 0 ≡ spread_row seen free r)
    → IsSpreading free start seen → (seen ≡ out → ⊥) → sum seen < sum out
more-spread free seen out start long fits round flood apart = sum-lt seen out (sym long)
    (rises-from_has seen out (kept-spread free seen out start fits round flood)) apart

pub sum-inside : (free seen : List ℕ) (start : Spot → Bool) → IsSpreading free start seen → sum seen ≤ sum free
sum-inside free seen start flood = sum-le seen free flood.whole (λ r. le-from_and (get_or seen r 0) (get_or free r 0) (flood.inside r))

-- a round that adds nothing ends the flood
pub flood-exact : (free seen : List ℕ) (start : Spot → Bool) → ((r : ℕ) → get_or free r 0 < 2 ^ 64) → ((r : ℕ) → get_or seen r 0 ≡ spread_row seen free r)
    → IsSpreading free start seen → (s : Spot) → (has seen s ≡ true) ↔ Reaches free start s
flood-exact free seen start fits round flood s = (
  flood.sound s,
  λ (from, begun, (w, leads)). closed-whole (has free) (has seen)
      (λ t u d e ahead through. spread-to seen free seen fits round u through
      (inr (record { dir = opposite d; other = t; leads = next-opposite d t u ahead; there = e }))) w from s (flood.begun from begun) leads,
)

-- the start alone
pub IsSpreading-begun : (free seen : List ℕ) → length seen ≡ length free → ((s : Spot) → has seen s ≡ true → has free s ≡ true)
    → IsSpreading free (has seen) seen
IsSpreading-begun free seen long open_there = record {
  whole = long;
  begun = λ s e. e;
  inside = within-from_has seen free open_there;
  sound = λ s e. (s, e, Joined-start (has free) s);
}

-- what is joined to a flood on its way is joined to its start
pub reaches-on : (free : List ℕ) (start : Spot → Bool) (seen new : List ℕ) → IsSpreading free start seen
    → ((s : Spot) → (has new s ≡ true) ↔ Reaches free (has seen) s) → (s : Spot) → (has new s ≡ true) ↔ Reaches free start s
reaches-on free start seen new flood joined s = (
  λ e.
      let (t, there, on) = (joined s).0 e in
      let (u, begun, so_far) = flood.sound t there in
      (u, begun, Joined-trans (has free) u t s so_far on),
  λ (u, begun, on). (joined s).1 (u, flood.begun u begun, on),
)

-- a start of one free square
pub IsSpreading-one : (free blank seen : List ℕ) (from : Spot) → length seen ≡ length free → ((s : Spot) → has blank s ≡ false)
    → ((s : Spot) → (has seen s ≡ true) ↔ ((s ≡ from) ⊎ (has blank s ≡ true))) → has free from ≡ true → IsSpreading free (has seen) seen
IsSpreading-one free blank seen from long empty put open_there = IsSpreading-begun free seen long (λ s e. elim ((put s).0 e) [
  | inl same ↦ ap (has free) same ∙ open_there
  | inr other ↦ absurd (true≢false (sym other ∙ empty s))
])

pub reaches-one : (free blank seen : List ℕ) (from : Spot) → ((s : Spot) → has blank s ≡ false)
    → ((s : Spot) → (has seen s ≡ true) ↔ ((s ≡ from) ⊎ (has blank s ≡ true))) → (s : Spot) → Reaches free (has seen) s ↔ Joined (has free) from s
reaches-one free blank seen from empty put s = (
  λ (t, e, on). elim ((put t).0 e) [
    | inl same ↦ subst (λ u. Joined (has free) u s) same on
    | inr other ↦ absurd (true≢false (sym other ∙ empty t))
  ],
  λ on. (from, (put from).1 (inl refl), on),
)

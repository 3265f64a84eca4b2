-- Sets of which no square lies in a row from one on.
use Rattle.std.proofs.Common.{ℕ, ◌≡◌, ◌<◌, ◌≤◌, ◌+◌, ◌-◌, ◌⊎◌, ◌↔◌, inl, inr, List, ◌++◌, sym, ap, ◌∙◌, arith, true, false, eqb, get_or, max, length, refl}
use Rattle.std.proofs.Common.{take, drop, true≢false}
use Rattle.std.specs.Int.{bit_at}
use Rattle.std.proofs.lemmas.Bool.{cases_Bool, cases_lt}
use Rattle.std.proofs.lemmas.List.{get_or-take, get_or-drop, get_or_append_left, get_or-append_right, length-append, length-take, length-take-le}
use Rattle.sok_rules.specs.declared.cell.Spot.{Spot}
use Rattle.sok_field.specs.Fields.{has, IsHigh}
use Rattle.sok_field.specs.Ways.{way, Joined}
use Rattle.sok_field.proofs.OneSquare.{has-past, has-within}

has-row : (a b : List ℕ) (s : Spot) (r : ℕ) → get_or a s.row 0 ≡ get_or b r 0 → (t : Spot) → t.row ≡ r → t.col ≡ s.col → has a s ≡ has b t
unfolding has
has-row a b s r same t row col =
    ap (λ n. eqb (bit_at n s.col) 1) (same ∙ ap (λ k. get_or b k 0) (sym row)) ∙ ap (λ c. eqb (bit_at (get_or b t.row 0) c) 1) (sym col)

pub none-past : (rows : List ℕ) (height : ℕ) → IsHigh rows height → (s : Spot) → height ≤ s.row → has rows s ≡ false
none-past rows height high s past = elim (cases_Bool (has rows s)) [
  | inl there ↦ let below = high.below s there in absurd (omega (arith, below, past))
  | inr none ↦ none
]

-- the rows that have squares
pub has-take : (rows : List ℕ) (height : ℕ) → IsHigh rows height → (s : Spot) → has (take height rows) s ≡ has rows s
has-take rows height high s = elim (cases_lt s.row height) [
  | inl below ↦ has-row (take height rows) rows s s.row (get_or-take height rows s.row 0 below) s refl refl
  | inr past ↦
      let within = high.within in
      let long = length-take-le height rows within in
      has-past (take height rows) s (omega (arith, long, past)) ∙ sym (none-past rows height high s past)
]

pub none-take : (rows : List ℕ) (height : ℕ) → ((s : Spot) → has rows s ≡ false) → (s : Spot) → has (take height rows) s ≡ false
none-take rows height none s = elim (cases_lt s.row height) [
  | inl below ↦ has-row (take height rows) rows s s.row (get_or-take height rows s.row 0 below) s refl refl ∙ none s
  | inr past ↦ let long = length-take height rows in has-past (take height rows) s (omega (arith, long, past))
]

-- the rows from there on
pub none-drop : (rows : List ℕ) (height from : ℕ) → IsHigh rows height → height ≤ from → (s : Spot) → has (drop from rows) s ≡ false
none-drop rows height from high past s =
    let below : Spot = record { row = from + s.row; col = s.col } in
    has-row (drop from rows) rows s (from + s.row) (get_or-drop from rows s.row 0) below refl refl ∙ none-past rows height high below (omega arith)

-- rows with blank ones below them
pub has-blank : (seen blank : List ℕ) (height : ℕ) → length seen ≡ height → ((s : Spot) → height ≤ s.row → has blank s ≡ false) → (s : Spot)
    → has (seen ++ drop height blank) s ≡ has seen s
has-blank seen blank height long none s = elim (cases_lt s.row (length seen)) [
  | inl below ↦ has-row (seen ++ drop height blank) seen s s.row (get_or_append_left seen (drop height blank) 0 s.row below) s refl refl
  | inr past ↦
      let back : height + (s.row - length seen) ≡ s.row = omega arith in
      let right = get_or-append_right seen (drop height blank) (length seen) s.row 0 refl past in
      has-row (seen ++ drop height blank) blank s s.row
      (right ∙ get_or-drop height blank (s.row - length seen) 0 ∙ ap (λ k. get_or blank k 0) back) s refl refl
      ∙ none s (omega (arith, long, past)) ∙ sym (has-past seen s past)
]

-- rows of which those that have squares are cleared
pub has-cleared : (blank old : List ℕ) (height : ℕ) → IsHigh old height → length blank ≡ height → ((s : Spot) → has blank s ≡ false) → (s : Spot)
    → has (blank ++ drop height old) s ≡ false
has-cleared blank old height high long none s = has-blank blank old height long (none-past old height high) s ∙ none s

pub IsHigh-none : (rows : List ℕ) → ((s : Spot) → has rows s ≡ false) → IsHigh rows 0
IsHigh-none rows none = record { within = omega arith; below = λ s e. absurd (true≢false (sym e ∙ none s)) }

pub IsHigh-up : (rows : List ℕ) (height more : ℕ) → IsHigh rows height → height ≤ more → more ≤ length rows → IsHigh rows more
IsHigh-up rows height more high up within = record { within = within; below = λ s e. let below = high.below s e in omega (arith, below, up) }

-- a row more may have squares
pub IsHigh-more : (old new : List ℕ) (height more row : ℕ) → IsHigh old height → length new ≡ length old → row < length old → more ≡ max height (row + 1)
    → ((s : Spot) → has new s ≡ true → (s.row ≡ row) ⊎ (has old s ≡ true)) → IsHigh new more
IsHigh-more old new height more row high same inside is from =
    let within = high.within in
    record {
      within = omega (arith, within, same, inside, is);
      below = λ s e. elim (from s e) [
        | inl here ↦ omega (arith, here, is)
        | inr before ↦ let below = high.below s before in omega (arith, below, is)
      ];
    }

-- what a flood over the rows that have squares has met
pub flooded-low : (free seen blank : List ℕ) (height : ℕ) (from : Spot) → IsHigh free height → length seen ≡ height → ((s : Spot) → has blank s ≡ false)
    → ((s : Spot) → (has seen s ≡ true) ↔ Joined (has (take height free)) from s)
    → (s : Spot) → (has (seen ++ drop height blank) s ≡ true) ↔ Joined (has free) from s
flooded-low free seen blank height from high long none joined s =
    let is = has-blank seen blank height long (λ t _. none t) s in
    let lets : has (take height free) ≡ has free = λ i t. has-take free height high t i in (
      λ e. let (w, leads) = (joined s).0 (sym is ∙ e) in (w, ap (λ through. way through from w) (sym lets) ∙ leads),
      λ (w, leads). is ∙ (joined s).1 (w, ap (λ through. way through from w) lets ∙ leads),
    )

pub IsHigh-low : (seen blank : List ℕ) (height : ℕ) → length seen ≡ height → ((s : Spot) → has blank s ≡ false) → IsHigh (seen ++ drop height blank) height
IsHigh-low seen blank height long none =
    let more = length-append seen (drop height blank) in
    record {
      within = omega (arith, more, long);
      below = λ s e. let within = has-within seen s (sym (has-blank seen blank height long (λ t _. none t) s) ∙ e) in omega (arith, within, long);
    }

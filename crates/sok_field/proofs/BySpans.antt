-- Squares that are drawn or written span by span.
use Rattle.std.proofs.Common.{ℕ, ◌≡◌, ◌<◌, ◌≤◌, ◌+◌, ◌-◌, ◌⊎◌, ◌↔◌, inl, inr, List, ◌∷◌, sym, ap, ◌∙◌, subst, arith, true, get_or, drop, length}
use Rattle.std.specs.Int.{bit_at}
use Rattle.std.proofs.lemmas.Bool.{cases_lt}
use Rattle.std.proofs.lemmas.List.{drop_more, drop_all}
use Rattle.sok_rules.specs.declared.cell.Spot.{Spot}
use Rattle.sok_board.specs.Area.{BoardView, IsArea, spot_of, number_of}
use Rattle.sok_board.specs.Spans.{IsSpan, Covers, right_of}
use Rattle.sok_board.specs.declared.spans.Span.{Span}
use Rattle.sok_board.proofs.AreaLaws.{spot_of-number_of, number_of-spot_of}
use Rattle.sok_field.specs.Fields.{has}
use Rattle.sok_field.specs.Numbers.{Draws, has_number}
use Rattle.sok_field.specs.Spans.{LiesOn, IsPut}
use Rattle.sok_field.proofs.OneSquare.{same_place}

abbrev pub no_span : Span
no_span = record { first = record { row = 0; col = 0 }; number = 0; length = 0 }

-- the next of spans that go on from a number
pub next-span : (b : BoardView) (spans : List Span) (k from to : ℕ) → k < length spans → Covers b from (drop k spans) to
    → Covers b from (get_or spans k no_span ∷ drop (k + 1) spans) to
next-span b spans k from to within covers = subst (λ rest. Covers b from rest to) (drop_more spans k no_span within) covers

-- after the last span there is no square left
pub no-more : (b : BoardView) (spans : List Span) (k from to : ℕ) → length spans ≤ k → Covers b from (drop k spans) to → from ≡ to
no-more b spans k from to past covers = subst (λ rest. Covers b from rest to) (drop_all k spans past) covers

-- the squares of a span by their numbers
spot-on : (b : BoardView) (span : Span) (n : ℕ) → IsSpan b span → span.number ≤ n → n < span.number + span.length
    → spot_of b n ≡ right_of span.first (n - span.number)
spot-on b span n is from below =
    let back : span.number + (n - span.number) ≡ n = omega arith in
    ap (spot_of b) (sym back) ∙ is.lies (n - span.number) (omega arith)

-- a span more is drawn
pub Draws-span : (b : BoardView) → IsArea b.rows b.area → (old new : List ℕ) (to : ℕ) (span : Span) → IsSpan b span → span.number ≡ to
    → ((s : Spot) → (has new s ≡ true) ↔ ((has old s ≡ true) ⊎ LiesOn span s))
    → Draws b (λ n. n < to) old → Draws b (λ n. n < to + span.length) new
Draws-span b area old new to span is at put draws s = (
  λ e. elim ((put s).0 e) [
    | inl before ↦ let (n, number, below) = (draws s).0 before in (n, number, omega (arith, below))
    | inr (row, from, below) ↦
        let k = s.col - span.first.col in
        let within = is.within in
        let n = span.number + k in
        let col : s.col ≡ span.first.col + k = omega (arith, from) in
        let there : spot_of b n ≡ s = is.lies k (omega (arith, from, below)) ∙ sym (same_place s (right_of span.first k) row col) in
        (n, ap (number_of b) (sym there) ∙ number_of-spot_of b area n (omega (arith, within, from, below)), omega (arith, at, from, below))
  ],
  λ (n, number, below). (put s).1 (elim (cases_lt n to) [
    | inl earlier ↦ inl ((draws s).1 (n, number, earlier))
    | inr past ↦
        let there = sym (spot_of-number_of b s n number).1 ∙ spot-on b span n is (omega (arith, at, past)) (omega (arith, at, below)) in
        let row = ap (λ (t : Spot). t.row) there in
        let col = ap (λ (t : Spot). t.col) there in
        inr (row, omega (arith, col), omega (arith, col, at, below))
  ]),
)

-- the numbers of a span more are written
pub written-span : (b : BoardView) (set old new : List ℕ) (to : ℕ) (span : Span) (word : ℕ) → IsSpan b span → span.number ≡ to
    → ((k : ℕ) → (bit_at word k ≡ 1) ↔ ((k < span.length) × (has set (right_of span.first k) ≡ true)))
    → ((n : ℕ) → (has_number new n ≡ true) ↔ ((has_number old n ≡ true) ⊎ IsPut word span.number n))
    → ((n : ℕ) → (has_number old n ≡ true) ↔ ((n < to) × (has set (spot_of b n) ≡ true)))
    → (n : ℕ) → (has_number new n ≡ true) ↔ ((n < to + span.length) × (has set (spot_of b n) ≡ true))
written-span b set old new to span word is at bits put done n = (
  λ e. elim ((put n).0 e) [
    | inl before ↦ let (below, there) = (done n).0 before in (omega (arith, below), there)
    | inr (from, on) ↦
        let (below, there) = (bits (n - span.number)).0 on in
        let inside : n < span.number + span.length = omega (arith, from, below) in
        (omega (arith, inside, at), ap (has set) (spot-on b span n is from inside) ∙ there)
  ],
  λ (below, there). (put n).1 (elim (cases_lt n to) [
    | inl earlier ↦ inl ((done n).1 (earlier, there))
    | inr past ↦
        let from : span.number ≤ n = omega (arith, at, past) in
        let inside : n < span.number + span.length = omega (arith, at, below) in
        inr (from, (bits (n - span.number)).1 (omega (arith, from, inside), sym (ap (has set) (spot-on b span n is from inside)) ∙ there))
  ]),
)

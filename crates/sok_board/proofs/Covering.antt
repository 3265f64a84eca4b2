-- Spans that have the squares of an area in order.
use Rattle.std.proofs.Common.{ℕ, ◌≡◌, ◌≢◌, ◌<◌, ◌≤◌, ◌+◌, ◌-◌, ◌%◌, ap, sym, ◌∙◌, subst, inl, inr, arith, List, [], ◌∷◌, ◌++◌, All, length, get_or}
use Rattle.std.proofs.lemmas.Bool.{cases_lt}
use Rattle.std.proofs.lemmas.Option.{unwrap_or-slice_get}
use Rattle.sok_rules.specs.declared.cell.Spot.{Spot}
use Rattle.sok_board.specs.Area.{BoardView}
use Rattle.sok_board.specs.Spans.{IsSpan, Covers, spot_at, right_of, word_bits}
use Rattle.sok_board.specs.Tables.{HasPlace}
use Rattle.sok_board.specs.declared.spans.Span.{Span}
use Rattle.sok_board.proofs.AreaLaws.{origin}

-- one span more
pub Covers-push : (b : BoardView) (spans : List Span) (from to : ℕ) (span : Span) → Covers b from spans to → IsSpan b span → span.number ≡ to
    → Covers b from (spans ++ span ∷ []) (to + span.length)
Covers-push b [] from to span covers is at = (is, at ∙ sym covers, ap (λ n. n + span.length) covers)
Covers-push b (first ∷ spans) from to span (here, number, rest) is at = (here, number, Covers-push b spans (from + first.length) to span rest is at)

-- a square lies beside itself, and further ones one by one
pub right_of-none : (squares : List Spot) (n k : ℕ) → k < 1 → spot_at squares (n + k) ≡ right_of (spot_at squares n) k
right_of-none squares n k within =
    let here : n + k ≡ n = omega arith in
    let s = spot_at squares n in
    let col : s.col ≡ s.col + k = omega arith in
    ap (spot_at squares) here ∙ (λ i. record { row = s.row; col = col i })

pub right_of-more : (squares : List Spot) (n m : ℕ) → (get_or squares (n + m) origin).row ≡ (get_or squares n origin).row
    → (get_or squares (n + m) origin).col ≡ (get_or squares n origin).col + m
    → ((k : ℕ) → k < m → spot_at squares (n + k) ≡ right_of (spot_at squares n) k)
    → (k : ℕ) → k < m + 1 → spot_at squares (n + k) ≡ right_of (spot_at squares n) k
right_of-more squares n m row col before k within = elim (cases_lt k m) [
  | inl below ↦ before k below
  | inr past ↦
      let last : k ≡ m = omega arith in
      let there = unwrap_or-slice_get squares (n + m) origin in
      let here = unwrap_or-slice_get squares n origin in
      subst (λ j. spot_at squares (n + j) ≡ right_of (spot_at squares n) j) (sym last)
      (there ∙ (λ i. record { row = row i; col = col i }) ∙ ap (λ s. right_of s m) (sym here))
]

-- where the next square begins no word, the word has a bit for it too
pub columns-more : (first next m : ℕ) → first % word_bits + m ≤ word_bits → next ≡ first + m → next % word_bits ≢ 0 → first % word_bits + (m + 1) ≤ word_bits
columns-more first next m before beside apart = omega (arith, before, beside, apart)

-- squares that lie side by side are a span
pub IsSpan-beside : (b : BoardView) (squares : List Spot) (n m : ℕ) → b.area ≡ squares → All HasPlace squares → 0 < m → n + m ≤ length squares
    → (spot_at squares n).col % word_bits + m ≤ word_bits
    → ((k : ℕ) → k < m → spot_at squares (n + k) ≡ right_of (spot_at squares n) k)
    → IsSpan b (record { first = get_or squares n origin; number = n; length = m })
IsSpan-beside b squares n m same places some within columns lies =
    let here = unwrap_or-slice_get squares n origin in
    let last : m - 1 < m = omega arith in
    let end : n + (m - 1) < length squares = omega arith in
    let there = sym (unwrap_or-slice_get squares (n + (m - 1)) origin) ∙ lies (m - 1) last ∙ ap (λ s. right_of s (m - 1)) here in
    let place = subst HasPlace there (places (n + (m - 1)) origin end) in
    let col = place.col in
    let long = ap length same in
    record {
      some = some;
      within = omega (arith, long, within);
      row = place.row;
      col = omega (arith, col, some);
      columns = subst (λ s. s.col % word_bits + m ≤ word_bits) here columns;
      lies = λ k below. ap (λ area. spot_at area (n + k)) same ∙ lies k below ∙ ap (λ s. right_of s k) here;
    }

-- A flood over both halves of a set: each by itself, and rounds that come across the seam between them.
use Rattle.std.proofs.Common.{ℕ, ◌≡◌, ◌<◌, ◌≤◌, ◌+◌, ◌-◌, ◌^◌, ◌⊎◌, ◌↔◌, inl, inr, List, [], ◌∷◌, Bool, Some, refl, sym, ap, ◌∙◌, subst, arith}
use Rattle.std.proofs.Common.{true, false, true≢false, get_or, length, sum, bit_and, bit_or, if◌then◌else◌, None}
use Rattle.std.specs.Int.{bit_at}
use Rattle.std.proofs.lemmas.Bool.{cases_eq, cases_lt}
use Rattle.std.proofs.lemmas.Nat.Bits.{bit_at-lt, bit_at_above, bit_at_and, bit_at_or}
use Rattle.std.proofs.lemmas.Nat.{pow_pos}
use Rattle.std.proofs.lemmas.Option.{same_Some, option_and_then_some}
use Rattle.sok_rules.specs.declared.cell.Dir.{Dir}
use Rattle.sok_rules.specs.declared.cell.Dir.TheVariants.{Left, Up, Right, Down}
use Rattle.sok_rules.specs.declared.cell.Spot.{Spot}
use Rattle.sok_rules.specs.Squares.{next, opposite}
use Rattle.sok_rules.proofs.Spots.{next-opposite}
use Rattle.sok_field.specs.Crossings.{AreClosed, IsCrossed, IsWide}
use Rattle.sok_field.specs.Fields.{has}
use Rattle.sok_field.specs.Floods.{Reaches}
use Rattle.sok_field.specs.Halves.{AreWords, beyond, halves, within}
use Rattle.sok_field.specs.Rounds.{from_high, from_low, spread_beside, spread_row}
use Rattle.sok_field.specs.Ways.{Joined, way}
use Rattle.sok_field.proofs.Flooding.{rises-from_has}
use Rattle.sok_field.proofs.Halves.{has-beyond, has-lower, has-upper, within-same}
use Rattle.sok_field.proofs.OneSquare.{same_place}
use Rattle.sok_field.proofs.Parts.{shl-high, shl-low, shr-bit}
use Rattle.sok_field.proofs.Seams.{beside-row}
use Rattle.sok_field.proofs.Steps.{is-step, next-beyond, next-within, step-is}
use Rattle.sok_field.proofs.Spreading.{IsBeside, has-col, has-on, on-has, row-from, row-to}
use Rattle.sok_field.proofs.Totals.{sum-le, sum-same}
use Rattle.sok_field.proofs.Ways.{Joined-more, Joined-start, Joined-trans, closed-whole, if_some, way-one}

-- ---- ways over one half are ways over both

-- a way, where each step of it is one between the squares that stand for its squares
way-lift : (lets more : Spot → Bool) (f : Spot → Spot) → ((d : Dir) (s t : Spot) → next d s ≡ Some t → next d (f s) ≡ Some (f t))
    → ((t : Spot) → lets t ≡ true → more (f t) ≡ true) → (w : List Dir) (s t : Spot) → way lets s w ≡ Some t → way more (f s) w ≡ Some (f t)
way-lift lets more f steps through [] s t leads = ap (λ u. Some (f u)) (same_Some s t leads)
way-lift lets more f steps through (d ∷ w) s t leads = option_and_then_some (λ u. if lets u then way lets u w else None) (next d s) t leads (λ u on rest.
    let (open_there, further) = if_some (lets u) u w lets t rest in
    way-one more (f s) (f u) d w (steps d s u on) (through u open_there) ∙ way-lift lets more f steps through w u t further)

-- what is joined to a free square is free
pub joined-free : (lets : Spot → Bool) (t s : Spot) → lets t ≡ true → Joined lets t s → lets s ≡ true
joined-free lets t s there (w, leads) = closed-whole lets lets (λ _ _ _ _ _ through. through) w t s there leads

-- a half that is flooded has no less
pub sum-flooded : (free old new : List ℕ) → length old ≡ length new → ((s : Spot) → (has new s ≡ true) ↔ Reaches free (has old) s) → sum old ≤ sum new
sum-flooded free old new whole joined = sum-le old new whole (rises-from_has old new (λ s there. (joined s).1 (s, there, Joined-start (has free) s)))

-- ---- what comes across the seam

-- the last column of the lower half, and the first of the upper one, in a row
abbrev last_of : ℕ → Spot
last_of r = record { row = r; col = 63 }

abbrev first_of : ℕ → Spot
first_of r = record { row = r; col = 0 }

-- a bit that comes from the upper half is one of the last column
high-bit : (x c : ℕ) → c < 64 → (bit_at (from_high x) c ≡ 1) ↔ ((c ≡ 63) × (bit_at x 0 ≡ 1))
high-bit x c within = elim (cases_lt c 63) [
  | inl below ↦
      let off = shl-low x 63 c within below in
      (λ on. absurd (omega (arith, on, off)), λ (last, _). absurd (omega (arith, last, below)))
  | inr from ↦
      let is = shl-high x 63 c within from (pow_pos 63) in
      let at : c - 63 ≡ 0 = omega (arith, within, from) in
      let bit = ap (bit_at x) at in
      (λ on. (omega (arith, within, from), sym bit ∙ sym is ∙ on), λ (_, on). is ∙ bit ∙ on)
]

-- and one that comes from the lower half, of the first
low-bit : (x c : ℕ) → x < 2 ^ 64 → (bit_at (from_low x) c ≡ 1) ↔ ((c ≡ 0) × (bit_at x 63 ≡ 1))
low-bit x c fits =
    let is = shr-bit x 63 c (pow_pos 63) in
    elim (cases_eq c 0) [
      | inl first ↦
          let at : c + 63 ≡ 63 = omega (arith, first) in
          let bit = ap (bit_at x) at in
          (λ on. (first, sym bit ∙ sym is ∙ on), λ (_, on). is ∙ bit ∙ on)
      | inr apart ↦
          let off = bit_at_above x 64 (c + 63) fits (omega (arith, apart)) in
          (λ on. absurd (omega (arith, on, is, off)), λ (first, _). absurd (apart first))
    ]

-- a square of a half after a round over both: it is free, and was seen, or lies beside one that was, in its half or across the seam
across-from : (across : ℕ) (seen free out : List ℕ) (s : Spot) → AreWords free → get_or out s.row 0 ≡ spread_beside across seen free s.row → has out s ≡ true
    → (has free s ≡ true) × (((has seen s ≡ true) ⊎ IsBeside seen s) ⊎ (bit_at across s.col ≡ 1))
across-from across seen free out s words round there =
    let row = get_or free s.row 0 in
    let parted = ap (λ n. bit_at n s.col) (beside-row across seen free s.row ∙ sym round) ∙ has-on out s there in
    let or = bit_at_or (spread_row seen free s.row) (bit_and row across) s.col in
    let and = bit_at_and row across s.col in
    let small = bit_at-lt row s.col in
    let small_across = bit_at-lt across s.col in
    let small_row = bit_at-lt (spread_row seen free s.row) s.col in
    elim (cases_eq (bit_at (spread_row seen free s.row) s.col) 1) [
      | inl on ↦ let (open_there, met) = row-from seen free words s on in (open_there, inl met)
      | inr off ↦ (
        on-has free s (omega (arith, parted, or, and, small, small_across, small_row, off)),
        inr (omega (arith, parted, or, and, small, small_across, small_row, off)),
      )
    ]

across-to : (across : ℕ) (seen free out : List ℕ) (s : Spot) → AreWords free → get_or out s.row 0 ≡ spread_beside across seen free s.row → has free s ≡ true
    → ((has seen s ≡ true) ⊎ IsBeside seen s) ⊎ (bit_at across s.col ≡ 1) → has out s ≡ true
across-to across seen free out s words round open_there one =
    let row = get_or free s.row 0 in
    let parted : bit_at (get_or out s.row 0) s.col ≡ bit_at (bit_or (spread_row seen free s.row) (bit_and row across)) s.col =
    ap (λ n. bit_at n s.col) (round ∙ sym (beside-row across seen free s.row)) in
    let or = bit_at_or (spread_row seen free s.row) (bit_and row across) s.col in
    let and = bit_at_and row across s.col in
    let through = has-on free s open_there in
    let small_across = bit_at-lt across s.col in
    let small_row = bit_at-lt (spread_row seen free s.row) s.col in
    on-has out s (elim one [
      | inl met ↦ let on = row-to seen free words s open_there met in omega (arith, parted, or, and, through, small_across, on)
      | inr on ↦ omega (arith, parted, or, and, through, small_row, on)
    ])

-- ---- both halves on their way

-- a step over the seam leads from the first column of the upper half to the last of the lower one
over-seam : (d : Dir) (s t : Spot) → next d s ≡ Some t → 64 ≤ s.col → t.col < 64 → (t.row ≡ s.row) × (t.col ≡ 63) × (s.col - 64 ≡ 0)
over-seam Left s t leads past inside =
    let (row, col) = step-is Left s t leads in
    (row, omega (arith, col, past, inside), omega (arith, col, past, inside))
over-seam Right s t leads past inside = let (_, col) = step-is Right s t leads in absurd (omega (arith, col, past, inside))
over-seam Up s t leads past inside = let (_, col) = step-is Up s t leads in absurd (omega (arith, col, past, inside))
over-seam Down s t leads past inside = let (_, col) = step-is Down s t leads in absurd (omega (arith, col, past, inside))

beyond-within : (s : Spot) → 64 ≤ s.col → beyond (within s) ≡ s
beyond-within s past = same_place (beyond (within s)) s refl (omega (arith, past))

-- the free squares of both halves, in words
pub record AreFree (free_low free_high : List ℕ) : Type 0 where
  pub same : length free_high ≡ length free_low
  pub words_low : AreWords free_low
  pub words_high : AreWords free_high

module _ {free_low free_high : List ℕ} (free : AreFree free_low free_high) where
  -- free squares of each half are free squares of both
  free-low : (t : Spot) → has free_low t ≡ true → has (halves free_low free_high) t ≡ true
  free-low t there = has-lower free_low free_high t (has-col free_low t (free.words_low t.row) there) ∙ there

  free-high : (t : Spot) → has free_high t ≡ true → has (halves free_low free_high) (beyond t) ≡ true
  free-high t there = has-beyond free_low free_high t ∙ there

  joined-low : (t s : Spot) → Joined (has free_low) t s → Joined (has (halves free_low free_high)) t s
  joined-low t s (w, leads) = (w, way-lift (has free_low) (has (halves free_low free_high)) (λ u. u) (λ d u v e. e) free-low w t s leads)

  joined-high : (t s : Spot) → Joined (has free_high) t s → Joined (has (halves free_low free_high)) (beyond t) (beyond s)
  joined-high t s (w, leads) = (w, way-lift (has free_high) (has (halves free_low free_high)) beyond next-beyond free-high w t s leads)

  module _ {from : Spot} {low high : List ℕ} (wide : IsWide free_low free_high from low high) where
    -- a square of each half is joined to the one
    sound-low : (t : Spot) → has low t ≡ true → Joined (has (halves free_low free_high)) from t
    sound-low t there = wide.sound t (has-lower low high t (has-col free_low t (free.words_low t.row) (wide.inside_low t there)) ∙ there)

    sound-high : (t : Spot) → has high t ≡ true → Joined (has (halves free_low free_high)) from (beyond t)
    sound-high t there = wide.sound (beyond t) (has-beyond low high t ∙ there)

    -- what keeps the squares of both halves, and has others that are free and joined to the one, is on its way too
    wide-grown : (new_low new_high : List ℕ) → length new_low ≡ length low → length new_high ≡ length high
        → ((s : Spot) → has low s ≡ true → has new_low s ≡ true) → ((s : Spot) → has high s ≡ true → has new_high s ≡ true)
        → ((s : Spot) → has new_low s ≡ true → (has free_low s ≡ true) × Joined (has (halves free_low free_high)) from s)
        → ((s : Spot) → has new_high s ≡ true → (has free_high s ≡ true) × Joined (has (halves free_low free_high)) from (beyond s))
        → IsWide free_low free_high from new_low new_high
    wide-grown new_low new_high long_low long_high keeps_low keeps_high adds_low adds_high =
        record {
          whole_low = long_low ∙ wide.whole_low;
          whole_high = long_high ∙ wide.whole_high;
          begun = elim (cases_lt from.col 64) [
            | inl inside ↦ has-lower new_low new_high from inside
                ∙ keeps_low from (sym (has-lower low high from inside) ∙ wide.begun)
            | inr past ↦ has-upper new_low new_high from past
                ∙ keeps_high (within from) (sym (has-upper low high from past) ∙ wide.begun)
          ];
          inside_low = λ s there. (adds_low s there).0;
          inside_high = λ s there. (adds_high s there).0;
          sound = λ s there. elim (cases_lt s.col 64) [
            | inl inside ↦ (adds_low s (sym (has-lower new_low new_high s inside) ∙ there)).1
            | inr past ↦ subst (Joined (has (halves free_low free_high)) from) (beyond-within s past)
                (adds_high (within s) (sym (has-upper new_low new_high s past) ∙ there)).1
          ];
        }

    -- a half is flooded
    pub wide-low : (new : List ℕ) → length new ≡ length low → ((s : Spot) → (has new s ≡ true) ↔ Reaches free_low (has low) s)
        → IsWide free_low free_high from new high
    wide-low new whole joined = wide-grown new high whole refl (λ s there. (joined s).1 (s, there, Joined-start (has free_low) s)) (λ s there. there)
        (λ s e.
        let (t, there, on) = (joined s).0 e in (
          joined-free (has free_low) t s (wide.inside_low t there) on,
          Joined-trans (has (halves free_low free_high)) from t s (sound-low t there) (joined-low t s on),
        ))
        (λ s e. (wide.inside_high s e, sound-high s e))

    pub wide-high : (new : List ℕ) → length new ≡ length high → ((s : Spot) → (has new s ≡ true) ↔ Reaches free_high (has high) s)
        → IsWide free_low free_high from low new
    wide-high new whole joined = wide-grown low new refl whole (λ s there. there) (λ s there. (joined s).1 (s, there, Joined-start (has free_high) s))
        (λ s e. (wide.inside_low s e, sound-low s e))
        (λ s e.
        let (t, there, on) = (joined s).0 e in (
          joined-free (has free_high) t s (wide.inside_high t there) on,
          Joined-trans (has (halves free_low free_high)) from (beyond t) (beyond s) (sound-high t there) (joined-high t s on),
        ))

    -- a step on from a square of both halves to a free one
    onward : (t s : Spot) (d : Dir) → Joined (has (halves free_low free_high)) from t → next d t ≡ Some s → has (halves free_low free_high) s ≡ true
        → Joined (has (halves free_low free_high)) from s
    onward t s d so_far leads through = Joined-more (has (halves free_low free_high)) from t s d so_far leads through

    words : AreWords low
    words r =
        let within = rises-from_has low free_low wide.inside_low r in
        let fits = free.words_low r in
        omega (arith, within, fits)

    module _ {new_low new_high : List ℕ} (crossed : IsCrossed free_low free_high low high new_low new_high) where
      keeps-low : (s : Spot) → has low s ≡ true → has new_low s ≡ true
      keeps-low s there = across-to (from_high (get_or high s.row 0)) low free_low new_low s free.words_low (crossed.round_low s.row) (wide.inside_low s there)
          (inl (inl there))

      keeps-high : (s : Spot) → has high s ≡ true → has new_high s ≡ true
      keeps-high s there = across-to (from_low (get_or low s.row 0)) high free_high new_high s free.words_high (crossed.round_high s.row) (wide.inside_high s there)
          (inl (inl there))

      adds-low : (s : Spot) → has new_low s ≡ true → (has free_low s ≡ true) × Joined (has (halves free_low free_high)) from s
      adds-low s e =
          let (through, one) = across-from (from_high (get_or high s.row 0)) low free_low new_low s free.words_low (crossed.round_low s.row) e in (
            through,
            elim one [
              | inl (inl there) ↦ sound-low s there
              | inl (inr beside) ↦ onward beside.other s (opposite beside.dir) (sound-low beside.other beside.there)
                  (next-opposite beside.dir s beside.other beside.leads) (free-low s through)
              | inr on ↦
                  let col = has-col free_low s (free.words_low s.row) through in
                  let (last, there) = (high-bit (get_or high s.row 0) s.col col).0 on in
                  onward (beyond (first_of s.row)) s Left (sound-high (first_of s.row) (on-has high (first_of s.row) there))
                  (is-step Left (beyond (first_of s.row)) s (refl, omega (arith, last))) (free-low s through)
            ],
          )

      adds-high : (s : Spot) → has new_high s ≡ true → (has free_high s ≡ true) × Joined (has (halves free_low free_high)) from (beyond s)
      adds-high s e =
          let (through, one) = across-from (from_low (get_or low s.row 0)) high free_high new_high s free.words_high (crossed.round_high s.row) e in (
            through,
            elim one [
              | inl (inl there) ↦ sound-high s there
              | inl (inr beside) ↦ onward (beyond beside.other) (beyond s) (opposite beside.dir) (sound-high beside.other beside.there)
                  (next-beyond (opposite beside.dir) beside.other s (next-opposite beside.dir s beside.other beside.leads)) (free-high s through)
              | inr on ↦
                  let (first, there) = (low-bit (get_or low s.row 0) s.col (words s.row)).0 on in
                  onward (last_of s.row) (beyond s) Right (sound-low (last_of s.row) (on-has low (last_of s.row) there))
                  (is-step Right (last_of s.row) (beyond s) (refl, omega (arith, first))) (free-high s through)
            ],
          )

      -- a round over both goes on
      pub wide-crossed : IsWide free_low free_high from new_low new_high
      wide-crossed = wide-grown new_low new_high crossed.whole_low crossed.whole_high keeps-low keeps-high adds-low adds-high

      -- and has more, if it changes any
      pub wide-more : (AreClosed free_low free_high low high → ⊥) → sum low + sum high < sum new_low + sum new_high
      wide-more open_there =
          let rises_low = rises-from_has low new_low keeps-low in
          let rises_high = rises-from_has high new_high keeps-high in
          let less_low = sum-le low new_low (sym crossed.whole_low) rises_low in
          let less_high = sum-le high new_high (sym crossed.whole_high) rises_high in
          elim (cases_lt (sum low + sum high) (sum new_low + sum new_high)) [
            | inl more ↦ more
            | inr none ↦
                let same_low = sum-same low new_low (sym crossed.whole_low) rises_low (omega (arith, none, less_high)) in
                let same_high = sum-same high new_high (sym crossed.whole_high) rises_high (omega (arith, none, less_low)) in
                absurd (open_there (subst (λ (T : Type 0). T) (λ i. IsCrossed free_low free_high low high (sym same_low i) (sym same_high i)) crossed))
          ]

    -- where a round over both changes nothing, the flood has ended
    module _ (closed : AreClosed free_low free_high low high) where
      closed-low : (s : Spot) → has free_low s ≡ true
          → ((has low s ≡ true) ⊎ IsBeside low s) ⊎ (bit_at (from_high (get_or high s.row 0)) s.col ≡ 1) → has low s ≡ true
      closed-low s through one = across-to (from_high (get_or high s.row 0)) low free_low low s free.words_low (closed.round_low s.row) through one

      closed-high : (s : Spot) → has free_high s ≡ true
          → ((has high s ≡ true) ⊎ IsBeside high s) ⊎ (bit_at (from_low (get_or low s.row 0)) s.col ≡ 1) → has high s ≡ true
      closed-high s through one = across-to (from_low (get_or low s.row 0)) high free_high high s free.words_high (closed.round_high s.row) through one

      -- so no letter leads out of both halves over free squares
      closed-both : (s t : Spot) (d : Dir) → has (halves low high) s ≡ true → next d s ≡ Some t → has (halves free_low free_high) t ≡ true
          → has (halves low high) t ≡ true
      closed-both s t d there leads through =
          let back = next-opposite d s t leads in
          elim (cases_lt t.col 64) [
            | inl t_in ↦
                let open_there = sym (has-lower free_low free_high t t_in) ∙ through in
                has-lower low high t t_in ∙ closed-low t open_there (elim (cases_lt s.col 64) [
                  | inl s_in ↦ inl (inr (record {
                    dir = opposite d;
                    other = s;
                    leads = back;
                    there = sym (has-lower low high s s_in) ∙ there;
                  }))
                  | inr s_past ↦
                      let (row, last, first) = over-seam d s t leads s_past t_in in
                      let on = has-on high (within s) (sym (has-upper low high s s_past) ∙ there) in
                      inr ((high-bit (get_or high t.row 0) t.col t_in).1 (
                        last,
                        (λ i. bit_at (get_or high (row i) 0) (sym first i)) ∙ on,
                      ))
                ])
            | inr t_past ↦
                let open_there = sym (has-upper free_low free_high t t_past) ∙ through in
                has-upper low high t t_past ∙ closed-high (within t) open_there (elim (cases_lt s.col 64) [
                  | inr s_past ↦ inl (inr (record {
                    dir = opposite d;
                    other = within s;
                    leads = next-within (opposite d) t s t_past s_past back;
                    there = sym (has-upper low high s s_past) ∙ there;
                  }))
                  | inl s_in ↦
                      let (row, last, first) = over-seam (opposite d) t s back t_past s_in in
                      let on = has-on low s (sym (has-lower low high s s_in) ∙ there) in
                      inr ((low-bit (get_or low t.row 0) (t.col - 64) (words t.row)).1 (
                        first,
                        (λ i. bit_at (get_or low (sym row i) 0) (sym last i)) ∙ on,
                      ))
                ])
          ]

      pub wide-exact : (s : Spot) → (has (halves low high) s ≡ true) ↔ Joined (has (halves free_low free_high)) from s
      wide-exact s =
          (wide.sound s, λ (w, leads). closed-whole (has (halves free_low free_high)) (has (halves low high)) closed-both w from s wide.begun leads)

    -- both halves have no more than there is free
    pub sum-wide : sum low + sum high ≤ sum free_low + sum free_high
    sum-wide =
        let less = sum-le low free_low wide.whole_low (rises-from_has low free_low wide.inside_low) in
        let less_high = sum-le high free_high (wide.whole_high ∙ sym free.same) (rises-from_has high free_high wide.inside_high) in
        omega (arith, less, less_high)

  -- the one alone, in the lower half or in the upper one
  pub wide-begun : (from : Spot) (low high : List ℕ) → length low ≡ length free_low → length high ≡ length free_low → has (halves low high) from ≡ true
      → ((s : Spot) → has (halves low high) s ≡ true → s ≡ from) → ((s : Spot) → has low s ≡ true → s.col < 64)
      → has (halves free_low free_high) from ≡ true → IsWide free_low free_high from low high
  wide-begun from low high whole_low whole_high begun only narrow through = record {
    whole_low = whole_low;
    whole_high = whole_high;
    begun = begun;
    inside_low = λ s e.
        let inside = narrow s e in
        let is = only s (has-lower low high s inside ∙ e) in
        sym (has-lower free_low free_high s inside) ∙ ap (has (halves free_low free_high)) is ∙ through;
    inside_high = λ s e.
        let is = only (beyond s) (has-beyond low high s ∙ e) in
        sym (has-beyond free_low free_high s) ∙ ap (has (halves free_low free_high)) is ∙ through;
    sound = λ s e. subst (Joined (has (halves free_low free_high)) from) (sym (only s e)) (Joined-start (has (halves free_low free_high)) from);
  }

  pub put-low : (from : Spot) (blank low high : List ℕ) → length low ≡ length free_low → length high ≡ length free_low → from.col < 64
      → ((s : Spot) → has blank s ≡ false) → ((s : Spot) → has high s ≡ false)
      → ((s : Spot) → (has low s ≡ true) ↔ ((s ≡ from) ⊎ (has blank s ≡ true))) → has (halves free_low free_high) from ≡ true
      → IsWide free_low free_high from low high
  put-low from blank low high whole_low whole_high inside empty none put through =
      let only : (s : Spot) → has low s ≡ true → s ≡ from = λ s e. elim ((put s).0 e) [
        | inl is ↦ is
        | inr old ↦ absurd (true≢false (sym old ∙ empty s))
      ] in
      wide-begun from low high whole_low whole_high (has-lower low high from inside ∙ (put from).1 (inl refl))
      (λ s e. elim (cases_lt s.col 64) [
        | inl s_in ↦ only s (sym (has-lower low high s s_in) ∙ e)
        | inr past ↦ absurd (true≢false (sym e ∙ has-upper low high s past ∙ none (within s)))
      ])
      (λ s e. let col = ap (λ (t : Spot). t.col) (only s e) in omega (arith, col, inside)) through

  pub put-high : (from p : Spot) (blank low high : List ℕ) → length low ≡ length free_low → length high ≡ length free_low → 64 ≤ from.col → p ≡ within from
      → ((s : Spot) → has blank s ≡ false) → ((s : Spot) → has low s ≡ false)
      → ((s : Spot) → (has high s ≡ true) ↔ ((s ≡ p) ⊎ (has blank s ≡ true))) → has (halves free_low free_high) from ≡ true
      → IsWide free_low free_high from low high
  put-high from p blank low high whole_low whole_high past is empty none put through = wide-begun from low high whole_low whole_high
      (has-upper low high from past ∙ ap (has high) (sym is) ∙ (put p).1 (inl refl))
      (λ s e. elim (cases_lt s.col 64) [
        | inl s_in ↦ absurd (true≢false (sym e ∙ has-lower low high s s_in ∙ none s))
        | inr s_past ↦ elim ((put (within s)).0 (sym (has-upper low high s s_past) ∙ e)) [
          | inl here ↦ within-same s from s_past past (here ∙ is)
          | inr old ↦ absurd (true≢false (sym old ∙ empty (within s)))
        ]
      ])
      (λ s e. absurd (true≢false (sym e ∙ none s))) through

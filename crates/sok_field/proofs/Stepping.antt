-- A flood that goes on row by row.
use Rattle.std.proofs.Common.{ℕ, ◌≡◌, ◌<◌, ◌≤◌, ◌+◌, ◌*◌, ◌/◌, ◌%◌, ◌^◌, ◌⊎◌, inl, inr, List, refl, sym, ap, ◌∙◌, subst, arith, true, false, true≢false}
use Rattle.std.proofs.Common.{Bool, get_or, set, length, bit_and, bit_or, max, min}
use Rattle.std.specs.Int.{bit_at}
use Rattle.std.specs.List.{sum}
use Rattle.std.proofs.lemmas.Bool.{cases_eq}
use Rattle.std.proofs.lemmas.List.{length-set, get_or-set_same, get_or-set_other, set-get_or}
use Rattle.std.proofs.lemmas.List.Sums.{sum_by-set}
use Rattle.std.proofs.lemmas.Nat.Bits.{bit_at-lt, bit_at_and, bit_at_or}
use Rattle.sok_rules.specs.declared.cell.Spot.{Spot}
use Rattle.sok_field.specs.Floods.{IsSpreading}
use Rattle.sok_field.specs.Rounds.{above, widened}
use Rattle.sok_field.specs.Sweeps.{IsStepped, GoesOn}
use Rattle.sok_field.proofs.Flooding.{IsSpreading-grown}
use Rattle.sok_field.proofs.OneSquare.{set-same}
use Rattle.sok_field.proofs.Spreading.{bit_of, has-on, on-has, IsBeside, one_of, left-beside, right-beside, up-beside, down-beside}
use Rattle.sok_field.proofs.Words.{bit_at-within, and-from_bits, bits-from_and, le-from_and}

pub and-inside : (f x : ℕ) → bit_and (bit_and f x) f ≡ bit_and f x
and-inside f x = and-from_bits (bit_and f x) f (λ i on. let both = bit_at_and f x i in let small = bit_at-lt f i in let other = bit_at-lt x i in omega arith)

-- a row of a flood gets other squares: those that it had, and free ones beside seen ones
set-grown : (free seen : List ℕ) (start : Spot → Bool) (r x y : ℕ) → r < length seen
    → ((c : ℕ) → bit_at x c ≡ 1 → bit_at y c ≡ 1)
    → ((c : ℕ) → bit_at y c ≡ 1 → (bit_of free r c ≡ 1) × ((bit_at x c ≡ 1) ⊎ IsBeside (set seen r x) (record { row = r; col = c })))
    → IsSpreading free start (set seen r x) → IsSpreading free start (set seen r y)
set-grown free seen start r x y within keeps adds flood =
    let old = set seen r x in
    let new = set seen r y in
    let here : (z k c : ℕ) → k ≡ r → bit_of (set seen r z) k c ≡ bit_at z c = λ z k c same. ap (λ n. bit_at n c) (set-same seen r z k within same) in
    let there : (z k c : ℕ) → (k ≡ r → ⊥) → bit_of (set seen r z) k c ≡ bit_of seen k c = λ z k c apart. ap (λ n. bit_at n c) (get_or-set_other seen r k z
    0 apart) in
    IsSpreading-grown free old new start (length-set seen r y ∙ sym (length-set seen r x))
    (λ s e. elim (cases_eq s.row r) [
      | inl same ↦ on-has new s (here y s.row s.col same ∙ keeps s.col (sym (here x s.row s.col same) ∙ has-on old s e))
      | inr apart ↦ on-has new s (there y s.row s.col apart ∙ sym (there x s.row s.col apart) ∙ has-on old s e)
    ])
    (λ s e. elim (cases_eq s.row r) [
      | inl same ↦
          let (through, one) = adds s.col (sym (here y s.row s.col same) ∙ has-on new s e) in (
            on-has free s (ap (λ k. bit_of free k s.col) same ∙ through),
            elim one [
              | inl on ↦ inl (on-has old s (here x s.row s.col same ∙ on))
              | inr beside ↦ inr (subst (λ k. IsBeside old (record { row = k; col = s.col })) (sym same) beside)
            ],
          )
      | inr apart ↦
          let on = on-has old s (there x s.row s.col apart ∙ sym (there y s.row s.col apart) ∙ has-on new s e) in
          (on-has free s (bits-from_and (get_or old s.row 0) (get_or free s.row 0) (flood.inside s.row) s.col (has-on old s on)), inl on)
    ])
    flood

-- a row that is widened once
bit_at-widened : (f x c : ℕ) → bit_at (bit_and f (widened x)) c ≡ min (bit_at f c) (max (max (bit_at x c) (bit_at (x * 2 % 2 ^ 64) c)) (bit_at (x / 2) c))
bit_at-widened f x c =
    bit_at_and f (widened x) c ∙ ap (min (bit_at f c)) (bit_at_or (bit_or x (x * 2 % 2 ^ 64)) (x / 2) c ∙ ap (λ m. max m (bit_at (x / 2) c))
    (bit_at_or x (x * 2 % 2 ^ 64) c))

pub widened-keeps : (f x : ℕ) → bit_and x f ≡ x → (c : ℕ) → bit_at x c ≡ 1 → bit_at (bit_and f (widened x)) c ≡ 1
widened-keeps f x inside c on =
    let is = bit_at-widened f x c in
    let through = bits-from_and x f inside c on in
    let left = bit_at-lt (x * 2 % 2 ^ 64) c in
    let right = bit_at-lt (x / 2) c in
    omega (arith, is, through, on, left, right)

pub widened-rises : (f x : ℕ) → bit_and x f ≡ x → x ≤ bit_and f (widened x)
widened-rises f x inside = le-from_and x (bit_and f (widened x)) (and-from_bits x (bit_and f (widened x)) (widened-keeps f x inside))

widened-follows : (frees seen : List ℕ) (start : Spot → Bool) (r f x : ℕ) → r < length seen → f < 2 ^ 64 → get_or frees r 0 ≡ f → bit_and x f ≡ x
    → IsSpreading frees start (set seen r x) → IsSpreading frees start (set seen r (bit_and f (widened x)))
widened-follows frees seen start r f x within fits is inside = set-grown frees seen start r x (bit_and f (widened x)) within (widened-keeps f x inside) (λ c on.
    let (through, one) = one_of (bit_at (bit_and f (widened x)) c) (bit_at f c) (bit_at x c) (bit_at (x * 2 % 2 ^ 64) c) (bit_at (x / 2) c) 0 0
    (let e = bit_at-widened f x c in omega (arith, e)) on (bit_at-lt f c) (bit_at-lt x c) (bit_at-lt (x * 2 % 2 ^ 64) c) (bit_at-lt (x / 2) c)
    (omega arith) (omega arith) in
    let row : get_or (set seen r x) r 0 ≡ x = get_or-set_same seen r x 0 within in (
      ap (λ n. bit_at n c) is ∙ through,
      elim one [
        | inl on ↦ inl on
        | inr (inl left) ↦ inr (left-beside (set seen r x) r c (bit_at-within f c fits through) (ap (λ n. bit_at (n * 2 % 2 ^ 64) c) row ∙ left))
        | inr (inr (inl right)) ↦ inr (right-beside (set seen r x) r c (ap (λ n. bit_at (n / 2) c) row ∙ right))
        | inr (inr (inr (inl none))) ↦ absurd (omega (arith, none))
        | inr (inr (inr (inr none))) ↦ absurd (omega (arith, none))
      ],
    ))

pub IsStepped-more : (free seeds row : ℕ) → free < 2 ^ 64 → bit_and row free ≡ row → IsStepped free seeds row
    → IsStepped free seeds (bit_and free (widened row))
IsStepped-more free seeds row fits inside so_far = record {
  rises = let up = widened-rises free row inside in let rose = so_far.rises in omega (arith, up, rose);
  follows = λ frees seen start r within is flood. widened-follows frees seen start r free row within fits is inside
      (so_far.follows frees seen start r within is flood);
}

sum-set : (seen : List ℕ) (r y : ℕ) → r < length seen → sum (set seen r y) + get_or seen r 0 ≡ sum seen + y
sum-set seen r y within = sum_by-set (λ n. n) seen r y 0 within

-- a row meets what is joined to its squares
pub GoesOn-stepped : (free seen : List ℕ) (start : Spot → Bool) (r word : ℕ) → r < length seen → IsStepped (get_or free r 0) (get_or seen r 0) word
    → IsSpreading free start seen → GoesOn free start seen (set seen r word) false
GoesOn-stepped free seen start r word within steps flood = record {
  flooding = steps.follows free seen start r within refl (subst (IsSpreading free start) (sym (set-get_or seen r 0)) flood);
  rises = let all = sum-set seen r word within in let rose = steps.rises in omega (arith, all, rose);
  more = λ e. absurd (true≢false (sym e));
}

-- a row's seeds: its squares, and the free ones beside those of a row beside it
abbrev pub seeds_of : List ℕ → List ℕ → ℕ → ℕ → ℕ
seeds_of free seen r beside = bit_and (get_or free r 0) (bit_or (get_or seen r 0) beside)

bit_at-seeds : (free seen : List ℕ) (r beside c : ℕ) → bit_at (seeds_of free seen r beside) c ≡ min (bit_of free r c) (max (bit_of seen r c) (bit_at beside c))
bit_at-seeds free seen r beside c =
    bit_at_and (get_or free r 0) (bit_or (get_or seen r 0) beside) c ∙ ap (min (bit_of free r c)) (bit_at_or (get_or seen r 0) beside c)

seeds-keep : (free seen : List ℕ) (start : Spot → Bool) (r beside : ℕ) → IsSpreading free start seen → (c : ℕ) → bit_of seen r c ≡ 1
    → bit_at (seeds_of free seen r beside) c ≡ 1
seeds-keep free seen start r beside flood c on =
    let is = bit_at-seeds free seen r beside c in
    let through = bits-from_and (get_or seen r 0) (get_or free r 0) (flood.inside r) c on in
    let other = bit_at-lt beside c in
    omega (arith, is, through, on, other)

abbrev pub IsRowBeside : List ℕ → ℕ → ℕ → Type 0
IsRowBeside seen r beside = (beside ≡ above seen r) ⊎ (beside ≡ get_or seen (r + 1) 0)

row-beside : (seen : List ℕ) (r beside c : ℕ) → IsRowBeside seen r beside → bit_at beside c ≡ 1 → IsBeside seen (record { row = r; col = c })
row-beside seen r beside c (inl over) on = up-beside seen r c (ap (λ n. bit_at n c) (sym over) ∙ on)
row-beside seen r beside c (inr under) on = down-beside seen r c (ap (λ n. bit_at n c) (sym under) ∙ on)

seeds-flooding : (free seen : List ℕ) (start : Spot → Bool) (r beside : ℕ) → r < length seen → IsRowBeside seen r beside → IsSpreading free start seen
    → IsSpreading free start (set seen r (seeds_of free seen r beside))
seeds-flooding free seen start r beside within is_beside flood =
    let same = set-get_or seen r 0 in
    set-grown free seen start r (get_or seen r 0) (seeds_of free seen r beside) within (seeds-keep free seen start r beside flood) (λ c on.
    let is = bit_at-seeds free seen r beside c in
    let small = bit_at-lt (get_or free r 0) c in
    let small_row = bit_at-lt (get_or seen r 0) c in
    let small_other = bit_at-lt beside c in (
      omega (arith, is, on, small, small_row, small_other),
      elim (cases_eq (bit_of seen r c) 1) [
        | inl there ↦ inl there
        | inr new ↦ inr (subst (λ rows. IsBeside rows (record { row = r; col = c })) (sym same)
            (row-beside seen r beside c is_beside (omega (arith, is, on, new, small, small_row, small_other))))
      ],
    )) (subst (IsSpreading free start) (sym same) flood)

-- a row meets squares beside a row beside it
pub GoesOn-met : (free seen : List ℕ) (start : Spot → Bool) (r beside word : ℕ) → r < length seen → IsRowBeside seen r beside
    → IsStepped (get_or free r 0) (seeds_of free seen r beside) word
    → (seeds_of free seen r beside ≡ get_or seen r 0 → ⊥) → IsSpreading free start seen → GoesOn free start seen (set seen r word) true
GoesOn-met free seen start r beside word within is_beside steps apart flood =
    let seeds = seeds_of free seen r beside in
    let up : get_or seen r 0 ≤ seeds = le-from_and (get_or seen r 0) seeds (and-from_bits (get_or seen r 0) seeds (seeds-keep free seen start r beside flood)) in
    let all = sum-set seen r word within in
    let rose = steps.rises in
    let more : sum seen < sum (set seen r word) = omega (arith, up, all, rose, apart) in
    record {
      flooding = steps.follows free seen start r within refl (seeds-flooding free seen start r beside within is_beside flood);
      rises = omega (arith, more);
      more = λ e. more;
    }

-- a flood that has gone on, and goes on: it has more where it had more by the first or by the second
pub GoesOn-more : {free a b d : List ℕ} {start : Spot → Bool} {first second : Bool} (grew : Bool) → GoesOn free start a b first → GoesOn free start b d second
    → (grew ≡ true → (first ≡ true) ⊎ (second ≡ true)) → GoesOn free start a d grew
GoesOn-more grew so_far then why =
    let rises = so_far.rises in
    let rises_too = then.rises in
    record {
      flooding = then.flooding;
      rises = omega (arith, rises, rises_too);
      more = λ e. elim (why e) [
        | inl before ↦ let more = so_far.more before in omega (arith, more, rises_too)
        | inr after ↦ let more = then.more after in omega (arith, more, rises)
      ];
    }

-- with no more to tell
pub GoesOn-then : {free a b d : List ℕ} {start : Spot → Bool} {first second : Bool} → GoesOn free start a b first → GoesOn free start b d second
    → GoesOn free start a d false
GoesOn-then so_far then = GoesOn-more false so_far then (λ e. absurd (true≢false (sym e)))

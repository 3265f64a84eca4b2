-- Four rows of a round at once.
use Rattle.std.proofs.Common.{ℕ, ◌≡◌, ◌<◌, ◌≤◌, ◌+◌, ◌-◌, ◌*◌, ◌/◌, ◌%◌, ◌^◌, inl, inr, List, [], ◌∷◌, refl, sym, ap, ◌∙◌, arith, get_or, length, bit_and}
use Rattle.std.proofs.Common.{bit_or}
use Rattle.std.specs.Simd.Lanes.{zip2, chunk, put_chunk}
use Rattle.std.proofs.lemmas.Bool.{cases_lt}
use Rattle.std.proofs.lemmas.List.{get_or-replicate}
use Rattle.std.proofs.lemmas.Simd.{length-zip2, length-chunk, get_or-chunk, get_or-zip2, get_or-put_chunk_at, get_or-put_chunk_below}
use Rattle.sok_field.specs.Rounds.{spread_row}
use Rattle.sok_field.proofs.Rounds.{above-later, spread_row-of}

-- what one lane of a vector has
pub record IsLane (j : ℕ) (xs : List ℕ) (x : ℕ) : Type 0 where
  pub long : length xs ≡ 4
  pub is : get_or xs j 0 ≡ x

lane-zip2 : (f : ℕ → ℕ → ℕ) (j : ℕ) (xs ys : List ℕ) (x y : ℕ) → j < 4 → IsLane j xs x → IsLane j ys y → IsLane j (zip2 f xs ys) (f x y)
lane-zip2 f j xs ys x y within one other =
    let long = one.long in
    let long_other = other.long in
    record {
      long = length-zip2 f xs ys (long ∙ sym long_other) ∙ long;
      is = get_or-zip2 f xs ys j 0 0 0 (omega (arith, long, within)) (omega (arith, long_other, within)) ∙ (λ i. f (one.is i) (other.is i));
    }

lane-chunk : (i j : ℕ) (xs : List ℕ) → j < 4 → i + 4 ≤ length xs → IsLane j (chunk i 4 xs) (get_or xs (i + j) 0)
lane-chunk i j xs within room = record { long = length-chunk i 4 xs room; is = get_or-chunk i 4 xs j 0 within }

abbrev pub ones : List ℕ
ones = 1 ∷ 1 ∷ 1 ∷ 1 ∷ []

lane-ones : (j : ℕ) → j < 4 → IsLane j ones 1
lane-ones j within = record { long = refl; is = get_or-replicate 4 j 1 0 within }

-- a row, and the same a column on and a column back, in lanes
abbrev pub widened_lanes : List ℕ → List ℕ
widened_lanes row = zip2 bit_or (zip2 bit_or row (zip2 (λ a k. a * 2 ^ k % 2 ^ 64) row ones)) (zip2 (λ a k. a / 2 ^ k) row ones)

-- four rows after a round
abbrev pub spread_lanes : List ℕ → List ℕ → ℕ → List ℕ
spread_lanes seen free r =
    zip2 bit_and (chunk r 4 free) (zip2 bit_or (zip2 bit_or (widened_lanes (chunk r 4 seen)) (chunk (r - 1) 4 seen)) (chunk (r + 1) 4 seen))

lane-widened : (j : ℕ) (xs : List ℕ) (x : ℕ) → j < 4 → IsLane j xs x → IsLane j (widened_lanes xs) (bit_or (bit_or x (x * 2 ^ 1 % 2 ^ 64)) (x / 2 ^ 1))
lane-widened j xs x within row =
    let shl = lane-zip2 (λ a k. a * 2 ^ k % 2 ^ 64) j xs ones x 1 within row (lane-ones j within) in
    let shr = lane-zip2 (λ a k. a / 2 ^ k) j xs ones x 1 within row (lane-ones j within) in
    lane-zip2 bit_or j _ _ _ _ within (lane-zip2 bit_or j _ _ _ _ within row shl) shr

pub lane-spread : (seen free : List ℕ) (r j : ℕ) → 0 < r → r + 4 < length seen → length free ≡ length seen → j < 4
    → IsLane j (spread_lanes seen free r) (spread_row seen free (r + j))
lane-spread seen free r j begun room long within =
    let row = lane-widened j (chunk r 4 seen) (get_or seen (r + j) 0) within (lane-chunk r j seen within (omega arith)) in
    let over = lane-chunk (r - 1) j seen within (omega arith) in
    let under = lane-chunk (r + 1) j seen within (omega arith) in
    let through = lane-chunk r j free within (omega arith) in
    let all = lane-zip2 bit_and j _ _ _ _ within through (lane-zip2 bit_or j _ _ _ _ within (lane-zip2 bit_or j _ _ _ _ within row over) under) in
    let over_at : r + j - 1 ≡ r - 1 + j = omega arith in
    let under_at : r + 1 + j ≡ r + j + 1 = omega arith in
    record {
      long = all.long;
      is = all.is ∙ spread_row-of seen free (r + j) (get_or seen (r - 1 + j) 0) (get_or seen (r + 1 + j) 0)
          (above-later seen (r + j) (omega arith) ∙ ap (λ k. get_or seen k 0) over_at) (ap (λ k. get_or seen k 0) under_at);
    }

-- with four rows more the rows are those of the round
pub done-lanes : (seen free out four : List ℕ) (r : ℕ) → length four ≡ 4 → r + 4 ≤ length out
    → ((j : ℕ) → j < 4 → get_or four j 0 ≡ spread_row seen free (r + j))
    → ((k : ℕ) → k < r → get_or out k 0 ≡ spread_row seen free k) → (k : ℕ) → k < r + 4
    → get_or (put_chunk r out four) k 0 ≡ spread_row seen free k
done-lanes seen free out four r long room lanes done k within = elim (cases_lt k r) [
  | inl before ↦ get_or-put_chunk_below r out four k 0 before ∙ done k before
  | inr past ↦
      let below : k - r < 4 = omega arith in
      let at : k ≡ r + (k - r) = omega arith in
      ap (λ n. get_or (put_chunk r out four) n 0) at
      ∙ get_or-put_chunk_at r out four (k - r) 0 (omega (arith, long, below)) (omega (arith, long, room)) ∙ lanes (k - r) below ∙ ap
      (spread_row seen free) (sym at)
]

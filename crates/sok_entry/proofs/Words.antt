-- A text in which single spaces stand between numbers.
use Rattle.std.proofs.Common.{ℕ, ◌≡◌, ◌<◌, ◌≤◌, List, [], ◌∷◌, ◌++◌, All, false, length, decimal, drop, map, sym, ap, ◌∙◌, refl, arith}
use Rattle.std.proofs.Math.Seq.{drop-append_seam}
use Rattle.std.proofs.lemmas.Bool.Decides.{nat_tests}
use Rattle.std.proofs.lemmas.Fmt.{decimal_injective}
use Rattle.std.proofs.lemmas.List.{append-nil, drop-map}
use Rattle.std.proofs.lemmas.List.Elements.{All-drop, All-from_get_or, All-head, All-tail}
use Rattle.std.proofs.lemmas.List.Splits.{join_with_byte-slice_split, length-slice_split, slice_split_at, slice_split_none}
use Rattle.std.proofs.lemmas.Str.Parse.{digit_at}
use Rattle.std.specs.List.{slice_split, join_with_byte}
use Rattle.sok_entry.specs.Text.{IsSmall, spaced}
use Rattle.sok_entry.specs.Fronts.{BeginsWith, EndsNumber}
use Rattle.sok_entry.specs.Reading.{AreWords, is_space}
use Rattle.sok_entry.proofs.Numbers.{IsNumeral-decimal}

-- there is no space in a decimal
no_space : (n : ℕ) → IsSmall n → All (λ c. is_space c ≡ false) (decimal n)
no_space n small =
    All-from_get_or (λ c. is_space c ≡ false) (decimal n) 0
    (λ i within. let digit = digit_at (decimal n) i (IsNumeral-decimal n small).1 within in grind (arith, nat_tests, digit.0))

-- the parts of a word and of numbers after it
split-spaced : (word : List ℕ) (ns : List ℕ) → All (λ c. is_space c ≡ false) word → All IsSmall ns
    → slice_split is_space (word ++ spaced ns) ≡ word ∷ map decimal ns
split-spaced word [] free small = ap (slice_split is_space) (append-nil word) ∙ slice_split_none is_space word free
split-spaced word (n ∷ ns) free small =
    slice_split_at is_space word 32 (decimal n ++ spaced ns) free refl
    ∙ ap (λ words. word ∷ words) (split-spaced (decimal n) ns (no_space n (All-head IsSmall n ns small)) (All-tail IsSmall n ns small))

join-spaced : (word : List ℕ) (ns : List ℕ) → join_with_byte 32 (word ∷ map decimal ns) ≡ word ++ spaced ns
join-spaced word [] = sym (append-nil word)
join-spaced word (n ∷ ns) = ap (λ rest. word ++ 32 ∷ rest) (join-spaced (decimal n) ns)

-- numbers after spaces are read behind the first space
pub AreWords-spaced : (text : List ℕ) (n : ℕ) (ns : List ℕ) → All IsSmall (n ∷ ns) → 32 ∷ text ≡ spaced (n ∷ ns) → AreWords text (n ∷ ns)
AreWords-spaced text n ns small same =
    let behind : text ≡ decimal n ++ spaced ns = cc in
    (small, ap (slice_split is_space) behind ∙ split-spaced (decimal n) ns (no_space n (All-head IsSmall n ns small)) (All-tail IsSmall n ns small))

pub spaced-AreWords : (text : List ℕ) (n : ℕ) (ns : List ℕ) → AreWords text (n ∷ ns) → 32 ∷ text ≡ spaced (n ∷ ns)
spaced-AreWords text n ns words =
    ap (λ rest. 32 ∷ rest) (sym (join_with_byte-slice_split 32 text) ∙ ap (join_with_byte 32) words.1 ∙ join-spaced (decimal n) ns)

-- numbers are known by their decimals
decimals_known : (ns ms : List ℕ) → All IsSmall ns → All IsSmall ms → map decimal ns ≡ map decimal ms → ns ≡ ms
decimals_known [] [] small_n small_m same = refl
decimals_known [] (m ∷ ms) small_n small_m same = absurd (omega (arith, ap length same))
decimals_known (n ∷ ns) [] small_n small_m same = absurd (omega (arith, ap length same))
decimals_known (n ∷ ns) (m ∷ ms) small_n small_m same =
    let first : decimal n ≡ decimal m = cc in
    let n_small : IsSmall n = All-head IsSmall n ns small_n in
    let m_small : IsSmall m = All-head IsSmall m ms small_m in
    let head : n ≡ m = decimal_injective n m (omega arith) (omega arith) first in
    let rest = decimals_known ns ms (All-tail IsSmall n ns small_n) (All-tail IsSmall m ms small_m) (ap (drop 1) same) in
    (λ i. head i ∷ rest i)

-- a text has one list of numbers at most
pub AreWords-one : (text ns ms : List ℕ) → AreWords text ns → AreWords text ms → ns ≡ ms
AreWords-one text ns ms of_ns of_ms = decimals_known ns ms of_ns.0 of_ms.0 (sym of_ns.1 ∙ of_ms.1)

-- the parts of a text that begins with a number
pub split-last : (text : List ℕ) (n : ℕ) (rest : List ℕ) → BeginsWith text n rest → length rest < 1 → slice_split is_space text ≡ decimal n ∷ []
split-last text n [] begins none =
    ap (slice_split is_space) (begins.spelled ∙ append-nil (decimal n)) ∙ slice_split_none is_space (decimal n) (no_space n begins.small)
split-last text n (c ∷ more) begins none = absurd (omega (arith, none))

pub split-more : (text : List ℕ) (n : ℕ) (rest : List ℕ) → BeginsWith text n rest → 1 ≤ length rest
    → slice_split is_space text ≡ decimal n ∷ slice_split is_space (drop 1 rest)
split-more text n [] begins some = absurd (omega (arith, some))
split-more text n (c ∷ more) begins some =
    ap (slice_split is_space) begins.spelled ∙ slice_split_at is_space (decimal n) c more (no_space n begins.small) (ap is_space begins.ends)

spaced-ends : (ns : List ℕ) → EndsNumber (spaced ns)
spaced-ends [] = tt
spaced-ends (n ∷ ns) = refl

-- a text of numbers begins with one
begins-words : (text ns : List ℕ) → All IsSmall ns → slice_split is_space text ≡ map decimal ns → (n : ℕ) × (rest : List ℕ) × BeginsWith text n rest
begins-words text [] small parts = absurd (omega (arith, ap length parts, length-slice_split is_space text))
begins-words text (n ∷ ns) small parts = (
  n,
  spaced ns,
  record {
    small = All-head IsSmall n ns small;
    spelled = ap (drop 1) (spaced-AreWords text n ns (small, parts));
    ends = spaced-ends ns;
  },
)

-- and so does what rests of it behind some of them
pub begins-rest : (text rest numbers ns : List ℕ) → slice_split is_space text ≡ map decimal numbers ++ slice_split is_space rest → AreWords text ns
    → (n : ℕ) × (tail : List ℕ) × BeginsWith rest n tail
begins-rest text rest numbers ns split words =
    let front = map decimal numbers in
    let parts : slice_split is_space rest ≡ map decimal (drop (length front) ns) =
    sym (drop-append_seam front (slice_split is_space rest)) ∙ ap (drop (length front)) (sym split ∙ words.1) ∙ drop-map decimal (length front) ns in
    begins-words rest (drop (length front) ns) (All-drop IsSmall (length front) ns words.0) parts

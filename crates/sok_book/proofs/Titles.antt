-- What is kept of a title, byte by byte.
use Rattle.std.proofs.Common.{ℕ, ◌≡◌, ◌<◌, ◌-◌, ◌⊎◌, inl, inr, List, [], ◌∷◌, ◌++◌, Bool, true, false, All, Some, None, IfSome, IsTrue, ◌↔◌}
use Rattle.std.proofs.Common.{true≢false, nat_lt, position, slice_index, if◌then◌else◌}
use Rattle.std.proofs.Common.{length, take, get_or, reverse, sym, ap, ◌∙◌, refl, subst, arith}
use Rattle.std.proofs.lemmas.Bool.{cases_Bool}
use Rattle.std.proofs.lemmas.Bool.Decides.{nat_tests}
use Rattle.std.specs.Bool.{Decides}
use Rattle.std.proofs.lemmas.Option.{none-some, same_Some}
use Rattle.std.proofs.lemmas.List.{get_or-reverse, length-append, length-reverse, length-take, get_or-take, reverse-append, reverse-reverse, take_all}
use Rattle.std.proofs.lemmas.List.Elements.{All-tail}
use Rattle.std.proofs.lemmas.List.Sums.{fails_before_first, position_or_len_is}
use Rattle.std.proofs.Math.ListN.{get_or-append}
use Rattle.std.specs.List.{before_first, position_or_len}
use Rattle.sok_text.specs.Lines.{is_newline}
use Rattle.sok_text.specs.Titles.{is_space, some_text, trimmed_front, without_back, without_front}
use Rattle.sok_book.specs.Titles.{IsTitle, KeptAreTitles, TitlesAreKept, is_end_blank, kept_line, kept_title}

-- ---- what is left

-- a text is what is left, behind what is not
front-without : (test : ℕ → Bool) (text : List ℕ) → (gone : List ℕ) × (text ≡ gone ++ without_front test text)
front-without test [] = ([], refl)
front-without test (c ∷ text) = elim (test c) as (λ b. (gone : List ℕ) × (c ∷ text ≡ gone ++ (if b then without_front test text else c ∷ text))) [
  | true ↦ let (gone, is) = front-without test text in (c ∷ gone, ap (λ t. c ∷ t) is)
  | false ↦ ([], refl)
]

-- nothing is left, or what is left begins with a byte that fails the test
first-without : (test : ℕ → Bool) (text : List ℕ) → 0 < length (without_front test text) → test (get_or (without_front test text) 0 0) ≡ false
first-without test [] = λ some. absurd (omega arith)
first-without test (c ∷ text) = elim (cases_Bool (test c)) [
  | inl passes ↦
      let e : without_front test (c ∷ text) ≡ without_front test text = ap (λ b. if b then without_front test text else c ∷ text) passes in
      subst (λ left. 0 < length left → test (get_or left 0 0) ≡ false) (sym e) (first-without test text)
  | inr fails ↦
      let e : without_front test (c ∷ text) ≡ c ∷ text = ap (λ b. if b then without_front test text else c ∷ text) fails in
      subst (λ left. 0 < length left → test (get_or left 0 0) ≡ false) (sym e) (λ _. fails)
]

-- what begins so is left whole
pub whole-without : (test : ℕ → Bool) (text : List ℕ) → (0 < length text → test (get_or text 0 0) ≡ false) → without_front test text ≡ text
whole-without test [] fails = refl
whole-without test (c ∷ text) fails = ap (λ b. if b then without_front test text else c ∷ text) (fails (omega arith))

back-without : (test : ℕ → Bool) (text : List ℕ) → (gone : List ℕ) × (text ≡ without_back test text ++ gone)
back-without test text =
    let (gone, is) = front-without test (reverse text) in
    (reverse gone, sym (reverse-reverse text) ∙ ap reverse is ∙ reverse-append gone (without_front test (reverse text)))

last-reverse : (text : List ℕ) → 0 < length text → get_or (reverse text) (length text - 1) 0 ≡ get_or text 0 0
last-reverse text some = get_or-reverse text (length text - 1) 0 (omega arith) ∙ ap (λ k. get_or text k 0) (omega arith)

-- what is left at the back ends with a byte that fails the test
last-without : (test : ℕ → Bool) (text : List ℕ) → 0 < length (without_back test text)
    → test (get_or (without_back test text) (length (without_back test text) - 1) 0) ≡ false
last-without test text some =
    let left = without_front test (reverse text) in
    let long : length (reverse left) ≡ length left = length-reverse left in
    let has : 0 < length left = omega (arith, long, some) in
    ap test (ap (λ n. get_or (reverse left) (n - 1) 0) long ∙ last-reverse left has) ∙ first-without test (reverse text) has

all-front : (P : ℕ → Type 0) (front back : List ℕ) → All P (front ++ back) → All P front
all-front P front back all = λ k d within. subst P (get_or-append front back d k within) (all k d (omega (arith, within, length-append front back)))

all-back : (P : ℕ → Type 0) (front back : List ℕ) → All P (front ++ back) → All P back
all-back P [] back all = all
all-back P (c ∷ front) back all = all-back P front back (All-tail P c (front ++ back) all)

-- ---- the first line

line_end-cases : (text : List ℕ)
    → ((position is_newline text ≡ Some (position_or_len is_newline text)) × (nat_lt (position_or_len is_newline text) (length text) ≡ true))
    ⊎ ((position is_newline text ≡ None) × (nat_lt (position_or_len is_newline text) (length text) ≡ false))
line_end-cases text =
    let end = position_or_len is_newline text in
    elim (cases_Bool (nat_lt end (length text))) [
      | inl found ↦ inl (ap (λ b. if b then Some end else None) found, found)
      | inr past ↦ inr (ap (λ b. if b then Some end else None) past, past)
    ]

pub first_line-some : (text : List ℕ) (end : ℕ) → position is_newline text ≡ Some end → take end text ≡ before_first is_newline text
first_line-some text end some = elim (line_end-cases text) [
  | inl (is, _) ↦ ap (λ n. take n text) (same_Some end (position_or_len is_newline text) (sym some ∙ is))
  | inr (is, _) ↦ absurd (none-some end (sym is ∙ some))
]

pub first_line-none : (text : List ℕ) → position is_newline text ≡ None → text ≡ before_first is_newline text
first_line-none text none = elim (line_end-cases text) [
  | inl (is, _) ↦ absurd (none-some (position_or_len is_newline text) (sym none ∙ is))
  | inr (_, past) ↦ sym (take_all (position_or_len is_newline text) text (grind (arith, nat_tests)))
]

first_line-none_in : (text : List ℕ) → All (λ c. is_newline c ≡ false) (before_first is_newline text)
first_line-none_in text = λ k d within.
    let end = position_or_len is_newline text in
    let short : k < end = omega (arith, within, length-take end text) in
    ap is_newline (get_or-take end text k d short) ∙ fails_before_first is_newline text k d short

first_line-whole : (text : List ℕ) → All (λ c. is_newline c ≡ false) text → before_first is_newline text ≡ text
first_line-whole text none = ap (λ n. take n text) (position_or_len_is is_newline text (length text) 0 (omega arith) (λ k within. none k 0 within)
    (λ past. absurd (omega arith)))
    ∙ take_all (length text) text (omega arith)

-- ---- what is kept

first-prefix : (text front back : List ℕ) → text ≡ front ++ back → 0 < length front → get_or front 0 0 ≡ get_or text 0 0
first-prefix text front back is some = sym (ap (λ t. get_or t 0 0) is ∙ get_or-append front back 0 0 some)

IsTitle-kept_line : (text : List ℕ) → 0 < length (kept_line text) → IsTitle (kept_line text)
IsTitle-kept_line text some =
    let line = before_first is_newline text in
    let trimmed = trimmed_front line in
    let (before, split) = front-without is_space line in
    let (behind, cut) = back-without is_end_blank trimmed in
    let whole : line ≡ before ++ trimmed = split in
    let in_trimmed : All (λ c. is_newline c ≡ false) trimmed =
    all-back (λ c. is_newline c ≡ false) before trimmed (subst (All (λ c. is_newline c ≡ false)) whole (first_line-none_in text)) in
    let more : 0 < length trimmed = omega (arith, some, ap length cut, length-append (kept_line text) behind) in
    let left : 0 < length (without_front is_space line) = omega (arith, more) in
    record {
      some = some;
      one_line = all-front (λ c. is_newline c ≡ false) (kept_line text) behind (subst (All (λ c. is_newline c ≡ false)) cut in_trimmed);
      front = ap is_space (first-prefix trimmed (kept_line text) behind cut some) ∙ first-without is_space line left;
      back = last-without is_end_blank trimmed some;
    }

pub kept-are-titles : KeptAreTitles
kept-are-titles text = elim (kept_line text) as (λ line. kept_line text ≡ line → IfSome (some_text line) IsTitle) [
  | [] ↦ λ _. tt
  | c ∷ line ↦ λ is. subst IsTitle is (IsTitle-kept_line text (omega (arith, ap length is)))
] refl

pub some-some_text : (text : List ℕ) → 0 < length text → some_text text ≡ Some text
some-some_text [] some = absurd (omega arith)
some-some_text (c ∷ text) some = refl

back-whole : (text : List ℕ) → is_end_blank (slice_index text (length text - 1)) ≡ false → without_back is_end_blank text ≡ text
back-whole text last = ap reverse (whole-without is_end_blank (reverse text) (λ some.
    let long = length-reverse text in
    let has : 0 < length text = omega (arith, some, long) in
    ap is_end_blank (get_or-reverse text 0 0 has ∙ ap (λ k. get_or text k 0) (omega arith)) ∙ last)) ∙ reverse-reverse text

pub titles-are-kept : TitlesAreKept
titles-are-kept title is =
    let line : before_first is_newline title ≡ title = first_line-whole title is.one_line in
    let front : trimmed_front title ≡ title = whole-without is_space title (λ _. is.front) in
    let back : without_back is_end_blank title ≡ title = back-whole title is.back in
    let same : kept_line title ≡ title = ap (λ t. without_back is_end_blank (trimmed_front t)) line ∙ ap (without_back is_end_blank) front ∙ back in
    ap some_text same ∙ some-some_text title is.some

-- a text is a title where it is kept as it is
pub title-from_kept : (text title : List ℕ) (same : Bool) → Some title ≡ kept_title text → Decides same (title ≡ text) → IsTrue same ↔ IsTitle text
title-from_kept text title same kept decides = (
  λ yes. subst (λ t. IsTitle t) (decides.0 yes) (subst (λ o. IfSome o IsTitle) (sym kept) (kept-are-titles text)),
  λ is. decides.1 (same_Some title text (kept ∙ titles-are-kept text is)),
)

pub none-from_kept : (text : List ℕ) → None ≡ kept_title text → IsTrue false ↔ IsTitle text
none-from_kept text none = (λ yes. absurd (true≢false (sym yes)), λ is. absurd (none-some text (none ∙ titles-are-kept text is)))

-- What lines begin: a text has one list of entries at most.
use Rattle.std.proofs.Common.{ℕ, ◌≡◌, List, [], ◌∷◌, ◌++◌, All, Option, Some, None, true, false, length, get_or, drop, map, sym, ap, ◌∙◌, refl, subst, arith}
use Rattle.std.proofs.Common.{true≢false}
use Rattle.std.proofs.lemmas.List.{append_assoc}
use Rattle.std.proofs.lemmas.List.Elements.{All-head, All-tail, All-nil}
use Rattle.std.proofs.lemmas.Option.{same_Some}
use Rattle.std.specs.List.{flat_map}
use Rattle.sok_entry.specs.declared.entry.Entry.{Entry}
use Rattle.sok_entry.specs.declared.entry.Inner.{Inner}
use Rattle.sok_entry.specs.declared.entry.InnerReason.{InnerReason}
use Rattle.sok_entry.specs.declared.entry.InnerReason.TheVariants as inside
use Rattle.sok_entry.specs.declared.entry.Reason.{Reason}
use Rattle.sok_entry.specs.declared.entry.Reason.TheVariants.{Expanded, Spent, Bound, Crowd, Frozen, Pattern}
use Rattle.sok_entry.specs.declared.head.Head.{Head}
use Rattle.sok_entry.specs.declared.head.Opening.{Opening}
use Rattle.sok_entry.specs.declared.head.Opening.TheVariants.{Whole, Begun}
use Rattle.sok_entry.specs.declared.version.Version.{Version}
use Rattle.sok_entry.specs.declared.version.Version.TheVariants.{One, Two}
use Rattle.sok_entry.specs.Text.{entry_alike, entry_line, entry_lines, entry_with, head_line, inner_line, inner_of, is_pattern, last_line, letter_of, numbers_of}
use Rattle.sok_entry.specs.Text.{numbers_of_head, reason_alike, spaced, IsSmall, FitsEntry, FitsInner, FitsVersion, PricesEachBox}
use Rattle.sok_entry.specs.Entries.{entry_of, head_of}
use Rattle.sok_entry.specs.Reading.{Begins, FitsHead, IsEntryLine, IsHeadLine, IsInnerLine, Tells, unfinished_lines}
use Rattle.sok_entry.proofs.EntryNumbers.{entry_of-numbers}
use Rattle.sok_entry.proofs.HeadNumbers.{head_of-numbers}
use Rattle.sok_entry.proofs.EntryLines.{two_bytes, entry_line-reads, long-entry_line, long-head_line, plain-inner, IsEntryLine-reads, IsHeadLine-reads}
use Rattle.sok_entry.proofs.Words.{AreWords-one}

-- ---- one line

-- a line is the line of one entry
pub IsEntryLine-one : (line : List ℕ) (e f : Entry) → IsEntryLine line e → IsEntryLine line f → e ≡ f
IsEntryLine-one line e f of_e of_f =
    let bytes = two_bytes line (long-entry_line line e of_e.1) in
    let reads_e = IsEntryLine-reads (get_or line 0 0) (get_or line 1 0) (drop 2 line) e (subst (λ l. IsEntryLine l e) bytes of_e) in
    let reads_f = IsEntryLine-reads (get_or line 0 0) (get_or line 1 0) (drop 2 line) f (subst (λ l. IsEntryLine l f) bytes of_f) in
    let numbers = AreWords-one (drop 2 line) (numbers_of e) (numbers_of f) reads_e.2 reads_f.2 in
    let letters = sym reads_e.0 ∙ reads_f.0 in
    same_Some e f (sym (entry_of-numbers e of_e.0.priced of_e.2) ∙ (λ i. entry_of (letters i) (numbers i)) ∙ entry_of-numbers f of_f.0.priced of_f.2)

-- and the first line of one pattern
IsHeadLine-one : (line : List ℕ) (h k : Head) → IsHeadLine line h → IsHeadLine line k → h ≡ k
IsHeadLine-one line h k of_h of_k =
    let bytes = two_bytes line (long-head_line line h of_h.1) in
    let reads_h = IsHeadLine-reads (get_or line 0 0) (get_or line 1 0) (drop 2 line) h (subst (λ l. IsHeadLine l h) bytes of_h) in
    let reads_k = IsHeadLine-reads (get_or line 0 0) (get_or line 1 0) (drop 2 line) k (subst (λ l. IsHeadLine l k) bytes of_k) in
    let numbers = AreWords-one (drop 2 line) (numbers_of_head h) (numbers_of_head k) reads_h.2 reads_k.2 in
    same_Some h k (sym (head_of-numbers h) ∙ (λ i. head_of (numbers i)) ∙ head_of-numbers k)

pub same_head : (h k : Head) → FitsHead h → FitsHead k → head_line h ≡ head_line k → h ≡ k
same_head h k fits_h fits_k same = IsHeadLine-one (head_line h) h k (fits_h, refl) (fits_k, same)

pub plain-letter : (reason : Reason) → is_pattern reason ≡ false → letter_of reason ≡ 112 → ⊥
plain-letter Expanded simple same = omega arith
plain-letter Spent simple same = omega arith
plain-letter (Bound u v) simple same = omega arith
plain-letter (Crowd members) simple same = omega arith
plain-letter (Frozen members) simple same = omega arith
plain-letter (Pattern members inner) simple same = true≢false simple

-- the line of an entry that is no pattern begins none
pub plain-head : (e : Entry) (h : Head) → is_pattern e.reason ≡ false → entry_line e ≡ head_line h → ⊥
unfolding entry_line head_line
plain-head e h simple same = plain-letter e.reason simple (ap (λ line. get_or line 0 0) same)

-- `end` is the line of no entry
pub last_is_no_entry : (e : Entry) → FitsEntry e → last_line ≡ entry_line e → ⊥
unfolding last_line
last_is_no_entry e fits same = let reads = entry_line-reads 101 110 (100 ∷ []) e fits same in omega (arith, reads.1)

pub last_is_no_head : (h : Head) → last_line ≡ head_line h → ⊥
unfolding last_line head_line
last_is_no_head h same = omega (arith, ap (λ line. get_or line 0 0) same)

-- ---- inner positions

alike-plain : (reason : InnerReason) → is_pattern (reason_alike reason) ≡ false
alike-plain inside.Expanded = refl
alike-plain (inside.Crowd members) = refl
alike-plain (inside.Frozen members) = refl

alike-priced : (reason : InnerReason) (boxes : ℕ) → PricesEachBox boxes (reason_alike reason)
alike-priced inside.Expanded boxes = tt
alike-priced (inside.Crowd members) boxes = tt
alike-priced (inside.Frozen members) boxes = tt

-- the line of an inner position is that of an entry
pub IsInnerLine-entry : (line : List ℕ) (i : Inner) → IsInnerLine line i → IsEntryLine line (entry_alike i)
IsInnerLine-entry line i is =
    let simple = alike-plain i.reason in
    let none = subst (All FitsInner) (sym (plain-inner (reason_alike i.reason) simple)) (All-nil FitsInner) in
    let fits : FitsEntry (entry_alike i) = record { small = is.0; priced = alike-priced i.reason (length i.boxes); inner = none } in
    (fits, is.1, simple)

-- a line that is of no entry is of no inner position
pub no_inner : (line : List ℕ) → ((e : Entry) → IsEntryLine line e → ⊥) → (i : Inner) → IsInnerLine line i → ⊥
no_inner line none i is = none (entry_alike i) (IsInnerLine-entry line i is)

-- the inner position of the form of a line's entry
pub Tells-inner : (line : List ℕ) (e : Entry) → IsEntryLine line e → (found : Option Inner) → Tells (λ i. e ≡ entry_alike i) found → Tells (IsInnerLine line) found
Tells-inner line e of_e None none = λ i is. none i (IsEntryLine-one line e (entry_alike i) of_e (IsInnerLine-entry line i is))
Tells-inner line e of_e (Some i) same = (subst (λ x. All IsSmall (numbers_of x)) same of_e.0.small, of_e.1 ∙ ap entry_line same)

same_reason : (a b : InnerReason) → reason_alike a ≡ reason_alike b → a ≡ b
same_reason inside.Expanded inside.Expanded same = refl
same_reason inside.Expanded (inside.Crowd members) same = absurd (cc)
same_reason inside.Expanded (inside.Frozen members) same = absurd (cc)
same_reason (inside.Crowd members) inside.Expanded same = absurd (cc)
same_reason (inside.Crowd members) (inside.Crowd others) same = let both : members ≡ others = cc in ap inside.Crowd both
same_reason (inside.Crowd members) (inside.Frozen others) same = absurd (cc)
same_reason (inside.Frozen members) inside.Expanded same = absurd (cc)
same_reason (inside.Frozen members) (inside.Crowd others) same = absurd (cc)
same_reason (inside.Frozen members) (inside.Frozen others) same = let both : members ≡ others = cc in ap inside.Frozen both

same_position : (i j : Inner) → entry_alike i ≡ entry_alike j → i ≡ j
same_position i j same =
    let reasons = same_reason i.reason j.reason (λ k. (same k).reason) in
    (λ k. record { depth = (same k).depth; player = (same k).player; boxes = (same k).boxes; reason = reasons k })

same_inner : (i j : Inner) → FitsInner i → FitsInner j → inner_line i ≡ inner_line j → i ≡ j
same_inner i j fits_i fits_j same =
    same_position i j
    (IsEntryLine-one (inner_line i) (entry_alike i) (entry_alike j) (IsInnerLine-entry (inner_line i) i (fits_i, refl))
    (IsInnerLine-entry (inner_line i) j (fits_j, same)))

-- as many lines of inner positions, before further lines
pub inner_apart : (is js : List Inner) (rs ss : List (List ℕ)) → All FitsInner is → All FitsInner js → length is ≡ length js
    → map inner_line is ++ rs ≡ map inner_line js ++ ss → (is ≡ js) × (rs ≡ ss)
inner_apart [] [] rs ss fit_i fit_j many same = (refl, same)
inner_apart [] (j ∷ js) rs ss fit_i fit_j many same = absurd (omega arith)
inner_apart (i ∷ is) [] rs ss fit_i fit_j many same = absurd (omega arith)
inner_apart (i ∷ is) (j ∷ js) rs ss fit_i fit_j many same =
    let first : inner_line i ≡ inner_line j = cc in
    let one = same_inner i j (All-head FitsInner i is fit_i) (All-head FitsInner j js fit_j) first in
    let rest = inner_apart is js rs ss (All-tail FitsInner i is fit_i) (All-tail FitsInner j js fit_j) (omega arith) (ap (drop 1) same) in
    ((λ k. one k ∷ rest.0 k), rest.1)

-- ---- an entry's lines

-- an entry is no pattern, or one that its first line begins
pub data Opened (version : Version) (e : Entry) : Type 0 where
  whole : is_pattern e.reason ≡ false → Opened version e
  begun : (h : Head) (inner : List Inner) → version ≡ Two → FitsHead h → All FitsInner inner → length inner ≡ h.count → e ≡ entry_with h inner → Opened version e

not_first : (version : Version) (e : Entry) → is_pattern e.reason ≡ true → FitsVersion version e → version ≡ Two
not_first One e is allowed = absurd (true≢false (sym is ∙ allowed))
not_first Two e is allowed = refl

opened_by : (version : Version) (depth player : ℕ) (boxes : List ℕ) (reason : Reason)
    → FitsEntry (record { depth = depth; player = player; boxes = boxes; reason = reason })
    → FitsVersion version (record { depth = depth; player = player; boxes = boxes; reason = reason })
    → Opened version (record { depth = depth; player = player; boxes = boxes; reason = reason })
opened_by version depth player boxes Expanded fits allowed = whole refl
opened_by version depth player boxes Spent fits allowed = whole refl
opened_by version depth player boxes (Bound u v) fits allowed = whole refl
opened_by version depth player boxes (Crowd members) fits allowed = whole refl
opened_by version depth player boxes (Frozen members) fits allowed = whole refl
opened_by version depth player boxes (Pattern members inner) fits allowed =
    let h : Head = record { depth = depth; player = player; boxes = boxes; members = members; count = length inner } in
    let e : Entry = record { depth = depth; player = player; boxes = boxes; reason = Pattern members inner } in
    begun h inner (not_first version e refl allowed) fits.small fits.inner refl refl

pub opened : (version : Version) (e : Entry) → FitsEntry e → FitsVersion version e → Opened version e
opened version e fits allowed = opened_by version e.depth e.player e.boxes e.reason fits allowed

pub whole-lines : (e : Entry) → is_pattern e.reason ≡ false → entry_lines e ≡ entry_line e ∷ []
whole-lines e simple = ap (λ inner. entry_line e ∷ map inner_line inner) (plain-inner e.reason simple)

begun-line : (h : Head) (inner : List Inner) → length inner ≡ h.count → entry_line (entry_with h inner) ≡ head_line h
unfolding entry_line head_line
begun-line h inner many = (λ i. 112 ∷ spaced (h.depth ∷ h.player ∷ length h.boxes ∷ h.boxes ++ (length h.members ∷ h.members ++ many i ∷ [])))

pub begun-lines : (h : Head) (inner : List Inner) → length inner ≡ h.count → entry_lines (entry_with h inner) ≡ unfinished_lines h inner
begun-lines h inner many = ap (λ line. line ∷ map inner_line inner) (begun-line h inner many)

-- the first line of an entry begins it
pub begins : (version : Version) (e : Entry) → FitsEntry e → FitsVersion version e → (o : Opening) × Begins version (entry_line e) o
begins version e fits allowed = elim (opened version e fits allowed) [
  | whole simple ↦ (Whole e, (fits, refl, simple))
  | begun h inner second head_fits inner_fit many is ↦
      let first : entry_line e ≡ head_line h = ap entry_line is ∙ begun-line h inner many in
      (Begun h, subst (λ v. Begins v (entry_line e) (Begun h)) (sym second) (head_fits, first))
]

-- before further lines an entry is known by its lines
pub entry_apart : (version : Version) (e f : Entry) (rs ss : List (List ℕ)) → FitsEntry e → FitsEntry f → FitsVersion version e → FitsVersion version f
    → entry_lines e ++ rs ≡ entry_lines f ++ ss → (e ≡ f) × (rs ≡ ss)
entry_apart version e f rs ss fits_e fits_f allowed_e allowed_f same = elim (opened version e fits_e allowed_e) [
  | whole simple_e ↦ elim (opened version f fits_f allowed_f) [
    | whole simple_f ↦
        let both : entry_line e ∷ rs ≡ entry_line f ∷ ss =
        sym (ap (λ ls. ls ++ rs) (whole-lines e simple_e)) ∙ same ∙ ap (λ ls. ls ++ ss) (whole-lines f simple_f) in
        let first : entry_line e ≡ entry_line f = cc in
        (IsEntryLine-one (entry_line e) e f (fits_e, refl, simple_e) (fits_f, first, simple_f), ap (drop 1) both)
    | begun h inner second head_fits inner_fit many is ↦
        let both : entry_line e ∷ map inner_line (inner_of e.reason) ++ rs ≡ head_line h ∷ map inner_line inner ++ ss =
        same ∙ ap (λ x. entry_lines x ++ ss) is ∙ ap (λ ls. ls ++ ss) (begun-lines h inner many) in
        let first : entry_line e ≡ head_line h = cc in
        absurd (plain-head e h simple_e first)
  ]
  | begun h inner second head_fits inner_fit many is ↦
      let front : head_line h ∷ map inner_line inner ++ rs ≡ entry_lines f ++ ss =
      sym (ap (λ x. entry_lines x ++ rs) is ∙ ap (λ ls. ls ++ rs) (begun-lines h inner many)) ∙ same in
      elim (opened version f fits_f allowed_f) [
        | whole simple_f ↦
            let first : entry_line f ≡ head_line h = cc in
            absurd (plain-head f h simple_f first)
        | begun k others also_second head_fits_k other_fit also_many is_f ↦
            let both : head_line h ∷ map inner_line inner ++ rs ≡ head_line k ∷ map inner_line others ++ ss =
            front ∙ ap (λ x. entry_lines x ++ ss) is_f ∙ ap (λ ls. ls ++ ss) (begun-lines k others also_many) in
            let first : head_line h ≡ head_line k = cc in
            let heads = same_head h k head_fits head_fits_k first in
            let rest = inner_apart inner others rs ss inner_fit other_fit (many ∙ ap (λ x. x.count) heads ∙ sym also_many) (ap (drop 1) both) in
            (is ∙ (λ i. entry_with (heads i) (rest.0 i)) ∙ sym is_f, rest.1)
      ]
]

-- ---- lists of entries

-- of two lists of entries before further lines one goes on behind the other, or they are the same
pub data Fronts (version : Version) (es fs : List Entry) (rs ss : List (List ℕ)) : Type 0 where
  longer : (f : Entry) (more : List Entry) → FitsEntry f → FitsVersion version f → rs ≡ entry_lines f ++ (flat_map entry_lines more ++ ss)
      → Fronts version es fs rs ss
  shorter : (e : Entry) (more : List Entry) → FitsEntry e → FitsVersion version e → ss ≡ entry_lines e ++ (flat_map entry_lines more ++ rs)
      → Fronts version es fs rs ss
  equal : es ≡ fs → rs ≡ ss → Fronts version es fs rs ss

Fronts-cons : (version : Version) (e f : Entry) (es fs : List Entry) (rs ss : List (List ℕ)) → e ≡ f → Fronts version es fs rs ss
    → Fronts version (e ∷ es) (f ∷ fs) rs ss
Fronts-cons version e f es fs rs ss same (longer g more fits allowed is) = longer g more fits allowed is
Fronts-cons version e f es fs rs ss same (shorter g more fits allowed is) = shorter g more fits allowed is
Fronts-cons version e f es fs rs ss same (equal entries rest) = equal (λ i. same i ∷ entries i) rest

pub fronts : (version : Version) (es fs : List Entry) (rs ss : List (List ℕ)) → All FitsEntry es → All FitsEntry fs
    → All (FitsVersion version) es → All (FitsVersion version) fs
    → flat_map entry_lines es ++ rs ≡ flat_map entry_lines fs ++ ss → Fronts version es fs rs ss
fronts version [] [] rs ss fit_e fit_f in_e in_f same = equal refl same
fronts version [] (f ∷ fs) rs ss fit_e fit_f in_e in_f same =
    longer f fs (All-head FitsEntry f fs fit_f) (All-head (FitsVersion version) f fs in_f) (same ∙ append_assoc (entry_lines f) (flat_map entry_lines fs) ss)
fronts version (e ∷ es) [] rs ss fit_e fit_f in_e in_f same =
    shorter e es (All-head FitsEntry e es fit_e) (All-head (FitsVersion version) e es in_e) (sym same ∙ append_assoc (entry_lines e) (flat_map entry_lines es) rs)
fronts version (e ∷ es) (f ∷ fs) rs ss fit_e fit_f in_e in_f same =
    let both = sym (append_assoc (entry_lines e) (flat_map entry_lines es) rs) ∙ same ∙ append_assoc (entry_lines f) (flat_map entry_lines fs) ss in
    let apart = entry_apart version e f (flat_map entry_lines es ++ rs) (flat_map entry_lines fs ++ ss) (All-head FitsEntry e es fit_e)
    (All-head FitsEntry f fs fit_f) (All-head (FitsVersion version) e es in_e) (All-head (FitsVersion version) f fs in_f) both in
    Fronts-cons version e f es fs rs ss apart.0
    (fronts version es fs rs ss (All-tail FitsEntry e es fit_e) (All-tail FitsEntry f fs fit_f) (All-tail (FitsVersion version) e es in_e)
    (All-tail (FitsVersion version) f fs in_f) apart.1)

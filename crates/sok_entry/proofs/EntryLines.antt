-- The line of an entry, of an inner position and of a pattern's front, read and printed.
use Rattle.std.proofs.Common.{ℕ, ◌≡◌, ◌≤◌, List, [], ◌∷◌, ◌++◌, All, Option, Some, None, false, decimal, length, get_or, drop, sym, ap, ◌∙◌, refl, subst, arith}
use Rattle.std.proofs.Common.{true≢false}
use Rattle.std.proofs.lemmas.List.Elements.{All-nil}
use Rattle.std.proofs.lemmas.Option.{none-some}
use Rattle.sok_entry.specs.declared.entry.Entry.{Entry}
use Rattle.sok_entry.specs.declared.entry.Reason.{Reason}
use Rattle.sok_entry.specs.declared.entry.Reason.TheVariants.{Expanded, Spent, Bound, Crowd, Frozen, Pattern}
use Rattle.sok_entry.specs.declared.head.Head.{Head}
use Rattle.sok_entry.specs.Text.{letter_of, numbers_of, numbers_of_head, numbers_of_reason, entry_line, head_line, inner_of, is_pattern, spaced}
use Rattle.sok_entry.specs.Text.{IsSmall, PricesEachBox, FitsEntry, FitsInner}
use Rattle.sok_entry.specs.Entries.{entry_of, head_of}
use Rattle.sok_entry.specs.Reading.{AreWords, IsEntryLine, IsHeadLine, Tells}
use Rattle.sok_entry.proofs.EntryNumbers.{entry_of-numbers, entry_of-some}
use Rattle.sok_entry.proofs.HeadNumbers.{head_of-numbers, head_of-some}
use Rattle.sok_entry.proofs.Words.{AreWords-spaced, spaced-AreWords, AreWords-one}

pub two_bytes : (line : List ℕ) → 2 ≤ length line → line ≡ get_or line 0 0 ∷ get_or line 1 0 ∷ drop 2 line
two_bytes [] long = absurd (omega arith)
two_bytes (a ∷ []) long = absurd (omega arith)
two_bytes (a ∷ b ∷ text) long = refl

-- a letter, and numbers behind spaces
line-reads : (a b letter n : ℕ) (text ns : List ℕ) → All IsSmall (n ∷ ns) → a ∷ b ∷ text ≡ letter ∷ spaced (n ∷ ns)
    → (a ≡ letter) × (b ≡ 32) × AreWords text (n ∷ ns)
line-reads a b letter n text ns small same =
    let spelled : a ∷ b ∷ text ≡ letter ∷ 32 ∷ decimal n ++ spaced ns = same in
    let first : a ≡ letter = cc in
    let space : b ≡ 32 = cc in
    (first, space, AreWords-spaced text n ns small (ap (λ c. c ∷ text) (sym space) ∙ ap (drop 1) spelled))

-- ---- an entry

-- the numbers of an entry behind the first of them
abbrev behind_depth : Entry → List ℕ
behind_depth e = e.player ∷ length e.boxes ∷ e.boxes ++ numbers_of_reason e.reason

pub entry_line-reads : (a b : ℕ) (text : List ℕ) (e : Entry) → FitsEntry e → a ∷ b ∷ text ≡ entry_line e
    → (a ≡ letter_of e.reason) × (b ≡ 32) × AreWords text (numbers_of e)
unfolding entry_line
entry_line-reads a b text e fits same = line-reads a b (letter_of e.reason) e.depth text (behind_depth e) fits.small same

pub IsEntryLine-reads : (a b : ℕ) (text : List ℕ) (e : Entry) → IsEntryLine (a ∷ b ∷ text) e → (a ≡ letter_of e.reason) × (b ≡ 32)
    × AreWords text (numbers_of e)
IsEntryLine-reads a b text e is = entry_line-reads a b text e is.0 is.1

-- only a pattern has inner positions
pub plain-inner : (reason : Reason) → is_pattern reason ≡ false → inner_of reason ≡ []
plain-inner Expanded simple = refl
plain-inner Spent simple = refl
plain-inner (Bound u v) simple = refl
plain-inner (Crowd members) simple = refl
plain-inner (Frozen members) simple = refl
plain-inner (Pattern members inner) simple = absurd (true≢false simple)

IsEntryLine-words : (a : ℕ) (text : List ℕ) (e : Entry) → a ≡ letter_of e.reason → AreWords text (numbers_of e) → PricesEachBox (length e.boxes) e.reason
    → is_pattern e.reason ≡ false → IsEntryLine (a ∷ 32 ∷ text) e
unfolding entry_line
IsEntryLine-words a text e letter words priced simple =
    let none = subst (All FitsInner) (sym (plain-inner e.reason simple)) (All-nil FitsInner) in
    let fits : FitsEntry e = record { small = words.0; priced = priced; inner = none } in
    (fits, (λ i. letter i ∷ spaced-AreWords text e.depth (behind_depth e) words i), simple)

-- what the letter and the numbers of a line make
pub Tells-entry_of : (a : ℕ) (text ns : List ℕ) → AreWords text ns → (found : Option Entry) → found ≡ entry_of a ns → Tells (IsEntryLine (a ∷ 32 ∷ text)) found
Tells-entry_of a text ns words None made = λ e is.
    let reads = IsEntryLine-reads a 32 text e is in
    let numbers = AreWords-one text ns (numbers_of e) words reads.2 in
    none-some e (made ∙ (λ i. entry_of (reads.0 i) (numbers i)) ∙ entry_of-numbers e is.0.priced is.2)
Tells-entry_of a text ns words (Some e) made =
    let of_entry = entry_of-some a ns e (sym made) in
    IsEntryLine-words a text e of_entry.0 (subst (AreWords text) of_entry.1 words) of_entry.2 of_entry.3

pub long-entry_line : (line : List ℕ) (e : Entry) → line ≡ entry_line e → 2 ≤ length line
unfolding entry_line
long-entry_line line e is = omega (arith, ap length is)

-- ---- the first line of a pattern

-- the numbers of a pattern's first line behind the first of them
abbrev behind_head : Head → List ℕ
behind_head h = h.player ∷ length h.boxes ∷ h.boxes ++ (length h.members ∷ h.members ++ h.count ∷ [])

pub IsHeadLine-reads : (a b : ℕ) (text : List ℕ) (h : Head) → IsHeadLine (a ∷ b ∷ text) h → (a ≡ 112) × (b ≡ 32) × AreWords text (numbers_of_head h)
unfolding head_line
IsHeadLine-reads a b text h is = line-reads a b 112 h.depth text (behind_head h) is.0 is.1

IsHeadLine-words : (text : List ℕ) (h : Head) → AreWords text (numbers_of_head h) → IsHeadLine (112 ∷ 32 ∷ text) h
unfolding head_line
IsHeadLine-words text h words = (words.0, (λ i. 112 ∷ spaced-AreWords text h.depth (behind_head h) words i))

-- what the numbers of a line make
pub Tells-head_of : (text ns : List ℕ) → AreWords text ns → (found : Option Head) → found ≡ head_of ns → Tells (IsHeadLine (112 ∷ 32 ∷ text)) found
Tells-head_of text ns words None made = λ h is.
    let reads = IsHeadLine-reads 112 32 text h is in
    let numbers = AreWords-one text ns (numbers_of_head h) words reads.2 in
    none-some h (made ∙ (λ i. head_of (numbers i)) ∙ head_of-numbers h)
Tells-head_of text ns words (Some h) made = IsHeadLine-words text h (subst (AreWords text) (head_of-some ns h (sym made)) words)

pub long-head_line : (line : List ℕ) (h : Head) → line ≡ head_line h → 2 ≤ length line
unfolding head_line
long-head_line line h is = omega (arith, ap length is)

-- The lines of a certificate, and the text that they make.
use Rattle.std.proofs.Common.{ℕ, ◌≡◌, ◌≤◌, ◌-◌, List, [], ◌∷◌, ◌++◌, All, Bool, true, false, ◌==◌, if◌then◌else◌, codes, decimal, length, get_or, map, nat_le}
use Rattle.std.proofs.Common.{slice_index, suc, take, ap, ◌∙◌, refl, sym, subst, arith}
use Rattle.std.proofs.lemmas.Bool.{ne_eqb, leb-true, and_parts, or_parts}
use Rattle.std.proofs.lemmas.Bool.Decides.{nat_tests}
use Rattle.std.proofs.lemmas.List.{append_assoc, append-nil}
use Rattle.std.proofs.lemmas.List.Elements.{All-nil, All-cons, All-append, All-head, All-tail, All-from_get_or, All-map}
use Rattle.std.proofs.lemmas.List.Splits.{slice_split_at, length-slice_split}
use Rattle.std.proofs.lemmas.Str.Parse.{digit_at}
use Rattle.std.specs.List.{flat_map, list_all, list_any, slice_split}
use Rattle.std.specs.Str.Lines.{lines, lines_of_parts, strip_carriage_return}
use Rattle.sok_text.proofs.Lines.{lines_of_parts-cons}
use Rattle.sok_text.specs.Lines.{is_newline}
use Rattle.sok_entry.specs.declared.claim.Claim.{Claim}
use Rattle.sok_entry.specs.declared.claim.Claim.TheVariants.{Pushes, Unsolvable}
use Rattle.sok_entry.specs.declared.entry.Entry.{Entry}
use Rattle.sok_entry.specs.declared.entry.Inner.{Inner}
use Rattle.sok_entry.specs.declared.entry.Reason.{Reason}
use Rattle.sok_entry.specs.declared.entry.Reason.TheVariants.{Expanded, Spent, Bound, Crowd, Frozen, Pattern}
use Rattle.sok_entry.specs.declared.version.Version.{Version}
use Rattle.sok_entry.specs.declared.version.Version.TheVariants.{One, Two}
use Rattle.sok_entry.specs.Text.{IsSmall, header, last_line, claim_line, entry_alike, entry_line, entry_lines, ended, inner_line, inner_of, inner_text, is_pattern, lines_of}
use Rattle.sok_entry.specs.Text.{text_of, letter_of, numbers_of, spaced, version_of, FitsClaim, FitsEntry, FitsInner, FitsVersion, Fits, SpellsCertificate}
use Rattle.sok_entry.specs.Stages.{IsSplit}
use Rattle.sok_entry.proofs.Numbers.{IsNumeral-decimal}
use Rattle.sok_entry.proofs.Splits.{IsSplit-end, IsSplit-more}

-- no control characters: so a line has no LF, and no CR at its end
abbrev IsPrintable : List ℕ → Type 0
IsPrintable line = All (λ c. 32 ≤ c) line

no_newline : (line : List ℕ) → IsPrintable line → All (λ c. is_newline c ≡ false) line
no_newline line printable k d within = let high = printable k d within in grind (arith, nat_tests)

last_byte : (line : List ℕ) → IsPrintable line → slice_index line (length line - 1) == 13 ≡ false
last_byte [] printable = refl
last_byte (c ∷ line) printable =
    let at : suc (length line) - 1 ≡ length line = omega arith in
    let high = printable (length line) 0 (omega arith) in
    ap (λ i. slice_index (c ∷ line) i == 13) at ∙ ne_eqb (get_or (c ∷ line) (length line) 0) 13 (λ same. omega arith)

strip-printable : (line : List ℕ) → IsPrintable line → strip_carriage_return line ≡ line
strip-printable line printable = ap (λ b. if b then take (length line - 1) line else line) (last_byte line printable)

-- a line with LF behind it is the first line
lines-ended : (line more : List ℕ) → IsPrintable line → lines (ended line ++ more) ≡ line ∷ lines more
lines-ended line more printable =
    ap lines (append_assoc line (10 ∷ []) more)
    ∙ ap lines_of_parts (slice_split_at is_newline line 10 more (no_newline line printable) refl)
    ∙ lines_of_parts-cons line (slice_split is_newline more) (omega (arith, length-slice_split is_newline more))
    ∙ ap (λ first. first ∷ lines more) (strip-printable line printable)

lines-flat_map : (ls : List (List ℕ)) → All IsPrintable ls → lines (flat_map ended ls) ≡ ls
lines-flat_map [] printable = refl
lines-flat_map (line ∷ ls) printable =
    lines-ended line (flat_map ended ls) (All-head IsPrintable line ls printable)
    ∙ ap (λ rest. line ∷ rest) (lines-flat_map ls (All-tail IsPrintable line ls printable))

-- whole lines behind a text of whole lines
IsSplit-ended : (text : List ℕ) (ls more : List (List ℕ)) → All IsPrintable more → IsSplit text ls [] → IsSplit (text ++ flat_map ended more) (ls ++ more) []
IsSplit-ended text ls [] printable split =
    subst (λ t. IsSplit t (ls ++ []) []) (sym (append-nil text)) (subst (λ passed. IsSplit text passed []) (sym (append-nil ls)) split)
IsSplit-ended text ls (line ∷ more) printable split =
    let first = All-head IsPrintable line more printable in
    let whole = IsSplit-end (text ++ line) ls line (IsSplit-more text line ls [] split (no_newline line first)) in
    let one : IsSplit (text ++ ended line) (ls ++ line ∷ []) [] =
    subst (λ t. IsSplit t (ls ++ line ∷ []) []) (append_assoc text line (10 ∷ []))
    (subst (λ last. IsSplit ((text ++ line) ++ 10 ∷ []) (ls ++ last ∷ []) []) (strip-printable line first) whole) in
    let rest = IsSplit-ended (text ++ ended line) (ls ++ line ∷ []) more (All-tail IsPrintable line more printable) one in
    subst (λ t. IsSplit t (ls ++ line ∷ more) []) (append_assoc text (ended line) (flat_map ended more))
    (subst (λ passed. IsSplit ((text ++ ended line) ++ flat_map ended more) passed []) (append_assoc ls (line ∷ []) more) rest)

IsPrintable-decimal : (n : ℕ) → IsSmall n → IsPrintable (decimal n)
IsPrintable-decimal n small =
    All-from_get_or (λ c. 32 ≤ c) (decimal n) 0 (λ i within. omega (arith, (digit_at (decimal n) i (IsNumeral-decimal n small).1 within).0))

IsPrintable-spaced : (ns : List ℕ) → All IsSmall ns → IsPrintable (spaced ns)
IsPrintable-spaced [] small = All-nil (λ c. 32 ≤ c)
IsPrintable-spaced (n ∷ ns) small =
    All-cons (λ c. 32 ≤ c) 32 (decimal n ++ spaced ns) (omega arith)
    (All-append (λ c. 32 ≤ c) (decimal n) (spaced ns) (IsPrintable-decimal n (All-head IsSmall n ns small))
    (IsPrintable-spaced ns (All-tail IsSmall n ns small)))

letter-printable : (reason : Reason) → 32 ≤ letter_of reason
letter-printable Expanded = omega arith
letter-printable Spent = omega arith
letter-printable (Bound u v) = omega arith
letter-printable (Crowd members) = omega arith
letter-printable (Frozen members) = omega arith
letter-printable (Pattern members inner) = omega arith

IsPrintable-entry_line : (e : Entry) → All IsSmall (numbers_of e) → IsPrintable (entry_line e)
unfolding entry_line
IsPrintable-entry_line e small =
    All-cons (λ c. 32 ≤ c) (letter_of e.reason) (spaced (numbers_of e)) (letter-printable e.reason) (IsPrintable-spaced (numbers_of e) small)

-- by a test of each byte
IsPrintable-test : (line : List ℕ) → list_all (λ c. nat_le 32 c) line ≡ true → IsPrintable line
IsPrintable-test [] passed = All-nil (λ c. 32 ≤ c)
IsPrintable-test (c ∷ line) passed =
    let parts = and_parts (nat_le 32 c) (list_all (λ b. nat_le 32 b) line) passed in
    All-cons (λ b. 32 ≤ b) c line (leb-true 32 c parts.0) (IsPrintable-test line parts.1)

IsPrintable-header : (version : Version) → IsPrintable (header version)
unfolding header
IsPrintable-header One = IsPrintable-test (header One) refl
IsPrintable-header Two = IsPrintable-test (header Two) refl

IsPrintable-last_line : IsPrintable last_line
unfolding last_line
IsPrintable-last_line = IsPrintable-test last_line refl

IsPrintable-claim_line : (claim : Claim) → FitsClaim claim → IsPrintable (claim_line claim)
unfolding claim_line
IsPrintable-claim_line (Pushes k) fits = All-append (λ c. 32 ≤ c) (codes "pushes ") (decimal k) (IsPrintable-test (codes "pushes ") refl)
    (IsPrintable-decimal k fits)
IsPrintable-claim_line Unsolvable fits = IsPrintable-test (codes "unsolvable") refl

inner_printable : (inner : List Inner) → All FitsInner inner → All IsPrintable (map inner_line inner)
inner_printable inner fit =
    All-map IsPrintable inner_line inner (λ k d within. IsPrintable-entry_line (entry_alike (get_or inner k d)) (fit k d within))

-- the lines of inner positions behind a text of whole lines
pub IsSplit-inner : (text : List ℕ) (ls : List (List ℕ)) (inner : List Inner) → All FitsInner inner → IsSplit text ls []
    → IsSplit (text ++ inner_text inner) (ls ++ map inner_line inner) []
IsSplit-inner text ls inner fit split = IsSplit-ended text ls (map inner_line inner) (inner_printable inner fit) split

entry_printable : (e : Entry) → FitsEntry e → All IsPrintable (entry_lines e)
entry_printable e fits =
    All-cons IsPrintable (entry_line e) (map inner_line (inner_of e.reason)) (IsPrintable-entry_line e fits.small) (inner_printable (inner_of e.reason) fits.inner)

entries_printable : (entries : List Entry) → All FitsEntry entries → All IsPrintable (flat_map entry_lines entries)
entries_printable [] fit = All-nil IsPrintable
entries_printable (e ∷ entries) fit =
    All-append IsPrintable (entry_lines e) (flat_map entry_lines entries) (entry_printable e (All-head FitsEntry e entries fit))
    (entries_printable entries (All-tail FitsEntry e entries fit))

lines_printable : (version : Version) (claim : Claim) (entries : List Entry) → Fits claim entries → All IsPrintable (lines_of version claim entries)
lines_printable version claim entries fits =
    let behind = flat_map entry_lines entries ++ last_line ∷ [] in
    All-cons IsPrintable (header version) (claim_line claim ∷ behind) (IsPrintable-header version)
    (All-cons IsPrintable (claim_line claim) behind (IsPrintable-claim_line claim fits.claim_fits)
    (All-append IsPrintable (flat_map entry_lines entries) (last_line ∷ []) (entries_printable entries fits.entries_fit)
    (All-cons IsPrintable last_line [] IsPrintable-last_line (All-nil IsPrintable))))

no_patterns : (entries : List Entry) → list_any (λ (e : Entry). is_pattern e.reason) entries ≡ false → All (FitsVersion One) entries
no_patterns [] none = All-nil (FitsVersion One)
no_patterns (e ∷ entries) none =
    let parts = or_parts (is_pattern e.reason) (list_any (λ (f : Entry). is_pattern f.reason) entries) none in
    All-cons (FitsVersion One) e entries parts.0 (no_patterns entries parts.1)

-- the version that is written allows the entries
written_allowed : (entries : List Entry) (any : Bool) → list_any (λ (e : Entry). is_pattern e.reason) entries ≡ any
    → All (FitsVersion (if any then Two else One)) entries
written_allowed entries true is = λ k d within. tt
written_allowed entries false is = no_patterns entries is

-- what is printed has the lines that it is made of
pub Spells-text_of : (claim : Claim) (entries : List Entry) → Fits claim entries → SpellsCertificate (text_of claim entries) claim entries
Spells-text_of claim entries fits = record {
  version = version_of entries;
  has_lines = lines-flat_map (lines_of (version_of entries) claim entries) (lines_printable (version_of entries) claim entries fits);
  allowed = written_allowed entries (list_any (λ (e : Entry). is_pattern e.reason) entries) refl;
  fits = fits;
}

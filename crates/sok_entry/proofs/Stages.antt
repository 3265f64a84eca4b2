-- What a line is at a stage, and what a text is that ends there.
use Rattle.std.proofs.Common.{ℕ, ◌≡◌, ◌≢◌, ◌<◌, ◌≤◌, ◌+◌, ◌-◌, ◌∙◌, inl, inr, sym, ap, refl, subst, List, [], ◌∷◌, ◌++◌, All, Bool, true, false, Some, None, if◌then◌else◌, ◌==◌, length, map, drop, arith}
use Rattle.std.proofs.lemmas.Bool.{cases_Bool}
use Rattle.std.proofs.lemmas.Grind.{flat_map-append}
use Rattle.std.proofs.lemmas.List.{append_assoc, append-nil, length-append, length_push, map_push}
use Rattle.std.proofs.lemmas.List.Elements.{All-nil, All-push}
use Rattle.std.specs.List.{flat_map}
use Rattle.std.specs.Str.Lines.{lines}
use Rattle.std.specs.Global.{Vec}
use Rattle.sok_text.proofs.Lines.{lines-last}
use Rattle.sok_entry.specs.declared.claim.Claim.{Claim}
use Rattle.sok_entry.specs.declared.claim.Claim.TheVariants.{Pushes, Unsolvable}
use Rattle.sok_entry.specs.declared.entry.Entry.{Entry}
use Rattle.sok_entry.specs.declared.entry.Inner.{Inner}
use Rattle.sok_entry.specs.declared.fault.CertFault.{CertFault}
use Rattle.sok_entry.specs.declared.fault.CertFault.TheVariants.{Header, Line, Truncated}
use Rattle.sok_entry.specs.declared.head.Head.{Head}
use Rattle.sok_entry.specs.declared.head.Opening.{Opening}
use Rattle.sok_entry.specs.declared.head.Opening.TheVariants.{Begun}
use Rattle.sok_entry.specs.declared.stage.Stage.TheVariants.{AtHeader, AtClaim, AtEntries, AtInner, AtEnd}
use Rattle.sok_entry.specs.declared.stage.LineRead.{LineRead}
use Rattle.sok_entry.specs.declared.stage.LineRead.TheVariants.{Listed, Passed, Wrong}
use Rattle.sok_entry.specs.declared.version.Version.{Version}
use Rattle.sok_entry.specs.declared.version.Version.TheVariants.{One, Two}
use Rattle.sok_entry.specs.Text.{header, claim_line, entry_lines, entry_with, head_line, inner_line, is_pattern, last_line, FitsEntry, FitsInner}
use Rattle.sok_entry.specs.Text.{FitsVersion, SpellsCertificate}
use Rattle.sok_entry.specs.Reading.{Begins, FitsHead, IsClaimLine, IsEntryLine, IsHeadLine, IsInnerLine, IsUnfinished, unfinished_lines}
use Rattle.sok_entry.specs.Reading.{IsWrong, missing, cut, other, behind, inside, IsWrongInside, missing_inside, cut_inside, other_inside, GoesWrong, at_header}
use Rattle.sok_entry.specs.Reading.{behind_header, ended_lines}
use Rattle.sok_entry.specs.Stages.{AreRead, AreWrong, IsRead, IsSplit, IsStage, awaited}
use Rattle.sok_entry.proofs.EntryNumbers.{no_elements}
use Rattle.sok_entry.proofs.Openings.{begun-lines, whole-lines}
use Rattle.sok_entry.proofs.Splits.{ended_lines-split, lines-split, lines-unended}

length-claim_line : (claim : Claim) → 0 < length (claim_line claim)
unfolding claim_line
length-claim_line (Pushes k) = omega arith
length-claim_line Unsolvable = omega arith

length-last_line : 0 < length last_line
unfolding last_line
length-last_line = omega arith

module _ (ls : List (List ℕ)) (version : Version) (claim : Claim) (es : List Entry) (tail : List (List ℕ)) (read : AreRead ls version claim es tail) where
  -- further lines
  AreRead-more : (more : List (List ℕ)) → AreRead (ls ++ more) version claim es (tail ++ more)
  AreRead-more more = record {
    fits = read.fits;
    allowed = read.allowed;
    is = ap (λ front. front ++ more) read.is ∙ append_assoc (header version ∷ claim_line claim ∷ flat_map entry_lines es) tail more;
  }

  -- the lines that were read behind the entries are one more
  AreRead-entry : (e : Entry) → tail ≡ entry_lines e → FitsEntry e → FitsVersion version e → AreRead ls version claim (es ++ e ∷ []) []
  AreRead-entry e is fits allowed = record {
    fits = record { claim_fits = read.fits.claim_fits; entries_fit = All-push FitsEntry es e read.fits.entries_fit fits };
    allowed = All-push (FitsVersion version) es e read.allowed allowed;
    is =
        let with_entry : flat_map entry_lines (es ++ e ∷ []) ++ [] ≡ flat_map entry_lines es ++ entry_lines e =
        append-nil (flat_map entry_lines (es ++ e ∷ [])) ∙ flat_map-append entry_lines es (e ∷ [])
        ∙ ap (λ ms. flat_map entry_lines es ++ ms) (append-nil (entry_lines e)) in
        read.is ∙ ap (λ ms. header version ∷ claim_line claim ∷ flat_map entry_lines es ++ ms) is
        ∙ ap (λ ms. header version ∷ claim_line claim ∷ ms) (sym with_entry);
  }

  -- how many lines were read
  AreRead-length : length ls ≡ 2 + (length (flat_map entry_lines es) + length tail)
  AreRead-length = omega (arith, ap length read.is, length-append (flat_map entry_lines es) tail)

  -- what goes wrong behind the entries
  AreRead-wrong : (text : List ℕ) (more : List (List ℕ)) (fault : CertFault) → lines text ≡ ls ++ more
      → IsWrong version (ended_lines text - 2) (length (flat_map entry_lines es)) (tail ++ more) fault → GoesWrong text fault
  AreRead-wrong text more fault has wrong =
      let rest = flat_map entry_lines es ++ (tail ++ more) in
      let same : lines text ≡ header version ∷ claim_line claim ∷ rest =
      has ∙ ap (λ front. front ++ more) read.is ∙ ap (λ ms. header version ∷ claim_line claim ∷ ms) (append_assoc (flat_map entry_lines es) tail more) in
      behind_header version claim rest read.fits.claim_fits same (record {
        entries = es;
        rest = tail ++ more;
        fit = read.fits.entries_fit;
        allowed = read.allowed;
        has_lines = refl;
        wrong = wrong;
      })

-- the numbers of the first line of a pattern, with another count
abbrev Smalls : Head → ℕ → Type 0
Smalls h count = FitsHead (record h { count = count })

plain-allowed : (version : Version) (e : Entry) → is_pattern e.reason ≡ false → FitsVersion version e
plain-allowed One e simple = simple
plain-allowed Two e simple = tt

-- a pattern of which so many inner positions come next has none yet
pub awaited-begun : (claim : Claim) (head : Head) (inner : Vec Inner) (n : ℕ) → awaited (AtInner claim head inner) ≡ Some n → (inner.items ≡ []) × (n ≡ head.count)
awaited-begun claim head inner n is =
    let told : (b : Bool) → length inner.items == 0 ≡ b → (if b then Some head.count else None) ≡ Some n = λ b same. ap (λ t. if t then Some head.count else None) (sym same) ∙ is in
    elim (cases_Bool (length inner.items == 0)) [
      | inl none ↦ let count : Some head.count ≡ Some n = told true none in (no_elements inner.items none, cc)
      | inr some ↦ let count : None ≡ Some n = told false some in absurd (cc)
    ]

-- a pattern is begun in version 2 alone
pub Begins-second : (version : Version) (line : List ℕ) (h : Head) → Begins version line (Begun h) → (version ≡ Two) × IsHeadLine line h
Begins-second One line h is = absurd is
Begins-second Two line h is = (refl, is)

module _ (ls : List (List ℕ)) (es : List Entry) where
  -- what is read behind the last line of a pattern, told of the stage where an inner position belongs
  pub IsRead-inner : (claim : Claim) (head : Head) (inner : Vec Inner) (read : LineRead) → IsRead ls es (AtEntries Two claim) read
      → IsRead ls es (AtInner claim head inner) read
  IsRead-inner claim head inner (Listed c e next) is = is
  IsRead-inner claim head inner (Passed next) is = is
  IsRead-inner claim head inner (Wrong fault) is = is

  -- all inner positions of a pattern were read, or more belong to it
  pub read-full : (claim : Claim) (head : Head) (inner : List Inner) → FitsHead head → All FitsInner inner → length inner ≡ head.count
      → AreRead ls Two claim es (unfinished_lines head inner) → IsRead ls es (AtEntries Two claim) (Listed claim (entry_with head inner) (AtEntries Two claim))
  read-full claim head inner head_fits inner_fit many read =
      let small = subst (λ n. Smalls head n) (sym many) head_fits in
      let fits : FitsEntry (entry_with head inner) = record { small = small; priced = tt; inner = inner_fit } in (
        refl,
        AreRead-entry ls Two claim es (unfinished_lines head inner) read (entry_with head inner) (sym (begun-lines head inner many)) fits tt,
        λ c may. may,
      )

  -- the lines of all inner positions behind the first line of a pattern
  pub read-known : (claim : Claim) (head : Head) (inner : Vec Inner) (known : List Inner) → inner.items ≡ [] → AreRead ls Two claim es (unfinished_lines head inner.items)
      → AreRead (ls ++ map inner_line known) Two claim es (unfinished_lines head known)
  read-known claim head inner known none read =
      AreRead-more ls Two claim es (unfinished_lines head []) (subst (λ is. AreRead ls Two claim es (unfinished_lines head is)) none read) (map inner_line known)

  pub read-inside : (claim : Claim) (head : Head) (inner : Vec Inner) → FitsHead head → All FitsInner inner.items → length inner.items < head.count
      → AreRead ls Two claim es (unfinished_lines head inner.items) → IsRead ls es (AtEntries Two claim) (Passed (AtInner claim head inner))
  read-inside claim head inner head_fits inner_fit few read =
      let unfinished : IsUnfinished head inner.items = record { head_fits = head_fits; inner_fits = inner_fit; more_belong = few } in
      ((unfinished, read), λ c may. may)

  module _ (line : List ℕ) where
    pub read-header : (version : Version) → IsStage ls es AtHeader → line ≡ header version → IsRead (ls ++ line ∷ []) es AtHeader (Passed (AtClaim version))
    read-header version (none, no_entries) is = ((ap (λ front. front ++ line ∷ []) none ∙ ap (λ l. l ∷ []) is, no_entries), λ claim may. tt)

    pub wrong-header : IsStage ls es AtHeader → ((version : Version) → line ≡ header version → ⊥) → AreWrong (ls ++ line ∷ []) Header
    wrong-header (none, no_entries) differs = λ text more has ended. at_header (λ version claim rest fits same.
        let both : line ∷ more ≡ header version ∷ claim_line claim ∷ rest = sym (has ∙ ap (λ front. (front ++ line ∷ []) ++ more) none) ∙ same in
        let first : line ≡ header version = cc in
        differs version first) refl

    pub read-claim : (version : Version) (claim : Claim) → IsStage ls es (AtClaim version) → IsClaimLine line claim
        → IsRead (ls ++ line ∷ []) es (AtClaim version) (Passed (AtEntries version claim))
    read-claim version claim (first, no_entries) (fits, is) =
        let fit = subst (All FitsEntry) (sym no_entries) (All-nil FitsEntry) in
        let allow = subst (All (FitsVersion version)) (sym no_entries) (All-nil (FitsVersion version)) in
        let read : AreRead (ls ++ line ∷ []) version claim es [] = record {
          fits = record { claim_fits = fits; entries_fit = fit };
          allowed = allow;
          is = ap (λ front. front ++ line ∷ []) first ∙ (λ i. header version ∷ is i ∷ flat_map entry_lines (sym no_entries i) ++ []);
        } in
        (read, λ c may. tt)

    pub wrong-claim : (version : Version) → IsStage ls es (AtClaim version) → ((claim : Claim) → IsClaimLine line claim → ⊥) → AreWrong (ls ++ line ∷ []) Header
    wrong-claim version (first, no_entries) none = λ text more has ended. at_header (λ v claim rest fits same.
        let both : header version ∷ line ∷ more ≡ header v ∷ claim_line claim ∷ rest = sym (has ∙ ap (λ front. (front ++ line ∷ []) ++ more) first) ∙ same in
        let second : line ≡ claim_line claim = cc in
        none claim (fits, second)) refl

    pub read-entry : (version : Version) (claim : Claim) (e : Entry) → AreRead ls version claim es [] → IsEntryLine line e
        → IsRead (ls ++ line ∷ []) es (AtEntries version claim) (Listed claim e (AtEntries version claim))
    read-entry version claim e read (fits, is, simple) = (
      refl,
      AreRead-entry (ls ++ line ∷ []) version claim es (line ∷ []) (AreRead-more ls version claim es [] read (line ∷ [])) e
          (ap (λ l. l ∷ []) is ∙ sym (whole-lines e simple)) fits (plain-allowed version e simple),
      λ c may. may,
    )

    pub read-head : (claim : Claim) (h : Head) → AreRead ls Two claim es [] → IsHeadLine line h → AreRead (ls ++ line ∷ []) Two claim es (unfinished_lines h [])
    read-head claim h read (fits, is) =
        subst (λ l. AreRead (ls ++ line ∷ []) Two claim es (l ∷ [])) is (AreRead-more ls Two claim es [] read (line ∷ []))

    pub read-inner : (claim : Claim) (h : Head) (inner : List Inner) (i : Inner) → AreRead ls Two claim es (unfinished_lines h inner) → IsInnerLine line i
        → AreRead (ls ++ line ∷ []) Two claim es (unfinished_lines h (inner ++ i ∷ []))
    read-inner claim h inner i read (fits, is) =
        let one_more : unfinished_lines h inner ++ line ∷ [] ≡ unfinished_lines h (inner ++ i ∷ []) =
        ap (λ l. unfinished_lines h inner ++ l ∷ []) is ∙ (λ k. head_line h ∷ sym (map_push inner_line inner i) k) in
        subst (AreRead (ls ++ line ∷ []) Two claim es) one_more (AreRead-more ls Two claim es (unfinished_lines h inner) read (line ∷ []))

    pub read-end : (version : Version) (claim : Claim) → AreRead ls version claim es [] → line ≡ last_line
        → IsRead (ls ++ line ∷ []) es (AtEntries version claim) (Passed (AtEnd claim))
    read-end version claim read last =
        let whole : AreRead (ls ++ line ∷ []) version claim es (last_line ∷ []) =
        subst (λ l. AreRead (ls ++ line ∷ []) version claim es (l ∷ [])) last (AreRead-more ls version claim es [] read (line ∷ [])) in
        ((version, whole), λ c may. may)

    pub wrong-entry : (version : Version) (claim : Claim) → AreRead ls version claim es [] → line ≢ last_line
        → ((o : Opening) → Begins version line o → ⊥) → AreWrong (ls ++ line ∷ []) (Line (length ls + 1))
    wrong-entry version claim read not_last no_entry = λ text more has ended.
        let count = length (flat_map entry_lines es) in
        let many : count < ended_lines text - 2 = omega (arith, ended, length_push ls line, AreRead-length ls version claim es [] read) in
        let place : length ls + 1 ≡ 3 + count = omega (arith, AreRead-length ls version claim es [] read) in
        AreRead-wrong ls version claim es [] read text (line ∷ more) (Line (length ls + 1)) (has ∙ append_assoc ls (line ∷ []) more)
        (other line more refl not_last no_entry many (ap Line place))

    pub wrong-inner : (claim : Claim) (h : Head) (inner : List Inner) → IsUnfinished h inner → AreRead ls Two claim es (unfinished_lines h inner)
        → ((i : Inner) → IsInnerLine line i → ⊥) → AreWrong (ls ++ line ∷ []) (Line (length ls + 1))
    wrong-inner claim h inner unfinished read none = λ text more has ended.
        let before = length (flat_map entry_lines es) + length (unfinished_lines h inner) in
        let size = AreRead-length ls Two claim es (unfinished_lines h inner) read in
        let many : before < ended_lines text - 2 = omega (arith, ended, length_push ls line, size) in
        let place : length ls + 1 ≡ 3 + before = omega (arith, size) in
        AreRead-wrong ls Two claim es (unfinished_lines h inner) read text (line ∷ more) (Line (length ls + 1)) (has ∙ append_assoc ls (line ∷ []) more)
        (inside h inner (line ∷ more) refl unfinished refl (other_inside line more refl none many (ap Line place)))

    -- a line behind `end`
    goes-behind : (claim : Claim) → IsStage ls es (AtEnd claim) → (text : List ℕ) (more : List (List ℕ)) → lines text ≡ ls ++ line ∷ more
        → GoesWrong text (Line (length ls + 1))
    goes-behind claim (version, read) text more has =
        let place : length ls + 1 ≡ 4 + length (flat_map entry_lines es) = omega (arith, AreRead-length ls version claim es (last_line ∷ []) read) in
        AreRead-wrong ls version claim es (last_line ∷ []) read text (line ∷ more) (Line (length ls + 1)) has (behind line more refl (ap Line place))

    pub wrong-behind : (claim : Claim) → IsStage ls es (AtEnd claim) → AreWrong (ls ++ line ∷ []) (Line (length ls + 1))
    wrong-behind claim stage = λ text more has ended. goes-behind claim stage text more (has ∙ append_assoc ls (line ∷ []) more)

  -- ---- a text that ends

  module _ (text rest : List ℕ) (split : IsSplit text ls rest) where
    pub ended-header : IsStage ls es AtHeader → GoesWrong text Header
    ended-header (none, no_entries) = at_header (λ version claim more fits same.
        let all : lines rest ≡ header version ∷ claim_line claim ∷ more =
        sym (lines-split text ls rest split ∙ ap (λ front. front ++ lines rest) none) ∙ same in
        elim (lines-unended rest split.unended) [
          | inl empty ↦ omega (arith, ap length (sym (ap lines empty) ∙ all))
          | inr one ↦ omega (arith, ap length (sym one ∙ all))
        ]) refl

    -- the lines behind the header
    behind-header : (version : Version) → IsStage ls es (AtClaim version) → lines text ≡ header version ∷ lines rest
    behind-header version (first, no_entries) = lines-split text ls rest split ∙ ap (λ front. front ++ lines rest) first

    pub ended-claim : (version : Version) (claim : Claim) → IsStage ls es (AtClaim version) → IsClaimLine rest claim → GoesWrong text Truncated
    ended-claim version claim stage (fits, is) =
        let some : 0 < length rest = omega (arith, ap length is, length-claim_line claim) in
        let same : lines text ≡ header version ∷ claim_line claim ∷ [] =
        behind-header version stage ∙ ap (λ ms. header version ∷ ms) (lines-last rest some split.unended) ∙ ap (λ l. header version ∷ l ∷ []) is in
        behind_header version claim [] fits same (record {
          entries = [];
          rest = [];
          fit = All-nil FitsEntry;
          allowed = All-nil (FitsVersion version);
          has_lines = refl;
          wrong = missing refl refl;
        })

    pub ended-no_claim : (version : Version) → IsStage ls es (AtClaim version) → ((claim : Claim) → IsClaimLine rest claim → ⊥) → GoesWrong text Header
    ended-no_claim version stage none = at_header (λ v claim more fits same.
        let all : lines rest ≡ claim_line claim ∷ more = ap (drop 1) (sym (behind-header version stage) ∙ same) in
        elim (lines-unended rest split.unended) [
          | inl empty ↦ omega (arith, ap length (sym (ap lines empty) ∙ all))
          | inr one ↦
              let both : rest ∷ [] ≡ claim_line claim ∷ more = sym one ∙ all in
              let first : rest ≡ claim_line claim = cc in
              none claim (fits, first)
        ]) refl

    pub ended-last : (version : Version) (claim : Claim) → AreRead ls version claim es [] → rest ≡ last_line → SpellsCertificate text claim es
    ended-last version claim read last = record {
      version = version;
      has_lines = lines-split text ls rest split
          ∙ ap (λ ms. ls ++ ms) (lines-last rest (omega (arith, ap length last, length-last_line)) split.unended ∙ ap (λ l. l ∷ []) last)
          ∙ (AreRead-more ls version claim es [] read (last_line ∷ [])).is;
      allowed = read.allowed;
      fits = read.fits;
    }

    pub ended-cut : (version : Version) (claim : Claim) → AreRead ls version claim es [] → rest ≢ last_line → GoesWrong text Truncated
    ended-cut version claim read not_last =
        let count = length (flat_map entry_lines es) in
        let few : ended_lines text - 2 ≤ count = omega (arith, ended_lines-split text ls rest split, AreRead-length ls version claim es [] read) in
        let wrong : IsWrong version (ended_lines text - 2) count (lines rest) Truncated = elim (lines-unended rest split.unended) [
          | inl empty ↦ missing (ap lines empty) refl
          | inr one ↦ cut rest one not_last few refl
        ] in
        AreRead-wrong ls version claim es [] read text (lines rest) Truncated (lines-split text ls rest split) wrong

    pub ended-inner : (claim : Claim) (h : Head) (inner : List Inner) → IsUnfinished h inner → AreRead ls Two claim es (unfinished_lines h inner)
        → GoesWrong text Truncated
    ended-inner claim h inner unfinished read =
        let before = length (flat_map entry_lines es) + length (unfinished_lines h inner) in
        let few : ended_lines text - 2 ≤ before = omega (arith, ended_lines-split text ls rest split, AreRead-length ls Two claim es (unfinished_lines h inner) read) in
        let wrong : IsWrongInside (ended_lines text - 2) before (lines rest) Truncated = elim (lines-unended rest split.unended) [
          | inl empty ↦ missing_inside (ap lines empty) refl
          | inr one ↦ cut_inside rest one few refl
        ] in
        AreRead-wrong ls Two claim es (unfinished_lines h inner) read text (lines rest) Truncated (lines-split text ls rest split)
        (inside h inner (lines rest) refl unfinished refl wrong)

    pub ended-end : (claim : Claim) → IsStage ls es (AtEnd claim) → rest ≡ [] → SpellsCertificate text claim es
    ended-end claim (version, read) empty = record {
      version = version;
      has_lines = lines-split text ls rest split ∙ ap (λ bytes. ls ++ lines bytes) empty ∙ append-nil ls ∙ read.is;
      allowed = read.allowed;
      fits = read.fits;
    }

    pub ended-behind : (claim : Claim) → IsStage ls es (AtEnd claim) → 0 < length rest → GoesWrong text (Line (length ls + 1))
    ended-behind claim stage some =
        goes-behind rest claim stage text []
        (lines-split text ls rest split ∙ ap (λ ms. ls ++ ms) (lines-last rest some split.unended))

-- The fault of a text: the first, line by line.
use Rattle.std.specs.Prelude.{ℕ, ◌≡◌, ◌≢◌, ◌<◌, ◌≤◌, ◌+◌, ◌-◌, ◌==◌, List, [], ◌∷◌, ◌++◌, Option, MatchOption, Bool, All, codes, count_by, decimal, length, map}
use Rattle.std.specs.Prelude.{false}
use Rattle.std.specs.List.{flat_map, slice_split}
use Rattle.std.specs.Str.Lines.{lines}
use Rattle.sok_entry.specs.declared.claim.Claim.{Claim}
use Rattle.sok_entry.specs.declared.entry.Entry.{Entry}
use Rattle.sok_entry.specs.declared.entry.Inner.{Inner}
use Rattle.sok_entry.specs.declared.fault.CertFault.{CertFault}
use Rattle.sok_entry.specs.declared.fault.CertFault.TheVariants.{Header, Line, Truncated}
use Rattle.sok_entry.specs.declared.head.Head.{Head}
use Rattle.sok_entry.specs.declared.head.Opening.{Opening}
use Rattle.sok_entry.specs.declared.head.Opening.TheVariants.{Whole, Begun}
use Rattle.sok_entry.specs.declared.version.Version.{Version}
use Rattle.sok_entry.specs.declared.version.Version.TheVariants.{One, Two}
use Rattle.sok_entry.specs.Text.{code, line_feed, header, claim_line, entry_line, entry_lines, head_line, inner_line, last_line, is_pattern, numbers_of_head}
use Rattle.sok_entry.specs.Text.{IsSmall, FitsClaim, FitsEntry, FitsInner, FitsVersion}

-- a value with this property, or None if no value has it
abbrev pub Tells : {T : Type 0} → (T → Type 0) → Option T → Type 0
Tells {T} P found = MatchOption found ((x : T) → P x → ⊥) P

abbrev pub is_space : ℕ → Bool
is_space c = c == code (codes " ")

-- the words of the text, which spaces separate, are these numbers
abbrev pub AreWords : List ℕ → List ℕ → Type 0
AreWords text ns = All IsSmall ns × (slice_split is_space text ≡ map decimal ns)

-- the line of an entry that is no pattern
abbrev pub IsEntryLine : List ℕ → Entry → Type 0
IsEntryLine line e = FitsEntry e × (line ≡ entry_line e) × (is_pattern e.reason ≡ false)

abbrev pub FitsHead : Head → Type 0
FitsHead h = All IsSmall (numbers_of_head h)

-- the first line of a pattern
abbrev pub IsHeadLine : List ℕ → Head → Type 0
IsHeadLine line h = FitsHead h × (line ≡ head_line h)

-- the line of an inner position
abbrev pub IsInnerLine : List ℕ → Inner → Type 0
IsInnerLine line i = FitsInner i × (line ≡ inner_line i)

-- the line begins an entry of this version
abbrev pub Begins : Version → List ℕ → Opening → Type 0
Begins version line (Whole e) = IsEntryLine line e
Begins One line (Begun h) = ⊥
Begins Two line (Begun h) = IsHeadLine line h

-- the line of a claim
abbrev pub IsClaimLine : List ℕ → Claim → Type 0
IsClaimLine line claim = FitsClaim claim × (line ≡ claim_line claim)

-- the number of lines that have an end, which is LF or CR LF
abbrev pub ended_lines : List ℕ → ℕ
ended_lines text = count_by (λ byte. byte == line_feed) text

-- the first line of a pattern and some of its inner positions; more have to follow
pub record IsUnfinished (head : Head) (inner : List Inner) : Type 0 where
  pub head_fits : FitsHead head
  pub inner_fits : All FitsInner inner
  pub more_belong : length inner < head.count

abbrev pub unfinished_lines : Head → List Inner → List (List ℕ)
unfinished_lines head inner = head_line head ∷ map inner_line inner

-- What is wrong where an inner position has to follow. `ended` lines have an end and `before` lines come before, both without the first two lines.
pub data IsWrongInside (ended before : ℕ) (rest : List (List ℕ)) (fault : CertFault) : Type 0 where
  -- no line is left
  missing_inside : rest ≡ [] → fault ≡ Truncated → IsWrongInside ended before rest fault
  -- the last line has no end
  cut_inside : (line : List ℕ) → rest ≡ line ∷ [] → ended ≤ before → fault ≡ Truncated → IsWrongInside ended before rest fault
  -- a line that has an end is no inner position
  other_inside : (line : List ℕ) (more : List (List ℕ)) → rest ≡ line ∷ more → ((i : Inner) → IsInnerLine line i → ⊥) → before < ended
      → fault ≡ Line (3 + before)
      → IsWrongInside ended before rest fault

-- What is wrong where an entry or `end` has to follow. `ended` lines have an end and `before` lines come before, both counted from line 3.
pub data IsWrong (version : Version) (ended before : ℕ) (rest : List (List ℕ)) (fault : CertFault) : Type 0 where
  -- no line is left
  missing : rest ≡ [] → fault ≡ Truncated → IsWrong version ended before rest fault
  -- the last line is not `end`, and has no end
  cut : (line : List ℕ) → rest ≡ line ∷ [] → line ≢ last_line → ended ≤ before → fault ≡ Truncated → IsWrong version ended before rest fault
  -- a line that has an end begins no entry, and is not `end`
  other : (line : List ℕ) (more : List (List ℕ)) → rest ≡ line ∷ more → line ≢ last_line → ((o : Opening) → Begins version line o → ⊥) → before < ended
      → fault ≡ Line (3 + before)
      → IsWrong version ended before rest fault
  -- a line follows `end`
  behind : (line : List ℕ) (more : List (List ℕ)) → rest ≡ last_line ∷ line ∷ more → fault ≡ Line (4 + before) → IsWrong version ended before rest fault
  -- a pattern has begun, and something is wrong inside it
  inside : (head : Head) (inner : List Inner) (left : List (List ℕ)) → version ≡ Two → IsUnfinished head inner → rest ≡ unfinished_lines head inner ++ left
      → IsWrongInside ended (before + length (unfinished_lines head inner)) left fault
      → IsWrong version ended before rest fault

-- the lines, of which `ended` have an end, begin with entries, and then something is wrong
pub record StopsAt (version : Version) (ended : ℕ) (ls : List (List ℕ)) (fault : CertFault) : Type 0 where
  pub entries : List Entry
  pub rest : List (List ℕ)
  pub fit : All FitsEntry entries
  pub allowed : All (FitsVersion version) entries
  pub has_lines : ls ≡ flat_map entry_lines entries ++ rest
  pub wrong : IsWrong version ended (length (flat_map entry_lines entries)) rest fault

-- the first line is no header, or the second is no claim, or one of them is missing
abbrev pub LacksHeader : List ℕ → Type 0
LacksHeader text = (version : Version) (claim : Claim) (ls : List (List ℕ)) → FitsClaim claim → lines text ≡ header version ∷ claim_line claim ∷ ls → ⊥

-- the text is no certificate, and this is its first fault
pub data GoesWrong (text : List ℕ) (fault : CertFault) : Type 0 where
  at_header : LacksHeader text → fault ≡ Header → GoesWrong text fault
  behind_header : (version : Version) (claim : Claim) (ls : List (List ℕ)) → FitsClaim claim → lines text ≡ header version ∷ claim_line claim ∷ ls
      → StopsAt version (ended_lines text - 2) ls fault → GoesWrong text fault

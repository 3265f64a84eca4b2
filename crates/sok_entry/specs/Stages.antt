-- How far a certificate has been read, line by line.
use Rattle.std.specs.Prelude.{ℕ, ◌≡◌, ◌≤◌, ◌+◌, List, [], ◌∷◌, ◌++◌, ◌==◌, All, IfOk, Option, Result, Some, None, if◌then◌else◌, length}
use Rattle.std.specs.declared.alloc.AllocError.{AllocError}
use Rattle.std.specs.List.{flat_map}
use Rattle.std.specs.Str.Lines.{lines}
use Rattle.sok_text.specs.Lines.{IsUnended}
use Rattle.sok_entry.specs.declared.claim.Claim.{Claim}
use Rattle.sok_entry.specs.declared.entry.Entry.{Entry}
use Rattle.sok_entry.specs.declared.fault.CertFault.{CertFault}
use Rattle.sok_entry.specs.declared.stage.Stage.{Stage}
use Rattle.sok_entry.specs.declared.stage.Stage.TheVariants.{AtHeader, AtClaim, AtEntries, AtInner, AtEnd}
use Rattle.sok_entry.specs.declared.stage.LineRead.{LineRead}
use Rattle.sok_entry.specs.declared.stage.LineRead.TheVariants.{Listed, Passed, Wrong}
use Rattle.sok_entry.specs.declared.version.Version.{Version}
use Rattle.sok_entry.specs.declared.version.Version.TheVariants.{Two}
use Rattle.sok_entry.specs.Text.{header, claim_line, entry_lines, last_line, Fits, FitsVersion}
use Rattle.sok_entry.specs.Reading.{GoesWrong, IsUnfinished, ended_lines, unfinished_lines}

-- the text consists of these lines, each with its end, and then of a part without a line end
pub record IsSplit (text : List ℕ) (ls : List (List ℕ)) (open_part : List ℕ) : Type 0 where
  pub has_lines : (more : List ℕ) → lines (text ++ more) ≡ ls ++ lines (open_part ++ more)
  pub ended : (more : List ℕ) → ended_lines (text ++ more) ≡ length ls + ended_lines (open_part ++ more)
  pub unended : IsUnended open_part

-- the lines are a header of this version, a claim, entries, and then these
pub record AreRead (ls : List (List ℕ)) (version : Version) (claim : Claim) (es : List Entry) (tail : List (List ℕ)) : Type 0 where
  pub fits : Fits claim es
  pub allowed : All (FitsVersion version) es
  pub is : ls ≡ header version ∷ claim_line claim ∷ flat_map entry_lines es ++ tail

-- the number of inner positions of a pattern of which only the first line has been read
abbrev pub awaited : Stage → Option ℕ
awaited (AtInner claim head inner) = if length inner.items == 0 then Some head.count else None
awaited _ = None

-- these lines, with these entries, bring a certificate to a stage
abbrev pub IsStage : List (List ℕ) → List Entry → Stage → Type 0
IsStage ls es AtHeader = (ls ≡ []) × (es ≡ [])
IsStage ls es (AtClaim version) = (ls ≡ header version ∷ []) × (es ≡ [])
IsStage ls es (AtEntries version claim) = AreRead ls version claim es []
IsStage ls es (AtInner claim head inner) = IsUnfinished head inner.items × AreRead ls Two claim es (unfinished_lines head inner.items)
IsStage ls es (AtEnd claim) = (version : Version) × AreRead ls version claim es (last_line ∷ [])

-- each text that begins with these lines has this fault
abbrev pub AreWrong : List (List ℕ) → CertFault → Type 0
AreWrong ls fault = (text : List ℕ) (more : List (List ℕ)) → lines text ≡ ls ++ more → length ls ≤ ended_lines text → GoesWrong text fault

-- a claim that a certificate at this stage may have
abbrev pub MayClaim : Stage → Claim → Type 0
MayClaim AtHeader claim = Unit {0}
MayClaim (AtClaim version) claim = Unit {0}
MayClaim (AtEntries version c) claim = claim ≡ c
MayClaim (AtInner c head inner) claim = claim ≡ c
MayClaim (AtEnd c) claim = claim ≡ c

-- what the last of these lines is, read at this stage after these entries
abbrev pub IsRead : List (List ℕ) → List Entry → Stage → LineRead → Type 0
IsRead ls es stage (Listed claim e next) = MayClaim stage claim × IsStage ls (es ++ e ∷ []) next × ((other : Claim) → MayClaim next other → other ≡ claim)
IsRead ls es stage (Passed next) = IsStage ls es next × ((claim : Claim) → MayClaim next claim → MayClaim stage claim)
IsRead ls es stage (Wrong fault) = AreWrong ls fault

-- what the next line is, after this many lines that brought a certificate to the stage
abbrev pub ReadsOn : Stage → ℕ → List ℕ → Result LineRead AllocError → Type 0
ReadsOn stage count line result = (ls : List (List ℕ)) (es : List Entry) → length ls ≡ count → IsStage ls es stage → IfOk result (IsRead (ls ++ line ∷ []) es stage)

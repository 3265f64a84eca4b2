-- The text of a certificate: its lines.
use Rattle.std.specs.Prelude.{ℕ, ◌≡◌, ◌≤◌, List, [], ◌∷◌, ◌++◌, All, Bool, true, false, codes, decimal, if◌then◌else◌, length, map}
use Rattle.std.specs.List.{flat_map, list_any}
use Rattle.std.specs.Str.Lines.{lines}
use Rattle.sok_entry.specs.declared.claim.Claim.{Claim}
use Rattle.sok_entry.specs.declared.claim.Claim.TheVariants.{Pushes, Unsolvable}
use Rattle.sok_entry.specs.declared.entry.Entry.{Entry}
use Rattle.sok_entry.specs.declared.entry.Inner.{Inner}
use Rattle.sok_entry.specs.declared.entry.InnerReason.{InnerReason}
use Rattle.sok_entry.specs.declared.entry.InnerReason.TheVariants as inside
use Rattle.sok_entry.specs.declared.entry.Reason.{Reason}
use Rattle.sok_entry.specs.declared.entry.Reason.TheVariants.{Expanded, Spent, Bound, Crowd, Frozen, Pattern}
use Rattle.sok_entry.specs.declared.head.Head.{Head}
use Rattle.sok_entry.specs.declared.version.Version.{Version}
use Rattle.sok_entry.specs.declared.version.Version.TheVariants.{One, Two}
pub use Rattle.sok_entry.specs.Inside.{code, ended, line_feed, spaced}

unfoldable pub header : Version → List ℕ
header One = codes "sokoban-certificate 1"
header Two = codes "sokoban-certificate 2"

unfoldable pub last_line : List ℕ
last_line = codes "end"

unfoldable pub claim_line : Claim → List ℕ
claim_line (Pushes k) = codes "pushes " ++ decimal k
claim_line Unsolvable = codes "unsolvable"

-- the letter of a reason
abbrev pub letter_of : Reason → ℕ
letter_of Expanded = code (codes "x")
letter_of Spent = code (codes "s")
letter_of (Bound u v) = code (codes "b")
letter_of (Crowd members) = code (codes "c")
letter_of (Frozen members) = code (codes "f")
letter_of (Pattern members inner) = code (codes "p")

-- prices without a count; members after their count; for a pattern also the number of inner positions
abbrev pub numbers_of_reason : Reason → List ℕ
numbers_of_reason Expanded = []
numbers_of_reason Spent = []
numbers_of_reason (Bound u v) = u ++ v
numbers_of_reason (Crowd members) = length members ∷ members
numbers_of_reason (Frozen members) = length members ∷ members
numbers_of_reason (Pattern members inner) = length members ∷ members ++ length inner ∷ []

-- depth, player, the number of boxes, and the boxes
abbrev pub numbers_of_position : Entry → List ℕ
numbers_of_position e = e.depth ∷ e.player ∷ length e.boxes ∷ e.boxes

-- the numbers of an entry's line
abbrev pub numbers_of : Entry → List ℕ
numbers_of e = numbers_of_position e ++ numbers_of_reason e.reason

-- the first line of an entry; it is the only one, unless the entry is a pattern
unfoldable pub entry_line : Entry → List ℕ
entry_line e = letter_of e.reason ∷ spaced (numbers_of e)

abbrev pub reason_alike : InnerReason → Reason
reason_alike inside.Expanded = Expanded
reason_alike (inside.Crowd members) = Crowd members
reason_alike (inside.Frozen members) = Frozen members

-- the entry with these parts
abbrev pub entry_from : ℕ → ℕ → List ℕ → Reason → Entry
entry_from depth player boxes reason = record { depth = depth; player = player; boxes = boxes; reason = reason }

-- the entry that has the form of an inner position
abbrev pub entry_alike : Inner → Entry
entry_alike i = entry_from i.depth i.player i.boxes (reason_alike i.reason)

abbrev pub inner_line : Inner → List ℕ
inner_line i = entry_line (entry_alike i)

-- the inner positions of a pattern
abbrev pub inner_of : Reason → List Inner
inner_of (Pattern members inner) = inner
inner_of _ = []

-- the lines of an entry: its first line, then those of its inner positions
abbrev pub entry_lines : Entry → List (List ℕ)
entry_lines e = entry_line e ∷ map inner_line (inner_of e.reason)

-- the lines of a certificate
abbrev pub lines_of : Version → Claim → List Entry → List (List ℕ)
lines_of version claim entries = header version ∷ claim_line claim ∷ flat_map entry_lines entries ++ last_line ∷ []

-- the numbers of the first line of a pattern
abbrev pub numbers_of_head : Head → List ℕ
numbers_of_head h = h.depth ∷ h.player ∷ length h.boxes ∷ h.boxes ++ (length h.members ∷ h.members ++ h.count ∷ [])

unfoldable pub head_line : Head → List ℕ
head_line h = code (codes "p") ∷ spaced (numbers_of_head h)

-- the pattern with this first line and these inner positions, if their number is right
abbrev pub entry_with : Head → List Inner → Entry
entry_with h inner = entry_from h.depth h.player h.boxes (Pattern h.members inner)

-- something, or nothing, was appended to the text
pub record Grows (old new : List ℕ) : Type 0 where
  pub more : List ℕ
  pub is : new ≡ old ++ more

-- the lines of inner positions, each with LF at its end
abbrev pub inner_text : List Inner → List ℕ
inner_text inner = flat_map ended (map inner_line inner)

-- the lines of an entry, each with LF at its end
abbrev pub entry_text : Entry → List ℕ
entry_text e = flat_map ended (entry_lines e)

abbrev pub is_pattern : Reason → Bool
is_pattern (Pattern members inner) = true
is_pattern _ = false

-- the version that is written: 1 if no entry is a pattern, otherwise 2
abbrev pub version_of : List Entry → Version
version_of entries = if list_any (λ (e : Entry). is_pattern e.reason) entries then Two else One

-- the text of a certificate, each line with LF at its end
abbrev pub text_of : Claim → List Entry → List ℕ
text_of claim entries = flat_map ended (lines_of (version_of entries) claim entries)

-- the greatest number of a certificate
abbrev pub number_limit : ℕ
number_limit = 1000000

-- a number that a certificate may have
abbrev pub IsSmall : ℕ → Type 0
IsSmall n = n ≤ number_limit

abbrev pub FitsClaim : Claim → Type 0
FitsClaim (Pushes k) = IsSmall k
FitsClaim Unsolvable = Unit {0}

-- a bound has one price for each box
abbrev pub PricesEachBox : ℕ → Reason → Type 0
PricesEachBox boxes (Bound u v) = length u ≡ boxes
PricesEachBox boxes _ = Unit {0}

-- an inner position that has a line
abbrev pub FitsInner : Inner → Type 0
FitsInner i = All IsSmall (numbers_of (entry_alike i))

-- the numbers of a reason are small enough, and a bound prices this many boxes
abbrev pub FitsReason : Reason → ℕ → Type 0
FitsReason reason boxes = PricesEachBox boxes reason × All IsSmall (numbers_of_reason reason) × All FitsInner (inner_of reason)

-- an entry that has lines: each of its numbers is small enough
pub record FitsEntry (e : Entry) : Type 0 where
  pub small : All IsSmall (numbers_of e)
  pub priced : PricesEachBox (length e.boxes) e.reason
  pub inner : All FitsInner (inner_of e.reason)

-- version 1 has no patterns
abbrev pub FitsVersion : Version → Entry → Type 0
FitsVersion One e = is_pattern e.reason ≡ false
FitsVersion Two e = Unit {0}

-- a certificate that has a text
pub record Fits (claim : Claim) (entries : List Entry) : Type 0 where
  pub claim_fits : FitsClaim claim
  pub entries_fit : All FitsEntry entries

-- The text has the lines of this certificate in one of the versions. The lines end with LF or CR LF, and the last one may have no end.
pub record SpellsCertificate (text : List ℕ) (claim : Claim) (entries : List Entry) : Type 0 where
  pub version : Version
  pub has_lines : lines text ≡ lines_of version claim entries
  pub allowed : All (FitsVersion version) entries
  pub fits : Fits claim entries

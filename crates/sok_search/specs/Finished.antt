-- How each state of a search, finished or cut off, supports a claim, and its entry in the certificate.
use Rattle.std.specs.Prelude.{ℕ, ◌≡◌, ◌<◌, ◌≤◌, ◌+◌, Bool, List, [], ◌∷◌, ◌++◌, Some, IsSomeAnd, All, length, slice_get}
use Rattle.sok_board.specs.Area.{BoardView}
use Rattle.sok_cert.specs.Claim.{Claim}
use Rattle.sok_cert.specs.Claim.TheVariants.{Pushes, Unsolvable}
use Rattle.sok_cert.specs.Entry.{Entry}
use Rattle.sok_cert.specs.Reason.{Reason}
use Rattle.sok_cert.specs.Reason.TheVariants as reason
use Rattle.sok_cert.specs.Text.{FitsEntry, FitsReason}
use Rattle.sok_distance.specs.Pushing.{IsStuck}
use Rattle.sok_price.specs.Matches.{ArePrices}
use Rattle.sok_price.specs.Prices.{IsCrowd}
use Rattle.sok_bar.specs.declared.rest.Rest.{Rest}
use Rattle.sok_bar.specs.Bars.{Bars}
use Rattle.sok_state.specs.declared.key.Key.{Key}
use Rattle.sok_cert.specs.Closed.{barring, rest_of}
use Rattle.sok_alone.specs.declared.losses.Loss.{Loss}
use Rattle.sok_alone.specs.Losses.{IsLostBy, losses_of}
use Rattle.sok_search.specs.declared.finding.Finding.{Finding}
use Rattle.sok_search.specs.declared.finding.Finding.TheVariants as finding
use Rattle.sok_search.specs.declared.note.Note.{Note}
use Rattle.sok_search.specs.declared.note.Standing.{Standing}
use Rattle.sok_search.specs.declared.note.Standing.TheVariants as standing
use Rattle.sok_search.specs.Searches.{Progress, HasBound, IsDead, IsState}

-- a finding agrees with the best of a finished search
abbrev pub IsOfBest : Progress → Finding → Type 0
IsOfBest p (finding.Solved dirs pushes) = (p.best ≡ Some pushes) × (pushes < length p.table)
IsOfBest p finding.NoBetter = p.best ≡ p.frame.aim.upper
IsOfBest p (finding.Limit states least) = ⊥

-- a reason bars a position; `Expanded` bars none
abbrev pub ReasonBars : BoardView → ℕ → List ℕ → Reason → Rest → Type 0
ReasonBars b player boxes why rest = IsSomeAnd (barring why) (λ reason. Bars b player boxes reason rest)

-- the entry of an expanded state is expanded, and that of each other state is barred
abbrev pub IsReasonOf : BoardView → Claim → ℕ → List ℕ → ℕ → Standing → Reason → Type 0
IsReasonOf b claim player boxes depth (standing.Expanded bound) why = why ≡ reason.Expanded
IsReasonOf b claim player boxes depth (standing.Open bound) why = ReasonBars b player boxes why (rest_of claim depth)
IsReasonOf b claim player boxes depth standing.Dead why = ReasonBars b player boxes why (rest_of claim depth)
IsReasonOf b claim player boxes depth (standing.Lost place) why = ReasonBars b player boxes why (rest_of claim depth)

-- the entry of a state
pub record IsEntryOf (b : BoardView) (claim : Claim) (key : Key) (depth : ℕ) (note : Note) (e : Entry) : Type 0 where
  pub depth_is : e.depth ≡ depth
  pub player_is : e.player ≡ key.least
  pub boxes_are : e.boxes ≡ key.boxes
  pub reason_is : IsReasonOf b claim key.least key.boxes depth note.standing e.reason

-- the entries of the first states
pub record AreFirstEntries (b : BoardView) (claim : Claim) (p : Progress) (n : ℕ) (entries : List Entry) : Type 0 where
  pub as_many : length entries ≡ n
  pub each : (i : ℕ) (key : Key) (depth : ℕ) (note : Note) (e : Entry) → IsState p i key depth note → slice_get entries i ≡ Some e
      → IsEntryOf b claim key depth note e

-- the entries of the first states were taken, and each has a text
pub record AreTaken (Took : List Entry → Type 0) (b : BoardView) (claim : Claim) (p : Progress) (n : ℕ) : Type 0 where
  pub entries : List Entry
  pub took : Took entries
  pub first : AreFirstEntries b claim p n entries
  pub fit : All FitsEntry entries

-- the entry of the state at an index
abbrev pub IsEntryAt : BoardView → Claim → Progress → ℕ → Entry → Type 0
IsEntryAt b claim p index e = (key : Key) (depth : ℕ) (note : Note) → IsState p index key depth note → IsEntryOf b claim key depth note e

-- one more entry was taken: that of the state at an index, which has a text
pub record TakesEntry (Took Takes : List Entry → Type 0) (b : BoardView) (claim : Claim) (p : Progress) (index : ℕ) : Type 0 where
  pub entry : Entry
  pub is : IsEntryAt b claim p index entry
  pub fits : FitsEntry entry
  pub takes : (entries : List Entry) → Took entries → Takes (entries ++ entry ∷ [])

-- at most so many pushes are claimed
abbrev pub IsAtMost : Claim → ℕ → Type 0
IsAtMost (Pushes k) n = k ≤ n
IsAtMost Unsolvable n = ⊥

-- depth and lower bound together are as many pushes as claimed
abbrev pub CostsEnough : BoardView → Bool → Claim → ℕ → List ℕ → ℕ → Type 0
CostsEnough b whole claim player boxes depth = (bound : ℕ) × HasBound b whole player boxes bound × IsAtMost claim (depth + bound)

-- a state is done with: it is expanded, or it can be barred for the claim
abbrev pub IsDone : BoardView → Bool → Claim → List Loss → ℕ → List ℕ → ℕ → Standing → Type 0
IsDone b whole claim losses player boxes depth (standing.Open bound) = CostsEnough b whole claim player boxes depth
IsDone b whole claim losses player boxes depth (standing.Expanded bound) = Unit {0}
IsDone b whole claim losses player boxes depth standing.Dead = IsDead b boxes
IsDone b whole claim losses player boxes depth (standing.Lost place) = IsLostBy b player boxes losses place

-- each known state is done with
abbrev pub AreDone : BoardView → Claim → Progress → Type 0
AreDone b claim p = (i : ℕ) (key : Key) (depth : ℕ) (note : Note) → IsState p i key depth note
    → IsDone b p.frame.aim.whole claim (losses_of p.frame.losses) key.least key.boxes depth note.standing

-- the box at a place reaches no goal, even alone on the board
abbrev pub IsStuckAt : BoardView → List ℕ → ℕ → Type 0
IsStuckAt b boxes place = (square : ℕ) × (slice_get boxes place ≡ Some square) × IsStuck b square

-- a crowd of the box at a place alone
abbrev pub IsLoneCrowd : ℕ → Reason → Type 0
IsLoneCrowd place why = why ≡ reason.Crowd (place ∷ [])

-- the dual prices of a minimum assignment, or a crowd
abbrev pub IsAssigned : BoardView → List ℕ → Reason → Type 0
IsAssigned b boxes (reason.Bound u v) = (total : ℕ) × (goal_of : List ℕ) × ArePrices b boxes u v total goal_of
IsAssigned b boxes (reason.Crowd members) = IsCrowd b boxes members
IsAssigned b boxes _ = ⊥

-- the reason has a text
abbrev pub HasText : List ℕ → Reason → Type 0
HasText boxes why = FitsReason why (length boxes)

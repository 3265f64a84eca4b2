-- What the solver answers of a level.
use Rattle.std.specs.Prelude.{ℕ, ◌≡◌, ◌<◌, ◌≤◌, ◌+◌, ◌⊎◌, ◌++◌, ◌∷◌, Bool, true, false, MatchBool, List, [], Option, None, IsSomeAnd, length}
use Rattle.sok_rules.specs.declared.cell.Dir.{Dir}
use Rattle.sok_rules.specs.Squares.{Rows}
use Rattle.sok_rules.specs.Play.{start, pushes, Solves, AtLeast, IsFewest, IsUnsolvable}
use Rattle.sok_rules.specs.States.{MoreStatesThan}
use Rattle.sok_board.specs.Area.{BoardView, IsAccepted, boxes_of}
use Rattle.sok_price.specs.Prices.{Priced}
use Rattle.sok_cert.specs.Claim.{Claim}
use Rattle.sok_cert.specs.Claim.TheVariants as claim
use Rattle.sok_cert.specs.Certificate.{Certificate}
use Rattle.sok_cert.specs.Entry.{Entry}
use Rattle.sok_cert.specs.Text.{Fits, number_limit}
use Rattle.sok_cert.specs.Closed.{IsClosed}
use Rattle.sok_search.specs.declared.found.Found.{Found}
use Rattle.sok_search.specs.declared.found.Found.TheVariants as found
use Rattle.sok_search.specs.declared.improved.Improved.{Improved}
use Rattle.sok_search.specs.declared.improved.Improved.TheVariants as improved
use Rattle.sok_search.specs.declared.outcome.Outcome.{Outcome}
use Rattle.sok_search.specs.declared.outcome.Outcome.TheVariants.{Solved, Unsolvable, Limit}

-- the last letter of a list pushes
pub record PushesLast (rows : Rows) (w : List Dir) : Type 0 where
  pub front : List Dir
  pub last : Dir
  pub is : w ≡ front ++ last ∷ []
  pub one_more : pushes rows (start rows) w ≡ pushes rows (start rows) front + 1

-- a list of letters is empty, or its last letter pushes
abbrev pub EndsWithPush : Rows → List Dir → Type 0
EndsWithPush rows w = (w ≡ []) ⊎ PushesLast rows w

-- a solution with so many pushes, and none has fewer
pub record IsLeastSolution (rows : Rows) (w : List Dir) (n : ℕ) : Type 0 where
  pub solves : Solves rows w
  pub counted : pushes rows (start rows) w ≡ n
  pub fewest : IsFewest rows n
  pub ends : EndsWithPush rows w

-- entries of a certificate for a claim: they have a text, are closed on the level's board, and are at most so many
pub record Certifies (rows : Rows) (limit : ℕ) (shown : Claim) (entries : List Entry) : Type 0 where
  pub fits : Fits shown entries
  pub closed : (b : BoardView) → b.rows ≡ rows → IsAccepted b → IsClosed b shown entries
  pub few : length entries ≤ limit

-- there is no solution, and a certificate shows it
pub record IsProvedUnsolvable (rows : Rows) (limit : ℕ) (entries : List Entry) : Type 0 where
  pub unsolvable : IsUnsolvable rows
  pub certified : Certifies rows limit claim.Unsolvable entries

-- a solution with the fewest pushes, and a certificate shows that none has fewer
pub record IsProvedSolved (rows : Rows) (limit : ℕ) (w : List Dir) (n : ℕ) (entries : List Entry) : Type 0 where
  pub solution : IsLeastSolution rows w n
  pub certified : Certifies rows limit (claim.Pushes n) entries

-- more states can be reached than the limit, which is reported
pub record IsPastLimit (rows : Rows) (limit states : ℕ) : Type 0 where
  pub more : MoreStatesThan rows limit
  pub is : states ≡ limit

-- A number that is no less than what any prices of the start's boxes prove, as far as a certificate can claim that. So it is no less than the cost of their
-- minimum assignment.
abbrev pub CoversStart : Rows → ℕ → Type 0
CoversStart rows least =
    (b : BoardView) → b.rows ≡ rows → IsAccepted b → (u v : List ℕ) (n : ℕ) → Priced b (boxes_of b) u v n → n ≤ number_limit → n ≤ least

-- More states can be reached than the limit, and no solution has fewer pushes than the lower bound that is reported. It is no less than that of the start, and
-- a certificate can claim it.
pub record IsCutShort (rows : Rows) (limit states least : ℕ) : Type 0 where
  pub past : IsPastLimit rows limit states
  pub at_least : AtLeast rows least
  pub covers : CoversStart rows least
  pub small : least ≤ number_limit

-- what is found of a level within a limit: a solution has fewer pushes than states may be kept
abbrev pub IsFoundWithin : Rows → ℕ → Found → Type 0
IsFoundWithin rows limit (found.Solved dirs pushes) = IsLeastSolution rows dirs.items pushes × (pushes < limit)
IsFoundWithin rows limit found.Unsolvable = IsUnsolvable rows
IsFoundWithin rows limit (found.Limit states at_least) = IsCutShort rows limit states at_least

-- What is found of a level beside a solution with so many pushes: a solution with the fewest, which are fewer, and fewer than states may be kept; or that none
-- has fewer; or that the limit was reached, with a lower bound that is less.
abbrev pub IsImproved : Rows → ℕ → ℕ → Improved → Type 0
IsImproved rows limit best (improved.Fewer dirs pushes) = IsLeastSolution rows dirs.items pushes × (pushes < limit) × (pushes < best)
IsImproved rows limit best improved.Optimal = AtLeast rows best
IsImproved rows limit best (improved.Limit states at_least) = IsCutShort rows limit states at_least × (at_least < best)

-- the same, and the entries that were taken are those of a certificate that shows it; of a limit only if that is wanted
abbrev pub IsImprovedWithProof : (List Entry → Type 0) → Rows → ℕ → Bool → ℕ → Improved → Type 0
IsImprovedWithProof Took rows limit wanted best (improved.Fewer dirs pushes) =
    (entries : List Entry) × Took entries × IsProvedSolved rows limit dirs.items pushes entries × (pushes < best)
IsImprovedWithProof Took rows limit wanted best improved.Optimal =
    (entries : List Entry) × Took entries × AtLeast rows best × Certifies rows limit (claim.Pushes best) entries
IsImprovedWithProof Took rows limit wanted best (improved.Limit states least) =
    IsCutShort rows limit states least × (least < best)
    × MatchBool wanted ((entries : List Entry) × Took entries × Certifies rows limit (claim.Pushes least) entries) (Took [])

-- a certificate for a claim, whose entries show something
abbrev pub OfClaim : Claim → (List Entry → Type 0) → Certificate → Type 0
OfClaim claimed Shows certificate = (certificate.claim ≡ claimed) × Shows certificate.entries.items

-- a certificate shows the lower bound, if one is wanted
abbrev pub ShowsLeast : Rows → ℕ → Bool → ℕ → Option Certificate → Type 0
ShowsLeast rows limit wanted least certificate =
    MatchBool wanted (IsSomeAnd certificate (OfClaim (claim.Pushes least) (Certifies rows limit (claim.Pushes least)))) (certificate ≡ None)

-- What is found of a level within a limit, and the entries that were taken are those of a certificate that shows it; of a limit only if that is wanted, and
-- otherwise none.
abbrev pub IsFoundWithProof : (List Entry → Type 0) → Rows → ℕ → Bool → Found → Type 0
IsFoundWithProof Took rows limit wanted (found.Solved dirs pushes) = (entries : List Entry) × Took entries × IsProvedSolved rows limit dirs.items pushes entries
IsFoundWithProof Took rows limit wanted found.Unsolvable = (entries : List Entry) × Took entries × IsProvedUnsolvable rows limit entries
IsFoundWithProof Took rows limit wanted (found.Limit states least) =
    IsCutShort rows limit states least
    × MatchBool wanted ((entries : List Entry) × Took entries × Certifies rows limit (claim.Pushes least) entries) (Took [])

-- what is answered of a level within a limit; a certificate of a limit may be wanted or not
abbrev pub IsOutcome : Rows → ℕ → Bool → Outcome → Type 0
IsOutcome rows limit wanted (Solved dirs pushes certificate) = OfClaim (claim.Pushes pushes) (IsProvedSolved rows limit dirs.items pushes) certificate
IsOutcome rows limit wanted (Unsolvable certificate) = OfClaim claim.Unsolvable (IsProvedUnsolvable rows limit) certificate
IsOutcome rows limit wanted (Limit states at_least certificate) =
    IsCutShort rows limit states at_least × ShowsLeast rows limit wanted at_least certificate

-- if it is not, and if it is
abbrev pub IsAnswer : Rows → ℕ → Outcome → Type 0
IsAnswer rows limit = IsOutcome rows limit false

abbrev pub IsBounded : Rows → ℕ → Outcome → Type 0
IsBounded rows limit = IsOutcome rows limit true

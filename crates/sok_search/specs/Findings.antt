-- What a search finds of a level, of which a solution with so many pushes is known, or none.
use Rattle.std.specs.Prelude.{ℕ, ◌<◌, Bool, MatchBool, List, [], Option, Some, None, IfSome}
use Rattle.sok_rules.specs.Squares.{Rows}
use Rattle.sok_cert.specs.Claim.{Claim}
use Rattle.sok_cert.specs.Claim.TheVariants as claim
use Rattle.sok_cert.specs.Entry.{Entry}
use Rattle.sok_cert.specs.Closed.{IsTrueOf}
use Rattle.sok_search.specs.declared.finding.Finding.{Finding}
use Rattle.sok_search.specs.declared.finding.Finding.TheVariants.{Solved, NoBetter, Limit}
use Rattle.sok_search.specs.declared.found.Found.{Found}
use Rattle.sok_search.specs.declared.found.Found.TheVariants as found
use Rattle.sok_search.specs.declared.improved.Improved.{Improved}
use Rattle.sok_search.specs.declared.improved.Improved.TheVariants as improved
use Rattle.sok_search.specs.Outcomes.{Certifies, IsCutShort, IsLeastSolution, IsProvedSolved}

-- the claim about a level whose best has so many pushes, or that has no solution
abbrev pub claim_of : Option ℕ → Claim
claim_of None = claim.Unsolvable
claim_of (Some k) = claim.Pushes k

-- what it says if no solution was known
abbrev pub found_of : Finding → Found
found_of (Solved dirs pushes) = found.Solved dirs pushes
found_of NoBetter = found.Unsolvable
found_of (Limit states least) = found.Limit states least

-- and if one was
abbrev pub improved_of : Finding → Improved
improved_of (Solved dirs pushes) = improved.Fewer dirs pushes
improved_of NoBetter = improved.Optimal
improved_of (Limit states least) = improved.Limit states least

-- fewer pushes than the known solution, if there is one
abbrev pub IsFewer : Option ℕ → ℕ → Type 0
IsFewer upper n = IfSome upper (λ k. n < k)

-- without a certificate
abbrev pub IsFinding : Rows → ℕ → Option ℕ → Finding → Type 0
IsFinding rows limit upper (Solved dirs pushes) = IsLeastSolution rows dirs.items pushes × (pushes < limit) × IsFewer upper pushes
IsFinding rows limit upper NoBetter = IsTrueOf rows (claim_of upper)
IsFinding rows limit upper (Limit states least) = IsCutShort rows limit states least × IsFewer upper least

-- with the entries of a certificate that were taken; of a limit only if that is wanted
abbrev pub IsFindingWithProof : (List Entry → Type 0) → Rows → ℕ → Bool → Option ℕ → Finding → Type 0
IsFindingWithProof Took rows limit wanted upper (Solved dirs pushes) =
    (entries : List Entry) × Took entries × IsProvedSolved rows limit dirs.items pushes entries × IsFewer upper pushes
IsFindingWithProof Took rows limit wanted upper NoBetter =
    (entries : List Entry) × Took entries × IsTrueOf rows (claim_of upper) × Certifies rows limit (claim_of upper) entries
IsFindingWithProof Took rows limit wanted upper (Limit states least) =
    IsCutShort rows limit states least × IsFewer upper least
    × MatchBool wanted ((entries : List Entry) × Took entries × Certifies rows limit (claim.Pushes least) entries) (Took [])

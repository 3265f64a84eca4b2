-- What a search shows of a level, beside its best or alone, and the claim of its certificate.
use Rattle.std.specs.Prelude.{ℕ, List, Option}
use Rattle.sok_rules.specs.Squares.{Rows}
use Rattle.sok_cert.specs.Claim.{Claim}
use Rattle.sok_cert.specs.Claim.TheVariants as claim
use Rattle.sok_cert.specs.Closed.{IsTrueOf}
use Rattle.sok_cert.specs.Entry.{Entry}
use Rattle.sok_search.specs.declared.finding.Finding.{Finding}
use Rattle.sok_search.specs.declared.finding.Finding.TheVariants.{Solved, NoBetter, Limit}
use Rattle.sok_search.specs.Findings.{IsFewer, claim_of}
use Rattle.sok_search.specs.Outcomes.{Certifies, IsCutShort, IsLeastSolution}

-- of a limit there is no certificate
abbrev pub Shows : (Claim → Type 0) → Rows → ℕ → Option ℕ → Finding → Type 0
Shows Certified rows limit best (Solved dirs pushes) = IsLeastSolution rows dirs.items pushes × Certified (claim.Pushes pushes)
Shows Certified rows limit best NoBetter = IsTrueOf rows (claim_of best) × Certified (claim_of best)
Shows Certified rows limit best (Limit states least) = IsCutShort rows limit limit least × IsFewer best least

-- the entries of a certificate for a claim were taken
abbrev pub IsCertified : (List Entry → Type 0) → Rows → ℕ → Claim → Type 0
IsCertified Took rows limit shown = (entries : List Entry) × Took entries × Certifies rows limit shown entries

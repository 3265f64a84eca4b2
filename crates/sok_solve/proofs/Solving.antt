-- What is answered to a level that is to be solved.
use Rattle.std.proofs.Common.{ℕ, ◌≡◌, Bool, true, false, List, [], Option, Some, None, Result, Ok, Err}
use Rattle.std.proofs.Common.{IsSome, MatchBool, MatchResult, refl, subst, sym}
use Rattle.std.specs.Option.{IsSomeAnd}
use Rattle.sok_rules.specs.declared.cell.Dir.{Dir}
use Rattle.sok_rules.specs.declared.fault.PlayFault.{PlayFault}
use Rattle.sok_rules.specs.declared.fault.PlayFault.TheVariants as play
use Rattle.sok_rules.specs.Play.{Position, Solves}
use Rattle.sok_rules.specs.Replay.{IsReplayFault}
use Rattle.sok_rules.specs.Squares.{Rows}
use Rattle.sok_rules.proofs.Outcomes.{blocked_not_legal}
use Rattle.sok_board.specs.declared.fault.BoardFault.TheVariants as board
use Rattle.sok_board.specs.Refusals.{IsAcceptable}
use Rattle.sok_cert.specs.Claim.TheVariants as claim
use Rattle.sok_cert.specs.Entry.{Entry}
use Rattle.sok_search.specs.declared.fault.SolveFault.{SolveFault}
use Rattle.sok_search.specs.declared.fault.SolveFault.TheVariants as solve
use Rattle.sok_search.specs.declared.finding.Finding.{Finding}
use Rattle.sok_search.specs.declared.finding.Finding.TheVariants as finding
use Rattle.sok_search.specs.Faults.{IsBadLimit, TellsFault}
use Rattle.sok_search.specs.Findings.{IsFinding, IsFindingWithProof}
use Rattle.sok_search.specs.Outcomes.{Certifies}
use Rattle.sok_search.proofs.Refusing.{no-fault}
use Rattle.sok_engine.specs.declared.fault.ToolFault.{ToolFault}
use Rattle.sok_engine.specs.declared.fault.ToolFault.TheVariants as tool
use Rattle.sok_engine.specs.Faults.{of_play}
use Rattle.sok_engine.specs.Written.{Answer, Gives, IsFaultOf}
use Rattle.sok_solve.specs.Faults.{of_solve}
use Rattle.sok_solve.specs.Reports.{HasSolution}
use Rattle.sok_solve.specs.Solves.{IsAnswered, is_bad, is_refused, is_told}

-- letters that solve are legal
solves_legal : (end : Option Position) (P : Position → Type 0) → IsSomeAnd end P → IsSome end
solves_legal None P solved = absurd solved
solves_legal (Some x) P solved = refl

-- and so they are marked, memory aside
pub replayed : (rows : Rows) (w : List Dir) (fault : PlayFault) → Solves rows w → IsReplayFault rows w fault → of_play fault ≡ tool.Memory
replayed rows w (play.Blocked at) solves blocked = absurd (blocked_not_legal rows w at blocked (solves_legal _ _ solves))
replayed rows w play.TooLong solves blocked = absurd blocked
replayed rows w play.Memory solves blocked = refl

-- why a level is not solved is one of its answers, memory aside
pub refused_answer : {A B : Type 0} {rows : Rows} {limit : ℕ} {fault : SolveFault} (Tells : A → Type 0) (told : ToolFault)
    → TellsFault {A = B} rows limit (Err fault) → told ≡ of_solve fault → IsFaultOf (IsAnswered Tells limit rows) told
refused_answer {B = B} {rows = rows} {limit = limit} {fault = fault} Tells told tells same =
    subst (IsFaultOf (IsAnswered Tells limit rows)) (sym same) (of fault tells)
  where
    of : (fault : SolveFault) → TellsFault {A = B} rows limit (Err fault) → IsFaultOf (IsAnswered Tells limit rows) (of_solve fault)
    of solve.BadLimit it = is_bad (it.bad_limit.0 refl) refl
    of (solve.Level board.Memory) it = tt
    of (solve.Level fault) it = is_refused (λ bad. let same = it.bad_limit.1 bad in cc) fault it.refused.0 it.refused.1 refl
    of solve.Memory it = tt

-- a level of which something was found is acceptable, and its limit good
found_of : {B : Type 0} {rows : Rows} {limit : ℕ} {found : B} → TellsFault rows limit (Ok found) → ¬ (IsBadLimit limit) × IsAcceptable rows
found_of {found = found} it =
    (λ bad. no-fault found _ (it.bad_limit.1 bad), (it.exact (λ same. no-fault found _ same) (λ same. no-fault found _ same)).0 refl)

-- what is told of it is its answer
pub told_answer : {A B : Type 0} {rows : Rows} {limit : ℕ} {found : B} (Tells : A → Type 0) (answer : Result A ToolFault) → TellsFault rows limit (Ok found)
    → MatchResult answer Tells (λ fault. fault ≡ tool.Memory) → Gives (IsAnswered Tells limit rows) answer
told_answer Tells (Ok told) it tells = is_told (found_of it).0 (found_of it).1 told tells refl
told_answer {rows = rows} {limit = limit} Tells (Err fault) it memory = subst (IsFaultOf (IsAnswered Tells limit rows)) (sym memory) tt

abbrev answering : List ℕ → ℕ → Answer
answering text status = record { text = text; status = status }

pub same_answer : (text words : List ℕ) (status exit : ℕ) → text ≡ words → status ≡ exit → answering text status ≡ answering words exit
same_answer text words status exit texts statuses = λ i. answering (texts i) (statuses i)

-- letters that were found solve the level
pub has_solution : (rows : Rows) (limit : ℕ) (best : Option ℕ) (found : Finding) → IsFinding rows limit best found → HasSolution rows found
has_solution rows limit best (finding.Solved dirs pushes) (solution, _, _) = solution.solves
has_solution rows limit best finding.NoBetter is = tt
has_solution rows limit best (finding.Limit states least) is = tt

-- and so do those that were found with a certificate
pub has_proved : (Took : List Entry → Type 0) (rows : Rows) (limit : ℕ) (wanted : Bool) (best : Option ℕ) (found : Finding)
    → IsFindingWithProof Took rows limit wanted best found → HasSolution rows found
has_proved Took rows limit wanted best (finding.Solved dirs pushes) (entries, took, proved, _) = proved.solution.solves
has_proved Took rows limit wanted best finding.NoBetter is = tt
has_proved Took rows limit wanted best (finding.Limit states least) is = tt

-- what is true of the entries that were taken is true of those that show what was found
module _ (Took Takes : List Entry → Type 0) (more : (entries : List Entry) → Took entries → Takes entries) (rows : Rows) (limit : ℕ) where
  bound_more : (wanted : Bool) (least : ℕ) → MatchBool wanted ((entries : List Entry) × Took entries × Certifies rows limit (claim.Pushes least) entries) (Took [])
      → MatchBool wanted ((entries : List Entry) × Takes entries × Certifies rows limit (claim.Pushes least) entries) (Takes [])
  bound_more true least (entries, took, shown) = (entries, more entries took, shown)
  bound_more false least none = more [] none

  pub proof_more : (wanted : Bool) (best : Option ℕ) (found : Finding) → IsFindingWithProof Took rows limit wanted best found
      → IsFindingWithProof Takes rows limit wanted best found
  proof_more wanted best (finding.Solved dirs pushes) (entries, took, shown, fewer) = (entries, more entries took, shown, fewer)
  proof_more wanted best finding.NoBetter (entries, took, is, shown) = (entries, more entries took, is, shown)
  proof_more wanted best (finding.Limit states least) (cut, fewer, shown) = (cut, fewer, bound_more wanted least shown)

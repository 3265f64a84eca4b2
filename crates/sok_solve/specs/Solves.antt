-- The answers to a level that is to be solved within a limit of states: with the fewest pushes, and fewer than a known solution has, if there is one. They have
-- a certificate or not.
use Rattle.std.specs.Prelude.{ℕ, ◌≡◌, ◌≢◌, ◌++◌, Bool, true, false, List, [], Option, Some, None, Result, Ok, Err, codes, cond, length, min, option_map}
use Rattle.std.specs.Option.{option_map_or}
use Rattle.std.specs.Fmt.{decimal}
use Rattle.sok_rules.specs.declared.cell.Dir.{Dir}
use Rattle.sok_rules.specs.Squares.{Rows}
use Rattle.sok_rules.specs.Play.{start}
use Rattle.sok_text.specs.Collections.{blocks_of, level_at}
use Rattle.sok_text.specs.Marked.{marked_text}
use Rattle.sok_board.specs.declared.fault.BoardFault.{BoardFault}
use Rattle.sok_board.specs.declared.fault.BoardFault.TheVariants as board
use Rattle.sok_board.specs.Refusals.{IsAcceptable, IsRefused}
use Rattle.sok_cert.specs.Claim.{Claim}
use Rattle.sok_cert.specs.Claim.TheVariants as claim
use Rattle.sok_cert.specs.Entry.{Entry}
use Rattle.sok_cert.specs.Text.{number_limit, text_of}
use Rattle.sok_search.specs.declared.finding.Finding.{Finding}
use Rattle.sok_search.specs.declared.finding.Finding.TheVariants.{Solved, NoBetter, Limit}
use Rattle.sok_search.specs.Faults.{IsBadLimit}
use Rattle.sok_search.specs.Findings.{IsFinding, IsFindingWithProof, claim_of}
use Rattle.sok_engine.specs.declared.fault.ToolFault.{ToolFault}
use Rattle.sok_engine.specs.declared.fault.ToolFault.TheVariants as tool
use Rattle.sok_engine.specs.Certified.{Certified, CertifiedAnswers}
use Rattle.sok_engine.specs.Faults.{of_board}
use Rattle.sok_engine.specs.Inputs.{OnLevel}
use Rattle.sok_engine.specs.Written.{Answer, Answers}
use Rattle.sok_solve.specs.declared.task.Task.{Task}

-- the pushes of the known solution, but no more than a certificate can claim
abbrev pub best_of : Task → Option ℕ
best_of task = option_map (λ below. min below number_limit) task.below

-- the line of a solution, and its marked text on a line of its own
abbrev pub solution_text : Rows → List Dir → ℕ → List ℕ
solution_text rows w pushes =
    codes "solved " ++ decimal pushes ++ codes " " ++ decimal (length w) ++ codes "\n" ++ marked_text rows (start rows) w ++ codes "\n"

-- no solution has fewer pushes than the known one, or there is none
abbrev pub no_better_text : Option ℕ → List ℕ
no_better_text (Some best) = codes "at least " ++ decimal best ++ codes "\n"
no_better_text None = codes "unsolvable\n"

-- the limit, and if it is wanted, the lower bound that the search shows
abbrev pub limit_text : ℕ → Bool → ℕ → List ℕ
limit_text limit true least = codes "limit " ++ (decimal limit ++ (codes " at least " ++ (decimal least ++ codes "\n")))
limit_text limit false least = codes "limit " ++ decimal limit ++ codes "\n"

-- the answer that reports what was found
abbrev pub answer_of : Rows → Task → Finding → Answer
answer_of rows task (Solved dirs pushes) = record { text = solution_text rows dirs.items pushes; status = 0 }
answer_of rows task NoBetter = record { text = no_better_text (best_of task); status = 0 }
answer_of rows task (Limit states least) = record { text = limit_text states task.bound least; status = 4 }

-- the claim of its certificate; at the limit there is one only with a bound
abbrev pub claim_shown : Task → Finding → Option Claim
claim_shown task (Solved dirs pushes) = Some (claim.Pushes pushes)
claim_shown task NoBetter = Some (claim_of (best_of task))
claim_shown task (Limit states least) = cond task.bound (Some (claim.Pushes least)) None

-- the text of the certificate with these entries; none without a claim
abbrev pub cert_of : Task → Finding → List Entry → List ℕ
cert_of task found entries = option_map_or (λ shown. text_of shown entries) (claim_shown task found) []

-- something is found of the level, and reported
pub record TellsFound (task : Task) (rows : Rows) (told : Answer) : Type 0 where
  pub found : Finding
  pub is : IsFinding rows task.limit (best_of task) found
  pub answer_is : told ≡ answer_of rows task found

-- the same, with the certificate whose entries show it
pub record TellsProved (task : Task) (rows : Rows) (told : Certified) : Type 0 where
  pub found : Finding
  pub shown : IsFindingWithProof (λ entries. told.cert ≡ cert_of task found entries) rows task.limit task.bound (best_of task) found
  pub answer_is : told.answer ≡ answer_of rows task found

-- the limit is refused; otherwise the level is refused; otherwise something is found of it, which becomes the answer
pub data IsAnswered {A : Type 0} (Tells : A → Type 0) (limit : ℕ) (rows : Rows) (answer : Result A ToolFault) : Type 0 where
  is_bad : IsBadLimit limit → answer ≡ Err tool.BadLimit → IsAnswered Tells limit rows answer
  is_refused : ¬ (IsBadLimit limit) → (fault : BoardFault) → fault ≢ board.Memory → IsRefused rows fault → answer ≡ Err (of_board fault)
      → IsAnswered Tells limit rows answer
  is_told : ¬ (IsBadLimit limit) → IsAcceptable rows → (told : A) → Tells told → answer ≡ Ok told → IsAnswered Tells limit rows answer

-- with a certificate, and without one
abbrev pub IsSolveAnswer : Task → Rows → CertifiedAnswers
IsSolveAnswer task rows = IsAnswered (TellsProved task rows) task.limit rows

abbrev pub IsFindAnswer : Task → Rows → Answers
IsFindAnswer task rows = IsAnswered (TellsFound task rows) task.limit rows

-- the answer to the level of a collection
abbrev pub IsSolve : Task → List ℕ → CertifiedAnswers
IsSolve task bytes = OnLevel (IsSolveAnswer task) (level_at (blocks_of bytes) task.n)

abbrev pub IsFind : Task → List ℕ → Answers
IsFind task bytes = OnLevel (IsFindAnswer task) (level_at (blocks_of bytes) task.n)

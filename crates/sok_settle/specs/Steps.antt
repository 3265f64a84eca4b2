-- How far a level is settled when a call on it ends. The proof's own words.
use Rattle.std.specs.Prelude.{ℕ, ℤ, ◌≡◌, ◌≤◌, List, Bool, Option, Result, slice_get}
use Rattle.sqlite.specs.State.{State}
use Rattle.sok_rules.specs.declared.cell.Dir.{Dir}
use Rattle.sok_rules.specs.Squares.{Rows}
use Rattle.sok_rules.specs.Play.{IsFewest, Solves, pushes, start}
use Rattle.sok_cert.specs.Claim.{Claim}
use Rattle.sok_book.specs.Books.{Book, Page, PageWithId}
use Rattle.sok_book.specs.Records.{IsRecordAt}
use Rattle.sok_engine.specs.declared.fault.ToolFault.{ToolFault}
use Rattle.sok_store.specs.Calls.{id_number}
use Rattle.sok_settle.specs.declared.settle.Span.{Span}
use Rattle.sok_settle.specs.Going.{GoesStep, Leave, MayStep, StepsOnce}
use Rattle.sok_settle.specs.Keeping.{Keeping}
use Rattle.sok_settle.specs.Settles.{IsTried, EndsLevel, SettlesBy, SettlesLevel, leave_of_level}

-- a level was gone through, and its line was written, or a front of it; or the call ends at it, with nothing written
abbrev pub StepsLevel : Keeping → ℕ → Span → ℤ → Book → Book → Option (List ℕ) → Option (List ℕ) → Result Bool ToolFault → Type 0
StepsLevel keeping limit span id = StepsOnce (SettlesLevel keeping limit span id) (leave_of_level keeping limit span id)

-- what may become of the book meanwhile
abbrev pub MaySettle : Keeping → ℕ → Span → ℤ → Book → Book → Type 0
MaySettle keeping limit span id = MayStep (SettlesLevel keeping limit span id) (leave_of_level keeping limit span id)

-- what a call on the level with an id leaves of the connection, for books of which something is true
abbrev pub GoesThrough : (Book → Type 0) → Keeping → ℕ → Span → ℤ → State → State → Option (List ℕ) → Option (List ℕ) → Result Bool ToolFault → Type 0
GoesThrough P keeping limit span id = GoesStep P (SettlesLevel keeping limit span id) (leave_of_level keeping limit span id)

-- a solution with so many pushes, and none has fewer
pub record AreFewest (rows : Rows) (w : List Dir) (n : ℕ) : Type 0 where
  pub solves : Solves rows w
  pub counted : pushes rows (start rows) w ≡ n
  pub fewest : IsFewest rows n

-- how the call may end at a level whose certificate is kept
abbrev pub leave_of_kept : Span → ℤ → Leave
leave_of_kept span id = record { leaves = EndsLevel span id; unwritten = λ book. ⊥ }

-- what a call leaves of the connection that settles such a level by its claim
abbrev pub GoesBy : Span → ℤ → Page → Claim → State → State → Option (List ℕ) → Option (List ℕ) → Result Bool ToolFault → Type 0
GoesBy span id page shown = GoesStep (IsTried span id page) (SettlesBy id page.level shown) (leave_of_kept span id)

-- this is the record of a level of the book
abbrev pub IsRecordIn : PageWithId → Book → Type 0
IsRecordIn kept book = IsRecordAt book (id_number kept.id) kept

-- the page at each place from this one on is as it was
abbrev pub StaysFrom : ℕ → Book → Book → Type 0
StaysFrom n book after = (m : ℕ) → n ≤ m → slice_get after m ≡ slice_get book m

-- An entry that is barred by what its reason says goes with its claim, which is true if each list does that solves from the start.
use Rattle.std.proofs.Common.{ℕ, ◌≤◌, ◌+◌, ◌-◌, arith, List, Option, Some, None, IsSomeAnd}
use Rattle.sok_rules.specs.Play.{Position, pushes, start}
use Rattle.sok_rules.specs.Squares.{Rows}
use Rattle.sok_rules.specs.States.{Same}
use Rattle.sok_board.specs.Area.{BoardView, IsAccepted, position_of}
use Rattle.sok_region.specs.Regions.{IsPlaced}
use Rattle.sok_bar.specs.declared.rest.Rest.{Rest}
use Rattle.sok_bar.specs.Bars.{Barring, Bars}
use Rattle.sok_bar.specs.Rests.{IsBarred}
use Rattle.sok_bar.proofs.ReasonLaws.{reasons-bar}
use Rattle.sok_closed.proofs.KnownPositions.{AllAgree}
use Rattle.sok_entry.specs.declared.claim.Claim.{Claim}
use Rattle.sok_entry.specs.declared.claim.Claim.TheVariants.{Pushes, Unsolvable}
use Rattle.sok_entry.specs.declared.entry.Entry.{Entry}
use Rattle.sok_cert.specs.Closed.{IsBarredBy, IsPosition, IsTrueOf, barring, rest_of}

-- by the law of reasons
some_bars : (b : BoardView) → IsAccepted b → (player : ℕ) (boxes : List ℕ) (rest : Rest) → IsPlaced b boxes player → (reason : Option Barring)
    → IsSomeAnd reason (λ one. Bars b player boxes one rest) → IsBarred b player boxes rest
some_bars b accepted player boxes rest placed None none = absurd none
some_bars b accepted player boxes rest placed (Some reason) bars = reasons-bar b accepted player boxes reason rest placed bars

pub IsBarred-entry : (b : BoardView) → IsAccepted b → (claim : Claim) (e : Entry) → IsPosition b e → IsBarredBy b claim e
    → IsBarred b e.player e.boxes (rest_of claim e.depth)
IsBarred-entry b accepted claim e position bars = some_bars b accepted e.player e.boxes (rest_of claim e.depth) position.placed (barring e.reason) bars

-- a list that solves with so many pushes, after as many as its entry is deep, goes with a claim
abbrev pub Agrees : Claim → ℕ → ℕ → Type 0
Agrees (Pushes k) depth n = k ≤ depth + n
Agrees Unsolvable depth n = ⊥

-- pushes that come before
pub Agrees-more : (claim : Claim) (depth next more n : ℕ) → next ≤ depth + more → Agrees claim next n → Agrees claim depth (more + n)
Agrees-more (Pushes k) depth next more n near agrees = omega (arith, near, agrees)
Agrees-more Unsolvable depth next more n near agrees = agrees

-- at a greater depth
pub Agrees-deeper : (claim : Claim) (near far n : ℕ) → near ≤ far → Agrees claim near n → Agrees claim far n
Agrees-deeper (Pushes k) near far n deeper agrees = omega (arith, deeper, agrees)
Agrees-deeper Unsolvable near far n deeper agrees = agrees

-- from no position of a barred state does a list solve that goes against the claim
pub Agrees-barred : (b : BoardView) (claim : Claim) (depth player : ℕ) (boxes : List ℕ) → IsBarred b player boxes (rest_of claim depth)
    → (x : Position) → Same b.rows (position_of b player boxes) x → AllAgree b.rows (Agrees claim) depth x
Agrees-barred b (Pushes k) depth player boxes barred x same w solves = let bound : k - depth ≤ pushes b.rows x w = barred.each x same w solves in
    omega (arith, bound)
Agrees-barred b Unsolvable depth player boxes barred x same w solves = barred.each x same w solves

-- a claim with which each list goes that solves from the start
pub IsTrueOf-agrees : (rows : Rows) (claim : Claim) → AllAgree rows (Agrees claim) 0 (start rows) → IsTrueOf rows claim
IsTrueOf-agrees rows (Pushes k) agree = λ w solves. let bound : k ≤ 0 + pushes rows (start rows) w = agree w solves in omega (arith, bound)
IsTrueOf-agrees rows Unsolvable agree = agree

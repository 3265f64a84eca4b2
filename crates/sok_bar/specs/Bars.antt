-- The reasons for barring a position: what each of them claims, and what it shows.
use Rattle.std.specs.Prelude.{ℕ, ◌≡◌, ◌↔◌, Bool, List, Option, Some, None, Result, IfOk, IsOkAnd, IsTrue}
use Rattle.sok_rules.specs.declared.fault.Memory.{Memory}
use Rattle.sok_board.specs.Area.{BoardView}
use Rattle.sok_region.specs.Regions.{IsPlaced}
use Rattle.sok_price.specs.Prices.{Priced, IsCrowd}
use Rattle.sok_entry.specs.declared.entry.Inner.{Inner}
use Rattle.sok_entry.specs.declared.entry.Reason.{Reason}
use Rattle.sok_entry.specs.declared.entry.Reason.TheVariants.{Expanded, Spent, Bound, Crowd, Frozen, Pattern}
use Rattle.sok_bar.specs.declared.rest.Rest.{Rest}
use Rattle.sok_bar.specs.declared.rest.Rest.TheVariants.{AtLeast, Never}
use Rattle.sok_bar.specs.Jam.{IsJam}
use Rattle.sok_bar.specs.Patterns.{IsPattern}
use Rattle.sok_bar.specs.Rests.{IsBarred}

-- A reason for barring a position, with its numbers: prices u of the boxes and v of the goals, or members of the boxes, for a pattern with positions of these
-- alone.
pub data Barring : Type 0 where
  spent : Barring
  bound : (u v : List ℕ) → Barring
  crowd : (members : List ℕ) → Barring
  frozen : (members : List ℕ) → Barring
  pattern : (members : List ℕ) (inner : List Inner) → Barring

-- What a reason claims of a position with a player and these boxes. Spent: no more pushes are asked for. Bound: the prices bound the pushes, which never shows
-- that there is no solution. The others: the members are a crowd, a jam or a pattern, whatever is to be shown.
abbrev pub Bars : BoardView → ℕ → List ℕ → Barring → Rest → Type 0
Bars b player boxes Barring.spent (AtLeast n) = n ≡ 0
Bars b player boxes Barring.spent Never = ⊥
Bars b player boxes (Barring.bound u v) (AtLeast n) = Priced b boxes u v n
Bars b player boxes (Barring.bound u v) Never = ⊥
Bars b player boxes (Barring.crowd members) rest = IsCrowd b boxes members
Bars b player boxes (Barring.frozen members) rest = IsJam b boxes members
Bars b player boxes (Barring.pattern members inner) rest = IsPattern b player boxes members inner

-- the result is whether the claim is true; only the check of a pattern may fail for want of memory
abbrev pub IsJudged : BoardView → ℕ → List ℕ → Barring → Rest → Result Bool Memory → Type 0
IsJudged b player boxes (Barring.pattern members inner) rest result = IfOk result (λ holds. IsTrue holds ↔ IsPattern b player boxes members inner)
IsJudged b player boxes reason rest result = IsOkAnd result (λ holds. IsTrue holds ↔ Bars b player boxes reason rest)

-- a reason about the boxes alone, wherever the player stands
abbrev pub IsOfBoxes : Barring → Type 0
IsOfBoxes Barring.spent = Unit {0}
IsOfBoxes (Barring.bound u v) = Unit {0}
IsOfBoxes (Barring.crowd members) = Unit {0}
IsOfBoxes (Barring.frozen members) = Unit {0}
IsOfBoxes (Barring.pattern members inner) = ⊥

-- the reason that bars an entry, or None for an expanded one
abbrev pub barring : Reason → Option Barring
barring Expanded = None
barring Spent = Some Barring.spent
barring (Bound u v) = Some (Barring.bound u v)
barring (Crowd members) = Some (Barring.crowd members)
barring (Frozen members) = Some (Barring.frozen members)
barring (Pattern members inner) = Some (Barring.pattern members inner)

-- the law of reasons: if a reason's claim is true of a position, what is still to be shown is true of it
abbrev pub ReasonsBar : BoardView → Type 0
ReasonsBar b = (player : ℕ) (boxes : List ℕ) (reason : Barring) (rest : Rest) → IsPlaced b boxes player → Bars b player boxes reason rest
    → IsBarred b player boxes rest

-- What a scan has found, in texts of which some bytes have come.
use Rattle.std.specs.Prelude.{ℕ, ◌≡◌, ◌+◌, ◌<◌, ◌≤◌, ◌^◌, List, ◌++◌, length, take}
use Rattle.std.specs.Str.Lines.{lines}
use Rattle.sok_text.specs.Lines.{IsUnended}
use Rattle.sok_near.specs.NearLines.{near_from}
use Rattle.sok_near.specs.declared.near.NearLine.{NearLine}
use Rattle.sok_near.specs.declared.scan.NearScan.{NearScan}

-- these lines were found: the scan has the first ten, and how many there are
pub record HasFound (all : List NearLine) (scan : NearScan) : Type 0 where
  pub first : scan.first.items ≡ take 10 all
  pub count : scan.count ≡ length all

-- a text that comes after others in which these lines were found, and is short enough to be counted with them
abbrev pub IsShort : List NearLine → List ℕ → Type 0
IsShort before text = length before + length text < 2 ^ 63

-- This text has come after others in which the lines `before` were found. It consists of lines that have ended, and the front of one that has not. Whatever
-- follows, the lines of the text are those that have ended, followed by the lines from that front on.
pub record HasPassed (before : List NearLine) (text : List ℕ) (scan : NearScan) : Type 0 where
  pub done : List (List ℕ)
  pub front : List ℕ
  pub cut : (more : List ℕ) → lines (text ++ more) ≡ done ++ lines (front ++ more)
  pub unended : IsUnended front
  pub fits : length done + length front ≤ length text
  pub kept : scan.front.items ≡ take 1002 front
  pub ended : scan.ended ≡ length done
  pub found : HasFound (before ++ near_from 1 done) scan

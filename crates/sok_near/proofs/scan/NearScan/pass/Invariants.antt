use Rattle.std.proofs.Common.{ℕ, List, ◌++◌, take}
use Rattle.sok_near.specs.Scans.{HasPassed, IsShort}
use Rattle.sok_near.specs.declared.near.NearLine.{NearLine}
use Rattle.sok_near.proofs.scan.NearScan.pass.Given as goal

abbrev pub invariant-loop-byte : goal.invariant-loop-byte
invariant-loop-byte l = (before : List NearLine) (text : List ℕ) → IsShort before (text ++ l.bytes) → HasPassed before text l.initial.self
    → HasPassed before (text ++ take l.byte-index l.bytes) l.self

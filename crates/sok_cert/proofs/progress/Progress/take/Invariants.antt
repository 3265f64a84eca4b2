use Rattle.std.proofs.Common.{length}
use Rattle.sok_cert.specs.Parts.{IsRosterOf, IsTaken, progressed_of}
use Rattle.sok_cert.proofs.progress.Progress.take.Given as goal

abbrev pub invariant-loop-part : goal.invariant-loop-part
invariant-loop-part l = record {
  taken : IsTaken l.setting.board.now (progressed_of l.initial.self) (progressed_of l.self) l.piece l.rest;
  of_board : IsRosterOf l.setting.board.now l.self.roster;
}

abbrev pub decreases-loop-part : goal.decreases-loop-part
decreases-loop-part l = length l.rest

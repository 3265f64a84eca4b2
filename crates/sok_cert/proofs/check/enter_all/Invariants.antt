use Rattle.std.proofs.Common.{take}
use Rattle.sok_cert.specs.Parts.{IsRosterOf}
use Rattle.sok_cert.specs.Rosters.{TellsEntries}
use Rattle.sok_cert.proofs.check.enter_all.Given as goal

abbrev pub invariant-loop-entry : goal.invariant-loop-entry
invariant-loop-entry l = record {
  tells : TellsEntries l.setting.board.now l.claim (take l.entry-index l.entries) l.roster.roll l.roster.fault;
  of_board : IsRosterOf l.setting.board.now l.roster;
}

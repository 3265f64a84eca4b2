use Rattle.std.proofs.Common.{rules}
use Rattle.sok_cert.proofs.roster.Roster.new.Goals as goal

pub returns-clause-of_board : goal.returns-clause-of_board
returns-clause-of_board c = record { roll = search rules; memo = c.new-2.ensures c.args.board.now; normalizes = c.new-3.ensures.of_board }

use Rattle.sok_price.proofs.Words.{AreSet, HasRoom, IsWhole, length}
use Rattle.sok_price.proofs.settle.settle.Given as goal

abbrev pub invariant-setting : goal.invariant-setting
invariant-setting l = IsWhole l.costs l.rows.items l.search × AreSet l.squares l.costs l.fn.rows.items l.rows.items × HasRoom (length l.rows.items) l.search

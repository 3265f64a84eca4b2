use Rattle.sok_book.proofs.Blocks.{exports-read-back}
use Rattle.sok_book.proofs.export.exports_read_back.Goals as goal

pub returns : goal.returns
returns c = exports-read-back

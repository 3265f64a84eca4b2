use Rattle.std.proofs.Common.{rules}
use Rattle.sok_store.proofs.book.Book.into_connection.Goals as goal

pub returns : goal.returns
returns g c = search rules

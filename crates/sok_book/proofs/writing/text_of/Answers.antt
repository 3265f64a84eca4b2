use Rattle.std.proofs.Common.{sym, subst}
use Rattle.std.specs.Str.{IsUtf8}
use Rattle.sok_book.proofs.Ascii.{IsUtf8-level_text}
use Rattle.sok_book.proofs.writing.text_of.Goals as goal

pub unwrap-requires : goal.unwrap-requires
unwrap-requires c = c.from_utf8.ensures.succeeds (subst IsUtf8 (sym c.in_ok-bytes.ensures) (IsUtf8-level_text c.args.level.now))

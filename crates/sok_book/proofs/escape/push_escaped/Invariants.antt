use Rattle.std.proofs.Common.{◌≡◌, ◌++◌, drop}
use Rattle.sok_book.specs.Escapes.{escaped, escaped_behind}
use Rattle.sok_book.proofs.escape.push_escaped.Given as goal

-- the text so far, and the bytes that are left, are all of it
abbrev pub invariant-loop-byte : goal.invariant-loop-byte
invariant-loop-byte l =
    l.text.items ++ escaped_behind l.held (drop l.byte-index l.bytes) ≡ l.initial.text.items ++ escaped l.bytes

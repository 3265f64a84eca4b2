-- The text of a certificate, as it is made while its entries are found.
use Rattle.std.specs.Prelude.{ℕ, ◌≡◌, List}
use Rattle.std.specs.List.{flat_map, list_any}
use Rattle.sok_cert.specs.Entry.{Entry}
use Rattle.sok_cert.specs.Text.{ended, entry_lines, is_pattern}
use Rattle.sok_solve.specs.declared.certificate.EntryLines.{EntryLines}

-- the lines of entries
abbrev pub text_of_entries : List Entry → List ℕ
text_of_entries entries = flat_map ended (flat_map entry_lines entries)

-- the lines of these entries were taken
pub record HasLines (taken : EntryLines) (entries : List Entry) : Type 0 where
  pub patterns : taken.has_pattern ≡ list_any (λ (e : Entry). is_pattern e.reason) entries
  pub lines : taken.lines.items ≡ text_of_entries entries

-- The certificates in files of the levels of a book that are settled.
use Rattle.std.specs.Prelude.{ℕ, ℤ, ◌≡◌, ◌≢◌, ◌⊎◌, List, Option, Some, None, IfSome, IsSomeAnd}
use Rattle.std.specs.Io.KnownBytes.{Appends}
use Rattle.sok_rules.specs.Squares.{Rows}
use Rattle.sok_cert.specs.Claim.{Claim}
use Rattle.sok_cert.specs.Entry.{Entry}
use Rattle.sok_cert.specs.Text.{text_of}
use Rattle.sok_search.specs.Outcomes.{Certifies}
use Rattle.sok_engine.specs.declared.fault.ToolFault.{ToolFault}
use Rattle.sok_engine.specs.declared.fault.ToolFault.TheVariants as tool
use Rattle.sok_engine.specs.Certified.{Bytes}
use Rattle.sok_files.specs.Files.{Files, cert_path}
use Rattle.sok_settle.specs.Keeping.{Keeping, no_certs}

-- A text was written to a file made at a path, which is not the database's and had no whole certificate. Or the file at the path exists and its bytes are the
-- text.
abbrev pub KeepsText : Files Bytes → List ℕ → List ℕ → List ℕ → Type 0
KeepsText files db path text =
    ((made : Bytes) × (path ≢ db) × files.lacks_certificate path × files.makes path made × Appends made.old made.new text)
    ⊎ ((known : Option (List ℕ)) × files.reads path known × IfSome known (λ all. all ≡ text))

-- A certificate that shows a claim about these rows, with at most `limit` entries, is kept in a folder as that of the level with an id.
pub record KeepsCert (files : Files Bytes) (db folder : List ℕ) (limit : ℕ) (id : ℤ) (rows : Rows) (shown : Claim) : Type 0 where
  pub entries : List Entry
  pub certified : Certifies rows limit shown entries
  pub kept : KeepsText files db (cert_path folder id) (text_of shown entries)

-- a certificate was found, with at most `limit` entries
abbrev pub FindsCert : ℕ → ℤ → Rows → Type 0
FindsCert limit id rows = (shown : Claim) × (entries : List Entry) × Certifies rows limit shown entries

-- the certificates in the files of a folder, beside the database of their book
abbrev pub keeping_in : Files Bytes → List ℕ → List ℕ → Keeping
keeping_in files db folder = record { keeps = KeepsCert files db folder; unwritten = FindsCert }

-- the same if a folder is given, and otherwise no certificates
abbrev pub keeping_of : Files Bytes → List ℕ → Option (List ℕ) → Keeping
keeping_of files db (Some folder) = keeping_in files db folder
keeping_of files db None = no_certs

-- a folder is given, and it can't be used: no files can be made in it
abbrev pub IsFolderless : Files Bytes → Option (List ℕ) → ToolFault → Type 0
IsFolderless files folder told = IsSomeAnd folder files.lacks_folder × (told ≡ tool.WriteFailed)

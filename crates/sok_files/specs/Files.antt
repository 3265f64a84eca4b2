-- What is known of files by their paths.
use Rattle.std.specs.Prelude.{ℕ, ℤ, ◌≡◌, List, ◌++◌, Option, IfSome, codes, ⊤}
use Rattle.std.specs.Fmt.{signed_decimal}
use Rattle.sok_engine.specs.Certified.{Bytes}
use Rattle.sok_engine.specs.Inputs.{OfReader}
use Rattle.sok_engine.specs.Written.{AnswersOf}

-- the answers to the bytes of an opened file
abbrev pub OfFile : {A : Type 0} → (Option (List ℕ) → Type 0) → (List ℕ → AnswersOf A) → AnswersOf A
OfFile reads P answer = (known : Option (List ℕ)) × reads known × OfReader known P answer

-- The answers to the bytes of two opened files. The second holds `text`, which is all of its bytes if these are known.
abbrev pub OfFiles : {A : Type 0} → (Option (List ℕ) → Type 0) → (Option (List ℕ) → Type 0) → (List ℕ → List ℕ → AnswersOf A) → AnswersOf A
OfFiles reads reads_text P answer =
    (known : Option (List ℕ)) × reads_text known × (text : List ℕ) × IfSome known (λ all. text ≡ all) × OfFile reads (P text) answer

-- the bytes of a file that was made: when it was made, and at the end
abbrev pub IsMade : {O : Type 0} → (O → Option (List ℕ)) → (O → Type 0) → Bytes → Type 0
IsMade {O} contents makes bytes = (file : O) × (after : O) × makes file × (bytes ≡ record { old = contents file; new = contents after })

-- the path of the certificate of the level with an id, in a folder
abbrev pub cert_path : List ℕ → ℤ → List ℕ
cert_path folder id = folder ++ (codes "/" ++ (signed_decimal id ++ codes ".cert"))

-- What is known of the files at all paths. A file that is made there is an `M`.
pub record Files (M : Type 0) : Type 1 where
  -- a file that is opened at this path may have these bytes left, as far as they are known
  pub reads : List ℕ → Option (List ℕ) → Type 0
  -- there may be no file at this path that can be opened
  pub lacks : List ℕ → Type 0
  -- this may be the file that is made at this path
  pub makes : List ℕ → M → Type 0
  -- there was no whole certificate at this path
  pub lacks_certificate : List ℕ → Type 0
  -- there may be no folder at this path in which files can be made
  pub lacks_folder : List ℕ → Type 0
  -- the file at this path may be made, emptied or removed
  pub may_make : List ℕ → Type 0

-- nothing is known of the files, and each may be made, emptied or removed
abbrev pub unknown_files : {M : Type 0} → Files M
unknown_files = record {
  reads = λ path known. ⊤;
  lacks = λ path. ⊤;
  makes = λ path made. ⊤;
  lacks_certificate = λ path. ⊤;
  lacks_folder = λ path. ⊤;
  may_make = λ path. ⊤;
}

-- the same files, with another view of those that are made
abbrev pub with_makes : {M N : Type 0} → Files M → (List ℕ → N → Type 0) → Files N
with_makes files makes = record {
  reads = files.reads;
  lacks = files.lacks;
  makes = makes;
  lacks_certificate = files.lacks_certificate;
  lacks_folder = files.lacks_folder;
  may_make = files.may_make;
}

-- the same files, with those that are made seen by their bytes
abbrev pub files_by : {O : Type 0} → (O → Option (List ℕ)) → Files O → Files Bytes
files_by contents files = with_makes files (λ path. IsMade contents (files.makes path))

-- all certificates of a folder may be made
abbrev pub MayKeep : {M : Type 0} → Files M → List ℕ → Type 0
MayKeep files folder = (id : ℤ) → files.may_make (cert_path folder id)

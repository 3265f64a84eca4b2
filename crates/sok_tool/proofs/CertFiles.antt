-- A certificate is kept in a file of a folder, or is not.
use Rattle.std.proofs.Common.{ℕ, ℤ, ◌≡◌, ◌⊎◌, inl, inr, List, Result, Ok, Err, MatchResult, subst, sym}
use Rattle.sok_rules.specs.Squares.{Rows}
use Rattle.sok_cert.specs.Claim.{Claim}
use Rattle.sok_cert.specs.Entry.{Entry}
use Rattle.sok_cert.specs.Text.{text_of}
use Rattle.sok_search.specs.Outcomes.{Certifies}
use Rattle.sok_engine.specs.declared.fault.ToolFault.{ToolFault}
use Rattle.sok_engine.specs.declared.fault.ToolFault.TheVariants as tool
use Rattle.sok_engine.specs.Certified.{Bytes}
use Rattle.sok_files.specs.Files.{Files, cert_path}
use Rattle.sok_settle.specs.Keeping.{TellsKept}
use Rattle.sok_tool.specs.Certs.{KeepsText, keeping_in}

module _ (files : Files Bytes) (db folder : List ℕ) (limit : ℕ) (id : ℤ) (rows : Rows) (shown : Claim) (entries : List Entry)
    (certified : Certifies rows limit shown entries) where
  -- the text of a certificate is kept at its path, or memory or a file was refused
  pub TellsKept-text : {X : Type 0} (path text : List ℕ) (result : Result X ToolFault) → path ≡ cert_path folder id → text ≡ text_of shown entries
      → MatchResult result (λ _. KeepsText files db path text) (λ fault. (fault ≡ tool.Memory) ⊎ (fault ≡ tool.WriteFailed))
      → TellsKept (keeping_in files db folder) limit id rows shown result
  TellsKept-text path text (Ok x) path_is text_is kept = record {
    entries = entries;
    certified = certified;
    kept = subst (λ p. KeepsText files db p (text_of shown entries)) path_is (subst (KeepsText files db path) text_is kept);
  }
  TellsKept-text {X = X} path text (Err fault) path_is text_is (inl is) =
      subst (λ f. TellsKept {X = X} (keeping_in files db folder) limit id rows shown (Err f)) (sym is) tt
  TellsKept-text {X = X} path text (Err fault) path_is text_is (inr is) =
      subst (λ f. TellsKept {X = X} (keeping_in files db folder) limit id rows shown (Err f)) (sym is)
      (shown, entries, certified)

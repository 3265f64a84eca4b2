-- A fault of a certificate's text or of its list, as a fault of the book.
use Rattle.std.proofs.Common.{◌≡◌, ◌⊎◌, inl, inr, refl, ap, subst, ℕ, List, Option}
use Rattle.sok_board.specs.Area.{BoardView}
use Rattle.sok_cert.specs.CertFault.{CertFault}
use Rattle.sok_cert.specs.CertFault.TheVariants as cert
use Rattle.sok_cert.specs.Claim.{Claim}
use Rattle.sok_cert.specs.Claim.TheVariants.{Pushes, Unsolvable}
use Rattle.sok_cert.specs.Entry.{Entry}
use Rattle.sok_cert.specs.Reading.{GoesWrong}
use Rattle.sok_cert.specs.Text.{SpellsCertificate}
use Rattle.sok_cert.specs.Verdicts.{IsRefusedText}
use Rattle.sok_cert.proofs.Readings.{Spells-one}
use Rattle.sok_book.specs.Commands.{Meets}
use Rattle.sok_book.specs.declared.fault.BookFault.{BookFault}
use Rattle.sok_book.specs.declared.fault.BookFault.TheVariants as book
use Rattle.sok_book.specs.Faults.{of_certificate}
use Rattle.sok_book.specs.Refusals.{Differs, IsNoProof}

pub IsNoProof-text : (b : BoardView) (best : Option ℕ) (bytes : List ℕ) (fault : CertFault) → (fault ≡ cert.Memory) ⊎ GoesWrong bytes fault
    → (of_certificate fault ≡ book.Memory) ⊎ IsNoProof b best bytes (of_certificate fault)
IsNoProof-text b best bytes fault (inl same) = inl (ap of_certificate same)
IsNoProof-text b best bytes cert.Memory (inr wrong) = inl refl
IsNoProof-text b best bytes fault (inr wrong) = inr ((λ e. cc), inl wrong)

-- the certificate that the text spells is about the best
pub IsNoProof-list : (b : BoardView) (best : Option ℕ) (bytes : List ℕ) (claim : Claim) (entries : List Entry) (fault : CertFault)
    → SpellsCertificate bytes claim entries → Meets claim best → (fault ≡ cert.Memory) ⊎ IsRefusedText b bytes fault
    → (of_certificate fault ≡ book.Memory) ⊎ IsNoProof b best bytes (of_certificate fault)
IsNoProof-list b best bytes claim entries fault spelled meets (inl same) = inl (ap of_certificate same)
IsNoProof-list b best bytes claim entries cert.Memory spelled meets (inr unshown) = inl refl
IsNoProof-list b best bytes claim entries fault spelled meets (inr unshown) = inr (
  (λ e. cc),
  inr (record {
    claim = unshown.claim;
    entries = unshown.entries;
    spelled = unshown.spelled;
    meets = subst (λ c. Meets c best) (Spells-one bytes claim unshown.claim entries unshown.entries spelled unshown.spelled).0 meets;
    refused = unshown.refused;
  }),
)

-- the certificate that the text spells is not about the best
pub IsNoProof-claim : (b : BoardView) (best : Option ℕ) (bytes : List ℕ) (claim : Claim) (entries : List Entry) (fault : BookFault)
    → SpellsCertificate bytes claim entries → Differs claim best fault → IsNoProof b best bytes fault
IsNoProof-claim b best bytes (Pushes k) entries book.NoBest spelled differs = (Pushes k, entries, spelled, differs)
IsNoProof-claim b best bytes (Pushes k) entries book.ClaimDiffers spelled differs = (Pushes k, entries, spelled, differs)
IsNoProof-claim b best bytes (Pushes k) entries fault spelled differs = absurd differs
IsNoProof-claim b best bytes Unsolvable entries book.ClaimDiffers spelled differs = (Unsolvable, entries, spelled, differs)
IsNoProof-claim b best bytes Unsolvable entries fault spelled differs = absurd differs

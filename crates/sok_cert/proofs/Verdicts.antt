-- The text of a certificate has one verdict on a board.
use Rattle.std.proofs.Common.{ℕ, ◌≡◌, ◌≢◌, inl, inr, List, Result, Ok, Err, ap, subst}
use Rattle.sok_board.specs.Area.{BoardView}
use Rattle.sok_entry.specs.declared.claim.Claim.{Claim}
use Rattle.sok_entry.specs.declared.fault.CertFault.{CertFault}
use Rattle.sok_entry.specs.declared.fault.CertFault.TheVariants.{Memory}
use Rattle.sok_entry.proofs.Readings.{Spells-one, GoesWrong-one, Spells-GoesWrong}
use Rattle.sok_cert.specs.Refusals.{IsRefused}
use Rattle.sok_cert.specs.Verdicts.{IsProofOf, IsRefusedText, IsVerdict}
use Rattle.sok_cert.proofs.OneRefusal.{IsRefused-closed, IsRefused-one}

shown-unshown : (b : BoardView) (text : List ℕ) (claim : Claim) (fault : CertFault) → fault ≢ Memory → IsProofOf b text claim
    → IsRefusedText b text fault → ⊥
shown-unshown b text claim fault ample shown unshown =
    let same = Spells-one text unshown.claim claim unshown.entries shown.entries unshown.spelled shown.spelled in
    let here = subst (λ c. IsRefused b c unshown.entries fault) same.0 unshown.refused in
    IsRefused-closed b claim shown.entries fault ample shown.closed (subst (λ es. IsRefused b claim es fault) same.1 here)

IsUnshown-one : (b : BoardView) (text : List ℕ) (f g : CertFault) → f ≢ Memory → g ≢ Memory → IsRefusedText b text f → IsRefusedText b text g
    → f ≡ g
IsUnshown-one b text f g f_is g_is a c =
    let same = Spells-one text a.claim c.claim a.entries c.entries a.spelled c.spelled in
    let here = subst (λ claim. IsRefused b claim a.entries f) same.0 a.refused in
    IsRefused-one b c.claim c.entries f g f_is g_is (subst (λ es. IsRefused b c.claim es f) same.1 here) c.refused

pub IsVerdict-one : (b : BoardView) (text : List ℕ) (v w : Result Claim CertFault) → IsVerdict b text v → IsVerdict b text w → v ≡ w
IsVerdict-one b text (Ok c) (Ok d) is_v is_w = ap Ok (Spells-one text c d is_v.entries is_w.entries is_v.spelled is_w.spelled).0
IsVerdict-one b text (Ok c) (Err g) is_v (g_is, inl wrong) = absurd (Spells-GoesWrong text c is_v.entries g is_v.spelled wrong)
IsVerdict-one b text (Ok c) (Err g) is_v (g_is, inr unshown) = absurd (shown-unshown b text c g g_is is_v unshown)
IsVerdict-one b text (Err f) (Ok d) (f_is, inl wrong) is_w = absurd (Spells-GoesWrong text d is_w.entries f is_w.spelled wrong)
IsVerdict-one b text (Err f) (Ok d) (f_is, inr unshown) is_w = absurd (shown-unshown b text d f f_is is_w unshown)
IsVerdict-one b text (Err f) (Err g) (f_is, inl f_wrong) (g_is, inl g_wrong) = ap Err (GoesWrong-one text f g f_wrong g_wrong)
IsVerdict-one b text (Err f) (Err g) (f_is, inl wrong) (g_is, inr unshown) =
    absurd (Spells-GoesWrong text unshown.claim unshown.entries f unshown.spelled wrong)
IsVerdict-one b text (Err f) (Err g) (f_is, inr unshown) (g_is, inl wrong) =
    absurd (Spells-GoesWrong text unshown.claim unshown.entries g unshown.spelled wrong)
IsVerdict-one b text (Err f) (Err g) (f_is, inr a) (g_is, inr c) = ap Err (IsUnshown-one b text f g f_is g_is a c)

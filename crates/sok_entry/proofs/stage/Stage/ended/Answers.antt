use Rattle.std.proofs.Common.{◌≢◌, ◌<◌, ◌+◌, ◌∙◌, codes, length, refl, sym, subst}
use Rattle.std.proofs.lemmas.Bool.Decides.{Decides-eqb}
use Rattle.std.proofs.lemmas.Slice.Eq.{slice_eq-Decides}
use Rattle.sok_text.proofs.Runs.{not_empty}
use Rattle.sok_entry.specs.declared.fault.CertFault.TheVariants.{Line}
use Rattle.sok_entry.specs.Text.{last_line}
use Rattle.sok_entry.specs.Reading.{GoesWrong, IsClaimLine, Tells}
use Rattle.sok_entry.specs.Stages.{IsStage, MayClaim}
use Rattle.sok_entry.proofs.EntryNumbers.{no_elements}
use Rattle.sok_entry.proofs.Stages.{ended-header, ended-claim, ended-no_claim, ended-last, ended-cut, ended-inner, ended-end, ended-behind}
use Rattle.sok_entry.proofs.stage.Stage.ended.Goals as goal

pub returns-in-AtHeader : goal.returns-in-AtHeader
returns-in-AtHeader c = λ text ls es count split at. ended-header ls es text c.args.rest.now split (subst (IsStage ls es) c.in-AtHeader.is at)

pub returns-in-Some : goal.returns-in-Some
returns-in-Some c = λ text ls es count split at.
    let is = subst (Tells (IsClaimLine c.args.rest.now)) c.in-Some.is c.claim_of_line.ensures in
    ended-claim ls es text c.args.rest.now split c.in-AtClaim.field-0 c.in-Some.field-0 (subst (IsStage ls es) c.in-AtClaim.is at) is

pub returns-in-None : goal.returns-in-None
returns-in-None c = λ text ls es count split at.
    let none = subst (Tells (IsClaimLine c.args.rest.now)) c.in-None.is c.claim_of_line.ensures in
    ended-no_claim ls es text c.args.rest.now split c.in-AtClaim.field-0 (subst (IsStage ls es) c.in-AtClaim.is at) none

pub returns-then-eq : goal.returns-then-eq
unfolding last_line
returns-then-eq c = λ text ls es count split at.
    let rest = c.args.rest.now in
    let claim = c.in-AtEntries.claim in
    let last = (slice_eq-Decides Decides-eqb rest (codes "end") c.eq.result c.eq.ensures).0 c.if-eq.true in (
      ended-last ls es text rest split c.in-AtEntries.field-0 claim (subst (IsStage ls es) c.in-AtEntries.is at) last,
      subst (λ stage. MayClaim stage claim) (sym c.in-AtEntries.is) refl,
    )

pub returns-else-eq : goal.returns-else-eq
unfolding last_line
returns-else-eq c = λ text ls es count split at.
    let rest = c.args.rest.now in
    let is_end = (slice_eq-Decides Decides-eqb rest (codes "end") c.eq.result c.eq.ensures).1 in
    let not_last : rest ≢ last_line = λ last. let yes = is_end last in cc in
    ended-cut ls es text rest split c.in-AtEntries.field-0 c.in-AtEntries.claim (subst (IsStage ls es) c.in-AtEntries.is at) not_last

pub returns-in-AtInner : goal.returns-in-AtInner
returns-in-AtInner c = λ text ls es count split at.
    let stage = subst (IsStage ls es) c.in-AtInner.is at in
    ended-inner ls es text c.args.rest.now split c.in-AtInner.claim c.in-AtInner.head c.in-AtInner.inner.items stage.0 stage.1

pub returns-then-is_empty : goal.returns-then-is_empty
returns-then-is_empty c = λ text ls es count split at.
    let rest = c.args.rest.now in
    let claim = c.in-AtEnd.claim in (
      ended-end ls es text rest split claim (subst (IsStage ls es) c.in-AtEnd.is at)
          (no_elements rest (sym c.is_empty.ensures ∙ c.if-is_empty.true)),
      subst (λ stage. MayClaim stage claim) (sym c.in-AtEnd.is) refl,
    )

pub returns-else-is_empty : goal.returns-else-is_empty
returns-else-is_empty c = λ text ls es count split at.
    let rest = c.args.rest.now in
    let some : 0 < length rest = not_empty rest (sym c.is_empty.ensures ∙ c.if-is_empty.false) in
    subst (λ n. GoesWrong text (Line (n + 1))) count
    (ended-behind ls es text rest split c.in-AtEnd.claim (subst (IsStage ls es) c.in-AtEnd.is at) some)

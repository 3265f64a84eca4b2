use Rattle.std.proofs.Common.{◌≤◌, ◌+◌, ◌∷◌, ◌++◌, [], All, length, sym, ap, subst, arith}
use Rattle.std.proofs.lemmas.List.{length_push}
use Rattle.std.proofs.lemmas.List.Elements.{All-push}
use Rattle.std.proofs.lemmas.Result.{IfOk-weaker}
use Rattle.sok_entry.specs.declared.fault.CertFault.TheVariants.{Line}
use Rattle.sok_entry.specs.declared.version.Version.TheVariants.{Two}
use Rattle.sok_entry.specs.Text.{FitsInner}
use Rattle.sok_entry.specs.Reading.{IsInnerLine, Tells, unfinished_lines}
use Rattle.sok_entry.specs.Stages.{AreRead, AreWrong}
use Rattle.sok_entry.proofs.Stages.{IsRead-inner, read-inner, wrong-inner}
use Rattle.sok_entry.proofs.stage.at_inner.Goals as goal

pub returns-in_ok-push-in-Some : goal.returns-in_ok-push-in-Some
returns-in_ok-push-in-Some c = λ ls es count (unfinished, at).
    let claim = c.args.claim in
    let head = c.args.head in
    let inner = c.args.inner.items in
    let line = c.args.line.now in
    let position = c.in-Some.position in
    let is = subst (Tells (IsInnerLine line)) c.in-Some.is c.in_ok-position.ensures in
    let pushed = sym c.in_ok-push-in-Some.ensures.items in
    let fits = subst (All FitsInner) pushed (All-push FitsInner inner position unfinished.inner_fits is.0) in
    let short : length c.push.new.self.items ≤ head.count =
    omega (arith, ap length c.in_ok-push-in-Some.ensures.items, length_push inner position, unfinished.more_belong) in
    let read = subst (λ all. AreRead (ls ++ line ∷ []) Two claim es (unfinished_lines head all)) pushed (read-inner ls es line claim head inner position at is) in
    IfOk-weaker c.inside.result _ _ (λ told is. IsRead-inner (ls ++ line ∷ []) es claim head c.args.inner told
    (is (ls ++ line ∷ []) es unfinished.head_fits fits short read)) c.inside.ensures

pub returns-in-None : goal.returns-in-None
returns-in-None c = λ ls es count (unfinished, at).
    let line = c.args.line.now in
    let none = subst (Tells (IsInnerLine line)) c.in-None.is c.in_ok-position.ensures in
    subst (λ n. AreWrong (ls ++ line ∷ []) (Line (n + 1))) count
    (wrong-inner ls es line c.args.claim c.args.head c.args.inner.items unfinished at none)

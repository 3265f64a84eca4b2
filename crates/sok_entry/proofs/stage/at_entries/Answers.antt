use Rattle.std.proofs.Common.{◌≢◌, ◌≤◌, ◌+◌, ◌∷◌, ◌++◌, ◌∙◌, [], All, Some, codes, length, sym, ap, subst, arith}
use Rattle.std.proofs.lemmas.Bool.Decides.{Decides-eqb}
use Rattle.std.proofs.lemmas.List.Elements.{All-nil}
use Rattle.std.proofs.lemmas.Result.{IfOk-weaker}
use Rattle.std.proofs.lemmas.Slice.Eq.{slice_eq-Decides}
use Rattle.sok_entry.specs.declared.fault.CertFault.TheVariants.{Line}
use Rattle.sok_entry.specs.declared.stage.Stage.TheVariants.{AtEntries}
use Rattle.sok_entry.specs.declared.version.Version.TheVariants.{Two}
use Rattle.sok_entry.specs.Text.{last_line, FitsInner}
use Rattle.sok_entry.specs.Reading.{Begins, Tells, unfinished_lines}
use Rattle.sok_entry.specs.Stages.{AreRead, AreWrong, IsRead}
use Rattle.sok_entry.proofs.Stages.{Begins-second, read-entry, read-end, read-head, wrong-entry}
use Rattle.sok_entry.proofs.stage.at_entries.Goals as goal

pub returns-then-eq : goal.returns-then-eq
unfolding last_line
returns-then-eq c = λ ls es count at.
    let line = c.args.line.now in
    let last = (slice_eq-Decides Decides-eqb line (codes "end") c.eq.result c.eq.ensures).0 c.if-eq.true in
    read-end ls es line c.args.version c.args.claim at last

pub returns-in-Some-Whole : goal.returns-in-Some-Whole
returns-in-Some-Whole c = λ ls es count at.
    let version = c.args.version in
    let line = c.args.line.now in
    let entry = c.in-Some-Whole.entry in
    let is = subst (Tells (Begins version line)) (c.in-Some-Whole.is ∙ ap Some c.in-Some-Whole.field-0-is) c.in_ok-entry.ensures in
    read-entry ls es line version c.args.claim entry at is

pub returns-in-Some-Begun : goal.returns-in-Some-Begun
returns-in-Some-Begun c = λ ls es count at.
    let version = c.args.version in
    let claim = c.args.claim in
    let line = c.args.line.now in
    let head = c.in-Some-Begun.head in
    let inner = c.new.result.items in
    let begins = subst (Tells (Begins version line)) (c.in-Some-Begun.is ∙ ap Some c.in-Some-Begun.field-0-is) c.in_ok-entry.ensures in
    let (second, is) = Begins-second version line head begins in
    let empty = sym c.new.ensures.items in
    let fits = subst (All FitsInner) empty (All-nil FitsInner) in
    let short : length inner ≤ head.count = omega (arith, ap length c.new.ensures.items) in
    let read = subst (λ is. AreRead (ls ++ line ∷ []) Two claim es (unfinished_lines head is)) empty
    (read-head ls es line claim head (subst (λ v. AreRead ls v claim es []) second at) is) in
    IfOk-weaker c.inside.result _ _ (λ told reads. subst (λ v. IsRead (ls ++ line ∷ []) es (AtEntries v claim) told) (sym second)
    (reads (ls ++ line ∷ []) es is.0 fits short read)) c.inside.ensures

pub returns-in-None : goal.returns-in-None
unfolding last_line
returns-in-None c = λ ls es count at.
    let version = c.args.version in
    let line = c.args.line.now in
    let is_end = (slice_eq-Decides Decides-eqb line (codes "end") c.eq.result c.eq.ensures).1 in
    let not_last : line ≢ last_line = λ last. let yes = is_end last in cc in
    let no_entry = subst (Tells (Begins version line)) c.in-None.is c.in_ok-entry.ensures in
    subst (λ n. AreWrong (ls ++ line ∷ []) (Line (n + 1))) count (wrong-entry ls es line version c.args.claim at not_last no_entry)

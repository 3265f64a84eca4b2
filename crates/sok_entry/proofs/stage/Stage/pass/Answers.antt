use Rattle.std.proofs.Common.{◌≡◌, ◌++◌, All, List, Some, length, map, sym, subst}
use Rattle.sok_entry.specs.declared.entry.Inner.{Inner}
use Rattle.sok_entry.specs.declared.version.Version.TheVariants.{Two}
use Rattle.sok_entry.specs.Reading.{unfinished_lines}
use Rattle.sok_entry.specs.Stages.{AreRead, IsRead, IsStage, awaited}
use Rattle.sok_entry.specs.Text.{FitsInner, inner_line}
use Rattle.sok_entry.proofs.Stages.{IsRead-inner, awaited-begun, read-known}
use Rattle.sok_entry.proofs.stage.Stage.pass.Goals as goal

pub returns : goal.returns
returns c = λ ls es fits at.
    let claim = c.in-AtInner.claim in
    let head = c.in-AtInner.head in
    let inner = c.in-AtInner.inner in
    let known = c.args.inner.now in
    let passed = ls ++ map inner_line known in
    let (unfinished, read) = subst (IsStage ls es) c.in-AtInner.is at in
    let (none, many) = awaited-begun claim head inner (length known) (subst (λ s. awaited s ≡ Some (length known)) c.in-AtInner.is c.requires) in
    let same = sym c.in_ok-share.ensures in
    let told = c.whole.ensures passed es unfinished.head_fits (subst (All FitsInner) same fits) (subst (λ (is : List Inner). length is ≡ head.count) same many)
    (subst (λ is. AreRead passed Two claim es (unfinished_lines head is)) same (read-known ls es claim head inner known none read)) in
    subst (λ s. IsRead passed es s c.whole.result) (sym c.in-AtInner.is) (IsRead-inner passed es claim head inner c.whole.result told)

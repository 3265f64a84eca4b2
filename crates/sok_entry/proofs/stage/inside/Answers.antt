use Rattle.std.proofs.Common.{◌≡◌, All, List, length, sym, subst, arith, rules}
use Rattle.sok_entry.specs.declared.entry.Inner.{Inner}
use Rattle.sok_entry.specs.declared.version.Version.TheVariants.{Two}
use Rattle.sok_entry.specs.Reading.{unfinished_lines}
use Rattle.sok_entry.specs.Stages.{AreRead}
use Rattle.sok_entry.specs.Text.{FitsInner}
use Rattle.sok_entry.proofs.stage.inside.Goals as goal

pub returns : goal.returns
returns c = λ ls es head_fits inner_fit short read.
    let head = c.args.head in
    let same = sym c.in_ok-new.ensures in
    let count : c.len.result ≡ length c.args.inner.items = search rules in
    let many : length c.args.inner.items ≡ head.count = omega arith in
    c.whole.ensures ls es head_fits (subst (All FitsInner) same inner_fit) (subst (λ (is : List Inner). length is ≡ head.count) same many)
    (subst (λ is. AreRead ls Two c.args.claim es (unfinished_lines head is)) same read)

use Rattle.std.proofs.Common.{◌≡◌, ◌<◌, ◌∙◌, All, Contains, get_or, length, ap, sym, subst, arith}
use Rattle.sok_entry.specs.Known.{IsAtFront}
use Rattle.sok_entry.proofs.KnownLists.{IsAtFront-kept, IsMissed, missed-all}
use Rattle.sok_entry.proofs.known.Known.at.Goals as goal

pub returns-in-Some : goal.returns-in-Some
returns-in-Some c =
    let lists = c.self.inside.lists.items in
    let text = c.args.text.now in
    let count = c.args.count in
    let i = c.loop-known.known-index in
    let known = c.known-item.result in
    let rest = c.in-Some.rest.now in
    let among = c.deref-known-items.ensures.value in
    let within : i < length lists = omega (arith, ap length among, c.loop-known-test.true) in
    let is : known ≡ get_or lists i known = c.known-item.is ∙ ap (λ all. get_or all i known) among in
    let (many, begins) = c.in-Some.ensures in
    subst (λ seen. IsAtFront seen text count known.inner rest) c.self.view_is
    (IsAtFront-kept lists c.self.inside.room c.self.invariant text count i known rest within is many begins)

pub returns : goal.returns
returns c = λ inner is_known many rest.
    let lists = c.self.inside.lists.items in
    let among = c.deref-known-items.ensures.value in
    let missed : All (IsMissed c.args.text.now c.args.count) lists = λ k d within.
    subst (λ all. IsMissed c.args.text.now c.args.count (get_or all k d)) among
    (c.loop-known.invariant k d (omega (arith, ap length among, within, c.loop-known-test.false))) in
    missed-all lists c.self.inside.room c.self.invariant c.args.text.now c.args.count missed inner (subst (λ seen. Contains seen inner) (sym c.self.view_is) is_known) many rest

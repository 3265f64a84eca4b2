use Rattle.std.proofs.Common.{◌≡◌, ◌↔◌, ap, ◌∙◌, subst, arith, true, false, ◌++◌, drop}
use Rattle.std.proofs.lemmas.List.{length-take-le}
use Rattle.sok_rules.specs.declared.cell.Spot.{Spot}
use Rattle.sok_field.specs.Fields.{has}
use Rattle.sok_field.specs.Halves.{AreWords}
use Rattle.sok_field.specs.Ways.{Joined}
use Rattle.sok_field.proofs.Heights.{has-take, none-take, flooded-low, IsHigh-low}
use Rattle.sok_field.proofs.Halves.{words-take}
use Rattle.sok_field.proofs.half.Half.flood.Goals as goal

pub flood-requires-clause-blank : goal.flood-requires-clause-blank
flood-requires-clause-blank c =
    none-take c.self.inside.rows c.free.inside.height (λ s. ap (λ rows. has rows s) c.self.view_is ∙ c.clear.ensures s)

pub flood-requires-clause-from : goal.flood-requires-clause-from
flood-requires-clause-from c = has-take c.free.inside.rows c.free.inside.height c.free.invariant c.args.from
    ∙ ap (λ rows. has rows c.args.from) c.free.view_is ∙ c.requires

pub invariant_of-self : goal.invariant_of-self
invariant_of-self c =
    let blank = c.self.inside.rows in
    let height = c.free.inside.height in
    let within = c.free.invariant.within in
    let none : (s : Spot) → has blank s ≡ false = λ s. ap (λ rows. has rows s) c.self.view_is ∙ c.clear.ensures s in
    let long = c.flood.auto.seen ∙ length-take-le height blank (omega (arith, within)) in
    IsHigh-low c.flood.new.seen blank height long none

pub returns-clause-joined : goal.returns-clause-joined
returns-clause-joined c = λ s.
    let seen = c.flood.new.seen in
    let blank = c.self.inside.rows in
    let height = c.free.inside.height in
    let within = c.free.invariant.within in
    let none : (t : Spot) → has blank t ≡ false = λ t. ap (λ rows. has rows t) c.self.view_is ∙ c.clear.ensures t in
    let long = c.flood.auto.seen ∙ length-take-le height blank (omega (arith, within)) in
    let low = flooded-low c.free.inside.rows seen blank height c.args.from c.free.invariant long none c.flood.ensures.joined s in
    subst (λ rows. (has (seen ++ drop height blank) s ≡ true) ↔ Joined (has rows) c.args.from s) c.free.view_is low

pub returns-clause-words : goal.returns-clause-words
returns-clause-words c = subst AreWords c.free.view_is (words-take c.free.inside.rows c.free.inside.height c.free.invariant c.flood.ensures.words)

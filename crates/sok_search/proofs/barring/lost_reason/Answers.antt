use Rattle.std.proofs.Common.{[], ◌∷◌, arith, length}
use Rattle.std.proofs.lemmas.List.Elements.{All-append, All-cons, All-nil}
use Rattle.sok_cert.specs.Text.{IsSmall}
use Rattle.sok_search.proofs.Reasons.{members-fit}
use Rattle.sok_search.proofs.barring.lost_reason.Goals as goal

pub returns-clause-bars : goal.returns-clause-bars
returns-clause-bars c b player lost rest = c.in_ok-members.ensures.holds b player lost

pub returns-clause-fits : goal.returns-clause-fits
returns-clause-fits c =
    let (b, player, lost) = c.requires.lost in
    let pattern = c.in_ok-members.field-0 in
    let holds = c.in_ok-members.ensures.holds b player lost in
    let members = members-fit c.args.boxes.now pattern.members c.list-list.ensures.few holds.listed in
    let few = c.in_ok-members.ensures.few in (
      tt,
      All-append IsSmall (length pattern.members ∷ pattern.members) (length pattern.inner ∷ []) members
          (All-cons IsSmall (length pattern.inner) [] (omega (arith, few)) (All-nil IsSmall)),
      c.in_ok-members.ensures.fit,
    )

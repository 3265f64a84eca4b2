use Rattle.std.proofs.Common.{◌∙◌, ap, sym, subst}
use Rattle.sok_region.specs.Regions.{IsPlaced}
use Rattle.sok_price.specs.Prices.{AreMembers}
use Rattle.sok_bar.specs.Patterns.{squares_at}
use Rattle.sok_bar.proofs.Patterns.{IsPlaced-alone}
use Rattle.sok_bar.proofs.pattern.Pattern.holds_by.Goals as goal

pub are_closed_alone-requires-clause-placed : goal.are_closed_alone-requires-clause-placed
are_closed_alone-requires-clause-placed c =
    let b = c.args.setting.now.board.now in
    let boxes = c.args.boxes.now in
    let members = c.args.self.now.members.now in
    let listed : AreMembers boxes members = subst (λ bs. AreMembers bs members) c.list-boxes.ensures.list (c.are_members.ensures.0 c.if-not-are_members.false) in
    subst (λ alone. IsPlaced b alone c.args.player) (sym (c.in_ok-alone.ensures ∙ ap (λ bs. squares_at bs members) c.list-boxes.ensures.list))
    (IsPlaced-alone b c.args.player boxes members c.requires.placed listed)

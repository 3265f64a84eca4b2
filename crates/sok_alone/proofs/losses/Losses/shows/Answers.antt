use Rattle.std.proofs.Common.{All, Contains, subst}
use Rattle.std.proofs.lemmas.List.Elements.{All-contains}
use Rattle.sok_board.specs.BoxSets.{put_in_order}
use Rattle.sok_alone.specs.Losses.{losses_of}
use Rattle.sok_alone.proofs.Losing.{lost-from}
use Rattle.sok_alone.proofs.losses.Losses.shows.Goals as goal

pub returns-then-has : goal.returns-then-has
returns-then-has c = λ left.
    let asking = c.args.asking.now in
    let loss = c.in-Some.loss.now in
    let after = put_in_order asking.from asking.to asking.boxes.now in
    let all = subst (All (Contains after)) c.list.ensures.list (c.leaves.ensures left) in
    lost-from asking.board.now c.requires.losses.workspace.accepted asking.from after (losses_of c.args.self.now) c.requires.losses.each c.args.place loss
    c.in-Some.ensures (c.has.ensures.0 c.if-has.true) (λ square there. All-contains (Contains after) loss.key.boxes square all there)

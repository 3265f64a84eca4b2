use Rattle.std.proofs.Common.{refl}
use Rattle.sok_search.proofs.Walkthroughs.{followed-made}
use Rattle.sok_search.proofs.walkthrough.follow.Goals as goal

pub follow-requires-clause-pushable : goal.follow-requires-clause-pushable
follow-requires-clause-pushable c = record {
  state = c.requires.walkthrough.state;
  few = c.list-boxes.ensures.few;
  legal = c.requires.legal;
  opened = c.requires.opened;
}

pub returns-clause-followed : goal.returns-clause-followed
returns-clause-followed c = followed-made c.args.board.now c.args.walkthrough _ c.args.push c.requires.walkthrough c.in_ok-letters.ensures c.in_ok-key.ensures.after.of_board
    c.in_ok-key.ensures.after.exact refl

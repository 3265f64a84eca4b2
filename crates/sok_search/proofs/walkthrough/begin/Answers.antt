use Rattle.sok_search.proofs.Walkthroughs.{begun-start}
use Rattle.sok_search.proofs.walkthrough.begin.Goals as goal

pub returns : goal.returns
returns c =
    begun-start c.args.board.now c.start-player.ensures.accepted _ c.start-player.result.1.now c.in_ok-key.ensures.of_board c.in_ok-key.ensures.key
    c.start-player.ensures.player_exists c.start-player.ensures.position
    c.new.ensures.items

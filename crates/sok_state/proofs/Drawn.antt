-- Which pushes are legal, over the squares that the boxes leave free and those to which the man comes.
use Rattle.std.proofs.Common.{ℕ, List, Contains}
use Rattle.sok_rules.specs.Squares.{opposite}
use Rattle.sok_board.specs.Area.{BoardView, IsAccepted}
use Rattle.sok_board.proofs.Beside.{beside-within}
use Rattle.sok_region.proofs.Regions.{through-exact}
use Rattle.sok_state.specs.declared.key.Key.{Key}
use Rattle.sok_state.specs.declared.push.Push.{Push}
use Rattle.sok_state.specs.Listing.{HasBeside, IsDrawn}
use Rattle.sok_state.specs.Pushes.{IsLegal}
use Rattle.sok_state.proofs.LegalPushes.{free-legal, legal-free}

module _ (b : BoardView) (accepted : IsAccepted b) (key : Key) (free seen : List ℕ) (drawn : IsDrawn b key free seen) (push : Push) where
  pub legal-drawn : Contains key.boxes push.from → HasBeside b seen push.from (opposite push.dir) → HasBeside b free push.from push.dir → IsLegal b key push
  legal-drawn among behind ahead =
      legal-free b accepted.numbered accepted.proper key drawn.placed push among (record {
        behind = behind.there;
        behind_is = behind.is;
        comes = (drawn.reached behind.there (beside-within b (opposite push.dir) push.from behind.there behind.is)).0 behind.has;
        onward = record {
          ahead = ahead.there;
          ahead_is = ahead.is;
          clear = (through-exact b accepted.numbered key.boxes free drawn.left ahead.there
              (beside-within b push.dir push.from ahead.there ahead.is)).0 ahead.has;
        };
      })

  pub drawn-behind : IsLegal b key push → HasBeside b seen push.from (opposite push.dir)
  drawn-behind legal =
      let is = free-legal b accepted.numbered key drawn.placed push legal in
      record {
        there = is.behind;
        is = is.behind_is;
        has = (drawn.reached is.behind (beside-within b (opposite push.dir) push.from is.behind is.behind_is)).1 is.comes;
      }

  pub drawn-ahead : IsLegal b key push → HasBeside b free push.from push.dir
  drawn-ahead legal =
      let onward = (free-legal b accepted.numbered key drawn.placed push legal).onward in
      record {
        there = onward.ahead;
        is = onward.ahead_is;
        has = (through-exact b accepted.numbered key.boxes free drawn.left onward.ahead
            (beside-within b push.dir push.from onward.ahead onward.ahead_is)).1 onward.clear;
      }

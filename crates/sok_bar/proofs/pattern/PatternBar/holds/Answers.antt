use Rattle.std.proofs.Common.{◌↔◌, ℕ, List, Bool, Result, Ok, Err, IfOk, IsTrue}
use Rattle.sok_rules.specs.declared.fault.Memory.{Memory}
use Rattle.sok_board.specs.Area.{BoardView, IsAccepted}
use Rattle.sok_region.specs.Regions.{IsPlaced}
use Rattle.sok_entry.specs.declared.entry.Inner.{Inner}
use Rattle.sok_bar.specs.declared.rest.Rest.{Rest}
use Rattle.sok_bar.specs.Bars.{Barring}
use Rattle.sok_bar.specs.Patterns.{IsPattern}
use Rattle.sok_bar.specs.Rests.{IsBarred}
use Rattle.sok_bar.proofs.ReasonLaws.{reasons-bar}
use Rattle.sok_bar.proofs.pattern.PatternBar.holds.Goals as goal

-- a pattern bars
bars : (b : BoardView) → IsAccepted b → (player : ℕ) (boxes members : List ℕ) (inner : List Inner) (rest : Rest) → IsPlaced b boxes player
    → (r : Result Bool Memory) → IfOk r (λ holds. IsTrue holds ↔ IsPattern b player boxes members inner)
    → IfOk r (λ holds. IsTrue holds → IsBarred b player boxes rest)
bars b accepted player boxes members inner rest placed (Ok t) told = λ yes.
    reasons-bar b accepted player boxes (Barring.pattern members inner) rest placed (told.0 yes)
bars b accepted player boxes members inner rest placed (Err e) told = told

pub holds_by-requires-clause-memo : goal.holds_by-requires-clause-memo
holds_by-requires-clause-memo c = c.new-memo.ensures c.args.setting.now.board.now

pub returns-clause-law : goal.returns-clause-law
returns-clause-law c =
    bars c.args.setting.now.board.now c.squares-squares.ensures.accepted c.args.player c.args.boxes.now c.args.self.now.members.now c.args.self.now.inner.now c.args.rest c.requires.placed
    c.holds_by.result c.holds_by.ensures.exact

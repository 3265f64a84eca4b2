use Rattle.std.proofs.Common.{◌≡◌, ◌++◌, ℕ, List, Option, Result}
use Rattle.std.proofs.lemmas.Result.{on_ok_weaker}
use Rattle.sok_rules.specs.declared.fault.LevelFault.{LevelFault}
use Rattle.sok_rules.specs.Squares.{Rows}
use Rattle.sok_text.specs.Collections.{level_at}
use Rattle.sok_text.specs.Titles.{title_at}
use Rattle.sok_play.specs.Listing.{level_line}
use Rattle.sok_play.proofs.Listings.{found-fault}
use Rattle.sok_play.proofs.listing.push_line.Goals as goal

pub returns-in-Err : goal.returns-in-Err
returns-in-Err c =
    let blocks = c.args.collection.now in
    let fault = c.in-Err.fault in
    let grown = c.push_fault.new.text.items in
    let title = title_at blocks c.args.n in
    let lines : Result Rows LevelFault → Type 0 = λ found. (t : Option (List ℕ)) → grown ≡ c.args.text.now.items ++ level_line c.args.n found t in
    on_ok_weaker c.push_fault.result (λ p. found-fault (level_at blocks c.args.n) fault lines c.in-Err.ensures.level p title) c.push_fault.ensures

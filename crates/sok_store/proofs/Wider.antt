-- What is kept up to some limits is kept up to wider ones.
use Rattle.std.proofs.Common.{ℕ, ◌≤◌, arith}
use Rattle.sok_rules.specs.Squares.{Rows}
use Rattle.sok_rules.specs.Levels.{IsProperIn}
use Rattle.sok_board.specs.Area.{BoardView, IsAcceptedIn}
use Rattle.sok_store.specs.Laws.{RowsKeptBeforeAreKept}

IsProperIn-wider : (rows : Rows) (size wider : ℕ) → size ≤ wider → IsProperIn size rows → IsProperIn wider rows
IsProperIn-wider rows size wider more proper =
    let few_rows = proper.few_rows in
    record {
      few_rows = omega (arith, more, few_rows);
      few_columns = λ k d within. let short = proper.few_columns k d within in omega (arith, more, short);
      walls = proper.walls;
      one_man = proper.one_man;
      some_box = proper.some_box;
    }

IsAcceptedIn-wider : (b : BoardView) (size wider squares more : ℕ) → size ≤ wider → squares ≤ more → IsAcceptedIn size squares b
    → IsAcceptedIn wider more b
IsAcceptedIn-wider b size wider squares more larger also accepted =
    let few = accepted.few_squares in
    record {
      proper = IsProperIn-wider b.rows size wider larger accepted.proper;
      numbered = accepted.numbered;
      enclosed = accepted.enclosed;
      few_squares = omega (arith, also, few);
      no_stray = accepted.no_stray;
      few_boxes = accepted.few_boxes;
      enough_goals = accepted.enough_goals;
    }

pub rows-kept-before : RowsKeptBeforeAreKept
rows-kept-before page leaf row =
    let kept = row.kept in
    let (area, accepted) = kept.accepted in
    record {
      kept = record {
        level = record { proper = IsProperIn-wider page.level 64 128 (omega arith) kept.level.proper; trimmed = kept.level.trimmed };
        accepted = (area, IsAcceptedIn-wider (record { rows = page.level; area = area }) 64 128 1024 4096 (omega arith) (omega arith) accepted);
        title = kept.title;
        best = kept.best;
        verdict = kept.verdict;
      };
      leaf_is = row.leaf_is;
    }

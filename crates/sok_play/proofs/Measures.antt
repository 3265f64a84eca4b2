-- How many cells of a kind a level has.
use Rattle.std.proofs.Common.{ℕ, ◌≡◌, ◌∙◌, ◌+◌, ◌<◌, ◌^◌, List, Vec, Bool, count_by, map, sum_by, sym, ap, arith}
use Rattle.std.proofs.lemmas.List.Folds.{fold-map}
use Rattle.sok_rules.specs.declared.cell.Cell.{Cell}
use Rattle.sok_rules.specs.Levels.{IsProper, cells_of, count_in}
use Rattle.sok_rules.specs.Squares.{Rows}
use Rattle.sok_rules.proofs.Proper.{count_by-few}

sum_by-map : {X Y : Type 0} (g : Y → ℕ) (f : X → Y) (xs : List X) → sum_by g (map f xs) ≡ sum_by (λ x. g (f x)) xs
sum_by-map g f xs = fold-map (λ n x. n + g x) f 0 xs

-- the cells of rows are counted row by row
pub count_in-cells_of : {A : Type 0} (test : Cell → Bool) (rows : List (Vec Cell A)) (level : Rows) → cells_of rows ≡ level
    → sum_by (λ row. count_by test row.items) rows ≡ count_in test level
count_in-cells_of test rows level same = sym (sum_by-map (count_by test) (λ row. row.items) rows) ∙ ap (count_in test) same

-- and are few
pub count_in-fits : {A : Type 0} (test : Cell → Bool) (rows : List (Vec Cell A)) (level : Rows) → cells_of rows ≡ level → IsProper level
    → sum_by (λ row. count_by test row.items) rows < 2 ^ 64
count_in-fits test rows level same proper =
    let few = count_by-few (λ row. row) test level proper.few_rows proper.few_columns in
    omega (arith, count_in-cells_of test rows level same, few)

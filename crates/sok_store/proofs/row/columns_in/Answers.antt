use Rattle.std.proofs.Common.{◌≡◌, ◌∷◌, [], ◌∙◌, length, refl, arith}
use Rattle.sqlite.specs.Order.{Row, column}
use Rattle.sok_store.proofs.row.columns_in.Goals as goal

-- a row of seven columns is what is seen of it
seven : (row : Row) → length row ≡ 7
    → row ≡ column row 0 ∷ column row 1 ∷ column row 2 ∷ column row 3 ∷ column row 4 ∷ column row 5 ∷ column row 6 ∷ []
seven [] h = absurd (omega arith)
seven (a ∷ []) h = absurd (omega arith)
seven (a ∷ b ∷ []) h = absurd (omega arith)
seven (a ∷ b ∷ c ∷ []) h = absurd (omega arith)
seven (a ∷ b ∷ c ∷ d ∷ []) h = absurd (omega arith)
seven (a ∷ b ∷ c ∷ d ∷ e ∷ []) h = absurd (omega arith)
seven (a ∷ b ∷ c ∷ d ∷ e ∷ f ∷ []) h = absurd (omega arith)
seven (a ∷ b ∷ c ∷ d ∷ e ∷ f ∷ g ∷ []) h = refl
seven (a ∷ b ∷ c ∷ d ∷ e ∷ f ∷ g ∷ k ∷ more) h = absurd (omega arith)

pub returns-clause-some : goal.returns-clause-some
returns-clause-some c =
    let id = rw c.in-Some.is at c.in_ok-id.ensures.ok in
    let text = rw c.in-Some-2.is at c.in_ok-text.ensures.ok in
    let title = rw c.in-Some-3.is at c.in_ok-title.ensures.ok in
    let lurd = rw c.in-Some-4.is at c.in_ok-lurd.ensures.ok in
    let pushes = rw c.in-Some-5.is at c.in_ok-pushes.ensures.ok in
    let moves = rw c.in-Some-6.is at c.in_ok-moves.ensures.ok in
    let verdict = rw c.in-Some-7.is at c.in_ok-verdict.ensures.ok in
    seven c.args.row.now (omega arith) ∙ rw (id, text, title, lurd, pushes, moves, verdict, c.if-id-place.false)

use native.Mathlib.Numerals.{unary_clauses}
use Rattle.sok_state.proofs.legal.list_box.Goals as goal

pub returns-clause-listed : goal.returns-clause-listed
returns-clause-listed c = λ key drawn among lists.
    let left = simp unary_clauses at c.list_push.ensures.listed in
    let up = simp unary_clauses at c.list_push-2.ensures.listed in
    let right = simp unary_clauses at c.list_push-3.ensures.listed in
    let down = simp unary_clauses at c.list_push-4.ensures.listed in
    simp unary_clauses (down key drawn among (right key drawn among (up key drawn among (left key drawn among lists))))

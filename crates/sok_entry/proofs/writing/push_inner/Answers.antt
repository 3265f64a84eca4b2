use Rattle.std.proofs.Common.{ℕ, List, ◌≡◌, ◌<◌, ◌+◌, ◌++◌, ◌∙◌, OnErr, OnOk, ap, length, subst, sym, rules, vec_capacity, vec_len}
use Rattle.sok_entry.specs.Text.{inner_of, inner_text}
use Rattle.sok_entry.proofs.Inside.{lines_inside-same}
use Rattle.sok_entry.proofs.writing.push_inner.Goals as goal
use Rattle.sok_entry.proofs.writing.push_inner.Goals.{After-extend_from_slice}

-- the lines that are kept are those of the reason
are-lines : (c : After-extend_from_slice) → c.in-Some.lines.now ≡ inner_text (inner_of c.args.reason.now)
are-lines c = c.in-Some.ensures ∙ sym (lines_inside-same c.in-Pattern.inner) ∙ ap (λ reason. inner_text (inner_of reason)) (sym c.in-Pattern.is)

pub returns-in-Some-clause-lines : goal.returns-in-Some-clause-lines
returns-in-Some-clause-lines c =
    let told : OnOk c.extend_from_slice.result (c.extend_from_slice.new.self.items ≡ c.args.text.now.items ++ c.in-Some.lines.now) = search rules in
    subst (λ more. OnOk c.extend_from_slice.result (c.extend_from_slice.new.self.items ≡ c.args.text.now.items ++ more)) (are-lines c) told

pub returns-in-Some-clause-full : goal.returns-in-Some-clause-full
returns-in-Some-clause-full c =
    subst (λ (more : List ℕ). OnErr c.extend_from_slice.result (vec_capacity c.args.text.now < vec_len c.args.text.now + length more)) (are-lines c)
    c.extend_from_slice.ensures.full

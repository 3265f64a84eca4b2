use Rattle.std.proofs.Common.{ℕ, ◌≡◌, ◌<◌, ◌≤◌, ◌+◌, List, ◌++◌, ◌∙◌, ap, get_or, length, map, take, append_assoc, arith, rules}
use Rattle.std.proofs.lemmas.Grind.{common_steps}
use Rattle.std.proofs.lemmas.List.Folds.{flat_map-map, length-flat_map-take}
use Rattle.std.specs.List.{flat_map}
use Rattle.sok_entry.specs.declared.entry.Inner.{Inner}
use Rattle.sok_entry.specs.Text.{Grows, ended, inner_line}
use Rattle.sok_entry.proofs.writing.push_inner_lines.Goals as goal

-- the lines of some positions and of the next are no longer than those of all
length-lines : (inner : List Inner) (i : ℕ) (position : Inner) → i < length inner → position ≡ get_or inner i position
    → length (flat_map ended (map inner_line (take i inner))) + length (ended (inner_line position)) ≤ length (flat_map ended (map inner_line inner))
length-lines inner i position within is =
    let line : Inner → List ℕ = λ p. ended (inner_line p) in
    omega (
      arith,
      length-flat_map-take line inner i position within,
      ap length (flat_map-map ended inner_line (take i inner)),
      ap length (flat_map-map ended inner_line inner),
      ap (λ p. length (line p)) is,
    )

pub returns-in_err-push_inner_line-clause-full : goal.returns-in_err-push_inner_line-clause-full
returns-in_err-push_inner_line-clause-full c =
    let more = length-lines c.args.inner.now c.loop-position.position-index c.position-item.result (omega arith) c.position-item.is in
    grind (arith, common_steps)

pub returns-in_err-push_inner_line-clause-front : goal.returns-in_err-push_inner_line-clause-front
returns-in_err-push_inner_line-clause-front c =
    let old = c.args.text.now.items in
    let before = flat_map ended (map inner_line (take c.loop-position.position-index c.args.inner.now)) in
    let front = c.in_err-push_inner_line.ensures.front in
    let grown : Grows old c.push_inner_line.new.text.items = record {
      more = before ++ front.more;
      is = front.is ∙ ap (λ text. text ++ front.more) c.loop-position.invariant.items ∙ append_assoc old before front.more;
    } in
    search rules

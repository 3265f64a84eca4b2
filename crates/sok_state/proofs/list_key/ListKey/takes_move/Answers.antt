use Rattle.std.proofs.Common.{◌<◌, ◌∙◌, inl, inr, refl, sym, ap, arith, length, List, ℕ, ◌==◌}
use Rattle.std.specs.List.{list_any}
use Rattle.std.proofs.lemmas.Bool.{cases_Bool}
use Rattle.std.proofs.lemmas.Bool.Decides.{nat_tests}
use Rattle.sok_state.specs.PackedKeys.{apart, list_limit}
use Rattle.sok_state.proofs.ListKeys.{length-apart, length-apart_less, length-apart_all, listed, unlisted}
use Rattle.sok_state.proofs.list_key.ListKey.takes_move.Goals as goal
use Rattle.sok_state.proofs.list_key.ListKey.takes_move.Goals.{then-boxes-lt-BOXES, else-boxes-lt-BOXES}

pub returns-then-contains : goal.returns-then-contains
returns-then-contains c =
    let boxes : List ℕ = c.args.self.now.boxes.items in
    let limit = c.requires.fits.taken.few in
    let same = c.as_slice-boxes.ensures.value in
    let few : length (apart c.args.from c.args.to boxes) < list_limit = elim c.if-boxes-lt-BOXES.branch [
      | then-boxes-lt-BOXES w ↦
          let less = w.if-boxes-lt-BOXES.true in
          let long = ap (λ (xs : List ℕ). length xs) same in
          let most = length-apart c.args.from c.args.to boxes in
          omega (arith, less, long, most)
      | else-boxes-lt-BOXES w ↦
          let there = listed boxes c.args.from (ap (λ xs. list_any (λ y. y == c.args.from) xs) (sym same) ∙ sym w.contains.ensures.value ∙ sym w.value-is ∙ c.if-contains.true) in
          let fewer = length-apart_less c.args.from c.args.to boxes c.args.from there (inl refl) in
          omega (arith, fewer, limit)
    ] in
    (λ _. record { few = few; room = c.requires.to }, λ _. c.if-contains.true)

pub returns-else-contains : goal.returns-else-contains
returns-else-contains c =
    let boxes : List ℕ = c.args.self.now.boxes.items in
    let same = c.as_slice-boxes.ensures.value in
    let limit = c.requires.fits.taken.few in (
      λ found.
          let there = listed boxes c.args.to (ap (λ xs. list_any (λ y. y == c.args.to) xs) (sym same) ∙ sym c.contains-else-contains.ensures.value ∙ found) in
          let fewer = length-apart_less c.args.from c.args.to boxes c.args.to there (inr refl) in
          record { few = omega (arith, fewer, limit); room = c.requires.to },
      λ takes. elim (cases_Bool c.contains-else-contains.result) [
        | inl found ↦ found
        | inr none ↦ absurd (elim c.if-boxes-lt-BOXES.branch [
          | then-boxes-lt-BOXES w ↦
              let less = w.if-boxes-lt-BOXES.true in
              let no = sym w.value-is ∙ c.if-contains.false in
              grind (arith, nat_tests, less, no)
          | else-boxes-lt-BOXES w ↦
              let no_from = unlisted boxes c.args.from (ap (λ xs. list_any (λ y. y == c.args.from) xs) (sym same) ∙ sym w.contains.ensures.value ∙ sym w.value-is ∙ c.if-contains.false) in
              let no_to = unlisted boxes c.args.to (ap (λ xs. list_any (λ y. y == c.args.to) xs) (sym same) ∙ sym c.contains-else-contains.ensures.value ∙ none) in
              let all = length-apart_all c.args.from c.args.to boxes no_from no_to in
              let few = takes.few in
              let long = ap (λ (xs : List ℕ). length xs) same in
              let full = w.if-boxes-lt-BOXES.false in
              omega (arith, all, few, long, full)
        ])
      ],
    )

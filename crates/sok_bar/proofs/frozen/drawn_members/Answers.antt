use Rattle.std.proofs.Common.{◌≡◌, ◌++◌, ◌∷◌, ◌∙◌, [], ap, false, get_or, inl, inr, sym, true≢false}
use Rattle.std.proofs.lemmas.Bool.{cases_Bool}
use Rattle.sok_board.specs.Area.{spot_of}
use Rattle.sok_field.specs.Fields.{has}
use Rattle.sok_bar.proofs.Narrowing.{filter-range_more}
use Rattle.sok_bar.proofs.frozen.drawn_members.Goals.{then-is_drawn+in_ok-push, else-is_drawn}
use Rattle.sok_bar.proofs.frozen.drawn_members.Goals as goal

pub loop-index-preserved : goal.loop-index-preserved
loop-index-preserved c =
    let b = c.args.board.now in
    let rows = c.args.rows.now in
    let i = c.loop-index.index in
    let more = filter-range_more (λ k. has rows (spot_of b (get_or c.args.boxes.now k 0))) i in
    elim c.if-is_drawn.branch [
      | then-is_drawn+in_ok-push w ↦
          (λ k. (w.members-is k).items) ∙ w.in_ok-push.ensures.items ∙ ap (λ members. members ++ i ∷ []) c.loop-index.invariant
          ∙ more.0 (c.is_drawn.ensures.0 w.if-is_drawn.true).1
      | else-is_drawn w ↦
          let off : has rows (spot_of b (get_or c.args.boxes.now i 0)) ≡ false = elim (cases_Bool (has rows (spot_of b (get_or c.args.boxes.now i 0)))) [
            | inl on ↦ absurd (true≢false (sym (c.is_drawn.ensures.1 (c.requires.exist i 0 c.loop-index-test.true, on)) ∙ w.if-is_drawn.false))
            | inr out ↦ out
          ] in
          (λ k. (w.members-is k).items) ∙ c.loop-index.invariant ∙ more.1 off
    ]

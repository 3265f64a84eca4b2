use Rattle.std.proofs.Common.{◌≡◌, ◌++◌, ◌∷◌, ◌∙◌, [], ◌+◌, sym, ap, drop, get_or, true, false, arith, nat_lt, ◌==◌, true≢false}
use Rattle.std.proofs.lemmas.Bool.Decides.{nat_tests}
use Rattle.std.proofs.lemmas.List.{drop_more, append-nil}
use Rattle.std.proofs.Math.ListN.{drop_of_length-le}
use Rattle.sok_board.specs.BoxSets.{put_in_order}
use Rattle.sok_board.proofs.Putting.{left_to_put, put-here, put-next, put-none, put-last}
use Rattle.sok_board.proofs.box_set.put_in_order.Goals.{then-not-put+then-to-square+in_ok-push, else-not-put, else-not-put-via-then-not-put+else-to-square}
use Rattle.sok_board.proofs.box_set.put_in_order.Goals.{else-not-put-via-else-not-put, then-square-from+in_ok-push-2, else-square-from}
use Rattle.sok_board.proofs.box_set.put_in_order.Goals.{then-not-put-2+in_ok-push-3, else-not-put-2}
use Rattle.sok_board.proofs.box_set.put_in_order.Goals as goal

pub loop-square-preserved : goal.loop-square-preserved
loop-square-preserved c =
    let from = c.args.from in
    let to = c.args.to in
    let s = get_or c.args.list.now c.loop-square.square-index 0 in
    let todo = drop (c.loop-square.square-index + 1) c.args.list.now in
    let first : (c.if-not-put.put ≡ false → nat_lt to s ≡ false) ×
    (c.if-not-put.after.items ++ left_to_put c.if-not-put.put from to (s ∷ todo) ≡ c.loop-square.after.items ++ left_to_put c.loop-square.put from to
    (s ∷ todo)) =
    elim c.if-not-put.branch [
      | then-not-put+then-to-square+in_ok-push w ↦
          let past : nat_lt to s ≡ true = let less = w.if-to-square.true in grind (arith, nat_tests, less) in
          let unput : c.loop-square.put ≡ false = let none = w.if-not-put.true in grind (arith, nat_tests, none) in (
            λ e. absurd (true≢false (sym w.put-is ∙ e)),
            (λ i. (w.after-is i).items ++ left_to_put (w.put-is i) from to (s ∷ todo)) ∙ ap (λ items. items ++ left_to_put true from to (s ∷ todo))
                w.in_ok-push.ensures.ok
                ∙ put-here c.loop-square.after.items from to s todo past ∙ ap (λ put. c.loop-square.after.items ++ left_to_put put from to (s ∷ todo))
                (sym unput),
          )
      | else-not-put w ↦ (
        λ e. elim w.else-not-put.branch [
          | else-not-put-via-then-not-put+else-to-square v ↦ let less = v.if-to-square.false in grind (arith, nat_tests, less)
          | else-not-put-via-else-not-put v ↦ let was = v.if-not-put.false in let unput = sym w.put-is ∙ e in grind (arith, nat_tests, was, unput)
        ],
        (λ i. (w.after-is i).items ++ left_to_put (w.put-is i) from to (s ∷ todo)),
      )
    ] in
    let second : c.if-square-from.after.items ++ left_to_put c.if-not-put.put from to todo ≡ c.if-not-put.after.items ++ left_to_put c.if-not-put.put from
    to (s ∷ todo) =
    elim c.if-square-from.branch [
      | then-square-from+in_ok-push-2 w ↦
          let other : (s == from) ≡ false = let differs = w.if-square-from.true in grind (arith, nat_tests, differs) in
          ap (λ after. after.items ++ left_to_put c.if-not-put.put from to todo) w.after-is ∙ ap
          (λ items. items ++ left_to_put c.if-not-put.put from to todo) w.in_ok-push-2.ensures.ok
          ∙ put-next c.if-not-put.after.items c.if-not-put.put from to s todo first.0 other
      | else-square-from w ↦
          let same : (s == from) ≡ true = let equal = w.if-square-from.false in grind (arith, nat_tests, equal) in
          ap (λ after. after.items ++ left_to_put c.if-not-put.put from to todo) w.after-is ∙ put-none c.if-not-put.after.items c.if-not-put.put from to s
          todo first.0 same
    ] in
    second ∙ first.1 ∙ ap (λ rest. c.loop-square.after.items ++ left_to_put c.loop-square.put from to rest)
    (sym (drop_more c.args.list.now c.loop-square.square-index 0 c.loop-square-test.true)) ∙ c.loop-square.invariant

pub returns : goal.returns
returns c =
    let from = c.args.from in
    let to = c.args.to in
    let done : drop c.loop-square.square-index c.args.list.now ≡ [] = drop_of_length-le c.args.list.now c.loop-square-test.false in
    let so_far : c.loop-square.after.items ++ left_to_put c.loop-square.put from to [] ≡ put_in_order from to c.args.list.now =
    ap (λ rest. c.loop-square.after.items ++ left_to_put c.loop-square.put from to rest) (sym done) ∙ c.loop-square.invariant in
    elim c.if-not-put-2.branch [
      | then-not-put-2+in_ok-push-3 w ↦
          let unput : c.loop-square.put ≡ false = let was = w.if-not-put-2.true in grind (arith, nat_tests, was) in
          ap (λ after. after.items) w.after-is ∙ w.in_ok-push-3.ensures.ok ∙ ap (λ rest. c.loop-square.after.items ++ rest) (sym (put-last from to))
          ∙ ap (λ put. c.loop-square.after.items ++ left_to_put put from to []) (sym unput) ∙ so_far
      | else-not-put-2 w ↦
          let put : c.loop-square.put ≡ true = let was = w.if-not-put-2.false in grind (arith, nat_tests, was) in
          ap (λ after. after.items) w.after-is ∙ sym (append-nil c.loop-square.after.items) ∙ ap
          (λ put. c.loop-square.after.items ++ left_to_put put from to []) (sym put) ∙ so_far
    ]

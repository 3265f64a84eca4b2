use Rattle.std.proofs.Common.{◌≡◌, ◌∙◌, ap, arith, filter, length, subst, sym}
use Rattle.std.specs.List.Sorted.{IsStrictlyIncreasing}
use Rattle.std.proofs.lemmas.List.{take_all}
use Rattle.std.proofs.lemmas.List.Sums.{count_by-le-length, length-filter}
use Rattle.std.proofs.lemmas.Result.{IfOk-weaker}
use Rattle.sok_alone.specs.Losses.{AreChosen}
use Rattle.sok_alone.proofs.Chosen.{are-chosen, is_one_of}
use Rattle.sok_alone.proofs.choosing.chosen.Goals as goal
use Rattle.sok_alone.proofs.choosing.chosen.Goals.{After-deref}

-- what was listed in the end
list-is : (c : After-deref) → c.deref.result.now ≡ filter (is_one_of c.args.squares.now) c.args.boxes.now
list-is c =
    let past = c.loop-square-test.false in
    c.deref.ensures.value ∙ c.loop-square.invariant
    ∙ ap (filter (is_one_of c.args.squares.now)) (take_all c.loop-square.square-index c.list-all.result.now (omega (arith, past)) ∙ c.list-all.ensures.list)

pub of-requires-clause-rising : goal.of-requires-clause-rising
of-requires-clause-rising c = subst IsStrictlyIncreasing (sym (list-is ((goal.at.of-requires-clause-rising c).After-deref)))
    (are-chosen c.args.boxes.now c.args.squares.now c.list-all.ensures.rising).rising

pub of-requires-clause-few : goal.of-requires-clause-few
of-requires-clause-few c =
    let test = is_one_of c.args.squares.now in
    let is = ap length (list-is ((goal.at.of-requires-clause-few c).After-deref)) in
    let count = length-filter test c.args.boxes.now in
    let less = count_by-le-length test c.args.boxes.now in
    let few = c.list-all.ensures.few in
    omega (arith, is, count, less, few)

pub returns : goal.returns
returns c = IfOk-weaker c.of.result _ _ (λ set is. subst (AreChosen c.args.boxes.now c.args.squares.now)
    (sym (is ∙ list-is ((goal.at.returns c).After-deref))) (are-chosen c.args.boxes.now c.args.squares.now c.list-all.ensures.rising)) c.of.ensures.list

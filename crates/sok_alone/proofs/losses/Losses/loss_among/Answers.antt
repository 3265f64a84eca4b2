use Rattle.std.proofs.Common.{ℕ, Contains, List, arith, get_or, subst, sym}
use Rattle.std.specs.List.Sorted.{IsStrictlyIncreasing}
use Rattle.std.proofs.lemmas.Option.{slice_get-get_or}
use Rattle.sok_board.specs.Area.{position_of}
use Rattle.sok_closed.proofs.Entered.{before_more}
use Rattle.sok_alone.specs.GivenUp.{IsGivenUp}
use Rattle.sok_alone.specs.Losses.{HasRoom, IsPairGivenUp, loss_limit}
use Rattle.sok_alone.proofs.Following.{found-listed}
use Rattle.sok_alone.proofs.Losing.{placed-among, tells-among}
use Rattle.sok_alone.proofs.Pairs.{among-pair, not-found, rising-pair, room-before, was-found}
use Rattle.sok_alone.proofs.losses.Losses.loss_among.Goals as goal
use Rattle.sok_alone.proofs.losses.Losses.loss_among.Goals.{In_ok-pair}

-- the boxes of the pair are boxes of the position
among : (c : In_ok-pair) → (square : ℕ) → Contains c.in_ok-pair.pair square → Contains c.args.boxes.now square
among c square there =
    let all = c.list-all.result.now in
    subst (λ (list : List ℕ). Contains list square) c.list-all.ensures.list
    (among-pair all c.loop-one.one-index c.loop-other.other-index c.loop-one-test.true c.loop-other-test.true square
    (subst (λ (list : List ℕ). Contains list square) c.in_ok-pair.ensures.list there))

pub loop-one-init : goal.loop-one-init
loop-one-init c = record {
  adds = record { losses = c.requires.losses; kept = λ place loss there. there };
  none = λ room i one below there other has less. absurd (omega (arith, below));
}

pub loop-other-init : goal.loop-other-init
loop-other-init c = record {
  adds = record { losses = c.loop-one.invariant.adds.losses; kept = λ place loss there. there };
  none = λ room i other below there less. absurd (omega (arith, below));
}

pub loop-other-preserved : goal.loop-other-preserved
loop-other-preserved c =
    let b = c.args.setting.now.board.now in
    let player = c.args.player in
    let all = c.list-all.result.now in
    let one = get_or all c.loop-one.one-index 0 in
    let j = c.loop-other.other-index in
    let told = c.in_ok-found.ensures.tells in
    let new = c.loss_of.new.self in
    let given_up : HasRoom new → IsGivenUp b.rows (position_of b player c.in_ok-pair.pair) loss_limit =
    not-found c.in_ok-found.found c.is_some.result (HasRoom new → IsGivenUp b.rows (position_of b player c.in_ok-pair.pair) loss_limit)
    c.is_some.ensures c.if-is_some.false c.in_ok-found.ensures.none in
    record {
      adds = record { losses = told.losses; kept = λ place loss there. told.kept place loss (c.loop-other.invariant.adds.kept place loss there) };
      none = λ room. before_more (λ _ other. IsPairGivenUp b player one other) all j (get_or all j 0) (slice_get-get_or all j 0 c.loop-other-test.true)
          (c.loop-other.invariant.none (room-before c.loop-other.self new told.kept room))
          (λ less. subst (λ (pair : List ℕ). IsGivenUp b.rows (position_of b player pair) loss_limit) c.in_ok-pair.ensures.list (given_up room));
    }

pub loss_of-requires-clause-placed : goal.loss_of-requires-clause-placed
loss_of-requires-clause-placed c =
    let rising = subst IsStrictlyIncreasing (sym c.in_ok-pair.ensures.list) (rising-pair _ _ c.if-other-one.false) in
    placed-among c.args.setting.now.board.now c.args.player c.in_ok-pair.pair c.args.boxes.now rising (among ((goal.at.loss_of-requires-clause-placed c).In_ok-pair))
    c.requires.placed

pub returns-then-is_some-clause-tells : goal.returns-then-is_some-clause-tells
returns-then-is_some-clause-tells c =
    let told = tells-among c.args.setting.now.board.now c.args.player c.in_ok-pair.pair c.args.boxes.now
    (among ((goal.at.returns-then-is_some-clause-tells c).In_ok-pair)) c.loop-other.self c.loss_of.new.self c.in_ok-found.found c.in_ok-found.ensures.tells in
    record {
      losses = told.losses;
      kept = λ place loss there. told.kept place loss (c.loop-other.invariant.adds.kept place loss (c.loop-one.invariant.adds.kept place loss there));
      lost = told.lost;
    }

pub returns-then-is_some-clause-none : goal.returns-then-is_some-clause-none
returns-then-is_some-clause-none c = was-found c.in_ok-found.found c.is_some.result _ c.is_some.ensures c.if-is_some.true

pub loop-one-preserved : goal.loop-one-preserved
loop-one-preserved c =
    let b = c.args.setting.now.board.now in
    let player = c.args.player in
    let all = c.list-all.result.now in
    let i = c.loop-one.one-index in
    let one = get_or all i 0 in
    record {
      adds = record {
        losses = c.loop-other.invariant.adds.losses;
        kept = λ place loss there. c.loop-other.invariant.adds.kept place loss (c.loop-one.invariant.adds.kept place loss there);
      };
      none = λ room. before_more (λ _ first. (other : ℕ) → Contains all other → IsPairGivenUp b player first other) all i one
          (slice_get-get_or all i 0 c.loop-one-test.true)
          (c.loop-one.invariant.none (room-before c.loop-one.self c.loop-other.self c.loop-other.invariant.adds.kept room))
          (found-listed all (IsPairGivenUp b player one) c.loop-other.other-index c.loop-other-test.false (c.loop-other.invariant.none room));
    }

pub returns-clause-none : goal.returns-clause-none
returns-clause-none c = λ room one other has_one has_other.
    let b = c.args.setting.now.board.now in
    let all = c.list-all.result.now in
    let here : (n : ℕ) → Contains c.args.boxes.now n → Contains all n = λ n. subst (λ (list : List ℕ). Contains list n) (sym c.list-all.ensures.list) in
    found-listed all (λ first. (second : ℕ) → Contains all second → IsPairGivenUp b c.args.player first second) c.loop-one.one-index c.loop-one-test.false
    (c.loop-one.invariant.none room) one (here one has_one) other (here other has_other)

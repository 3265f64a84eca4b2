use Rattle.std.proofs.Common.{ap, ◌∙◌, ◌≡◌, ◌<◌, ◌+◌, length, refl, subst, sym, true≢false, arith, get_or, set, bit_and, bit_or, ℕ, List}
use Rattle.std.proofs.lemmas.List.{set-get_or}
use Rattle.sok_field.specs.declared.crossing.News.{News}
use Rattle.sok_field.specs.Crossings.{IsCrossed}
use Rattle.sok_field.specs.Rounds.{from_high, from_low}
use Rattle.sok_field.proofs.Closed.{or-zero, xor-zero}
use Rattle.sok_field.proofs.Seams.{AreAcross, AreAcross-more, AreAcross-stays, every-across, none-across}
use Rattle.sok_field.proofs.crossing.cross.Goals as goal
use Rattle.sok_field.proofs.crossing.cross.Goals.{After-loop-r, then-more_left-left, then-more_left-left-via-then-more_left-left, then-more_left-left-via-else-more_left-left+then-more_right-right, else-more_left-left+else-more_right-right}

pub loop-r-init : goal.loop-r-init
loop-r-init c = record {
  low = record { whole = refl; done = λ k below. absurd (omega (arith, below)); rest = λ k _. c.requires.closed_low k };
  high = record { whole = refl; done = λ k below. absurd (omega (arith, below)); rest = λ k _. c.requires.closed_high k };
  more = λ e. cc;
  first = λ e. cc;
  last = λ e. cc;
  same_low = λ _. refl;
  same_high = λ _. refl;
  same = λ _. (refl, refl);
}

-- the rows from here on are as they were
pub loop-r-preserved : goal.loop-r-preserved
loop-r-preserved c =
    let r = c.loop-r.r in
    let low = c.loop-r.low in
    let high = c.loop-r.high in
    let first = c.args.low.now in
    let second = c.args.high.now in
    let free_low = c.args.free_low.now in
    let free_high = c.args.free_high.now in
    let so_far = c.loop-r.invariant in
    let left : get_or first r 0 ≡ get_or low r 0 = c.requires.closed_low r ∙ sym (so_far.low.rest r (omega arith)) in
    let right : get_or second r 0 ≡ get_or high r 0 = c.requires.closed_high r ∙ sym (so_far.high.rest r (omega arith)) in
    let into_low = λ (n : ℕ). bit_or (get_or low r 0) (bit_and (get_or free_low r 0) (from_high n)) in
    let into_high = λ (n : ℕ). bit_or (get_or high r 0) (bit_and (get_or free_high r 0) (from_low n)) in
    let lower = λ (out : List ℕ). AreAcross (λ k. from_high (get_or second k 0)) first free_low out (r + 1) in
    let upper = λ (out : List ℕ). AreAcross (λ k. from_low (get_or first k 0)) second free_high out (r + 1) in
    elim c.if-more_left-left.branch [
      | then-more_left-left w ↦ record {
        low = subst lower (sym w.low-is) (subst (λ n. lower (set low r (into_low n))) right (AreAcross-more so_far.low (omega arith)));
        high = subst upper (sym w.high-is) (subst (λ n. upper (set high r (into_high n))) left (AreAcross-more so_far.high (omega arith)));
        more = λ _ closed. elim w.then-more_left-left.branch [
          | then-more_left-left-via-then-more_left-left w' ↦ w'.if-more_left-left.true
              (subst (λ n. into_low n ≡ get_or low r 0) right (none-across so_far.low (c.requires.closed_low r) (closed.round_low r)))
          | then-more_left-left-via-else-more_left-left+then-more_right-right w' ↦ w'.if-more_right-right.true
              (subst (λ n. into_high n ≡ get_or high r 0) left (none-across so_far.high (c.requires.closed_high r) (closed.round_high r)))
        ];
        first = λ _. let is = ap (λ (n : News). n.first) w.news-is in omega (arith, is, w.min.ensures);
        last = λ _. let is = ap (λ (n : News). n.last) w.news-is in omega (arith, is);
        same_low = λ e.
            let (before, none) = or-zero _ _ (sym (ap (λ (n : News). n.low) w.news-is) ∙ e) in
            w.low-is ∙ ap (set low r) (xor-zero _ _ none) ∙ set-get_or low r 0 ∙ so_far.same_low before;
        same_high = λ e.
            let (before, none) = or-zero _ _ (sym (ap (λ (n : News). n.high) w.news-is) ∙ e) in
            w.high-is ∙ ap (set high r) (xor-zero _ _ none) ∙ set-get_or high r 0 ∙ so_far.same_high before;
        same = λ e. absurd (true≢false (sym w.changed-is ∙ e));
      }
      | else-more_left-left+else-more_right-right w ↦ record {
        low = subst lower (sym w.low-is)
            (AreAcross-stays so_far.low (subst (λ n. into_low n ≡ get_or low r 0) (sym right) w.if-more_left-left.false));
        high = subst upper (sym w.high-is)
            (AreAcross-stays so_far.high (subst (λ n. into_high n ≡ get_or high r 0) (sym left) w.if-more_right-right.false));
        more = λ e. so_far.more (sym w.changed-is ∙ e);
        first = λ e. subst (λ (n : News). n.first < length first) (sym w.news-is) (so_far.first (sym w.changed-is ∙ e));
        last = λ e. subst (λ (n : News). n.last < length first) (sym w.news-is) (so_far.last (sym w.changed-is ∙ e));
        same_low = λ e. w.low-is ∙ so_far.same_low (sym (ap (λ (n : News). n.low) w.news-is) ∙ e);
        same_high = λ e. w.high-is ∙ so_far.same_high (sym (ap (λ (n : News). n.high) w.news-is) ∙ e);
        same = λ e. (w.low-is ∙ (so_far.same (sym w.changed-is ∙ e)).0, w.high-is ∙ (so_far.same (sym w.changed-is ∙ e)).1);
      }
    ]

crossed : (c : After-loop-r) → IsCrossed c.args.free_low.now c.args.free_high.now c.args.low.now c.args.high.now c.loop-r.low c.loop-r.high
crossed c = record {
  whole_low = c.loop-r.invariant.low.whole;
  whole_high = c.loop-r.invariant.high.whole;
  round_low = every-across c.loop-r.invariant.low (omega arith) (omega arith);
  round_high = every-across c.loop-r.invariant.high (omega arith) (omega arith);
}

pub returns-then-changed-clause-crossed : goal.returns-then-changed-clause-crossed
returns-then-changed-clause-crossed c = crossed (goal.at.returns-then-changed-clause-crossed c).After-loop-r

pub returns-else-changed-clause-crossed : goal.returns-else-changed-clause-crossed
returns-else-changed-clause-crossed c = crossed (goal.at.returns-else-changed-clause-crossed c).After-loop-r

pub returns-else-changed-clause-closed : goal.returns-else-changed-clause-closed
returns-else-changed-clause-closed c =
    let (same_low, same_high) = c.loop-r.invariant.same c.if-changed.false in
    subst (λ (T : Type 0). T)
    (λ i. IsCrossed c.args.free_low.now c.args.free_high.now (sym same_low i) (sym same_high i) c.loop-r.low c.loop-r.high)
    (crossed (goal.at.returns-else-changed-clause-closed c).After-loop-r)

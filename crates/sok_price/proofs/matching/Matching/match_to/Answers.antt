use Rattle.sok_price.proofs.Words.{All, KeptMatching, Serves, arith, common_steps, length, range_with_len, subst, sym, ◌<◌, ◌∙◌}
use Rattle.sok_price.proofs.Sparing.{IsCrowd-many, IsSound-set}
use Rattle.sok_price.proofs.matching.Matching.match_to.Goals as goal

pub invariant_of-self : goal.invariant_of-self
invariant_of-self c =
    let found = c.match_boxes-self-inside.ensures in
    IsSound-set c.self.invariant found.kept found.shaped found.settled (grind (arith, common_steps))

pub returns-clause-matched : goal.returns-clause-matched
returns-clause-matched c = λ yes.
    let found = c.match_boxes-self-inside.ensures in
    let settled = found.settled yes in
    record {
      matched = yes;
      whole = settled.whole;
      square = found.kept.whole ∙ c.self.invariant.square;
      are_rows = found.kept.are_rows;
      exactly = settled.exactly;
      exist = subst (λ (kept : KeptMatching). All (λ square. square < kept.squares) c.args.boxes.now) (sym c.self.view_is) c.requires.exist;
      rising = c.requires.rising;
    }

pub returns-clause-crowd : goal.returns-clause-crowd
returns-clause-crowd c = λ no b serves.
    let before = subst (Serves b) (sym c.self.view_is) serves in
    c.match_boxes-self-inside.ensures.crowd no b (sym before.squares) before.tabled

pub returns-then-boxes-len-clause-crowd : goal.returns-then-boxes-len-clause-crowd
returns-then-boxes-len-clause-crowd c = λ _ b serves.
    let before = subst (Serves b) (sym c.self.view_is) serves in (
      range_with_len 0 (length c.args.boxes.now),
      IsCrowd-many b c.args.boxes.now (omega (arith, before.tabled.goals_are, c.self.invariant.square, c.if-boxes-len.true)),
    )

use Rattle.std.proofs.Common.{refl, sym, ◌∙◌, true≢false, arith, below_more, get_or}
use Rattle.sok_bar.specs.Reached.{Reaches}
use Rattle.sok_bar.proofs.Rising.{each_member, member_at}
use Rattle.sok_bar.proofs.crowd.is_reached.Goals as goal

pub returns-then-reaches : goal.returns-then-reaches
returns-then-reaches c = (
  (λ _. record {
    from = get_or c.args.boxes.now (get_or c.args.members.now c.loop-member.member-index 0) 0;
    member = member_at c.args.boxes.now c.args.members.now c.loop-member.member-index c.requires.listed c.loop-member-test.true;
    reaches = c.reaches.ensures.0 c.if-reaches.true;
  }),
  λ _. refl,
)

pub loop-member-preserved : goal.loop-member-preserved
loop-member-preserved c = below_more _ _ c.loop-member.invariant (λ reaches. true≢false (sym (c.reaches.ensures.1 reaches) ∙ c.if-reaches.false))

pub returns : goal.returns
returns c = (
  (λ none. absurd (true≢false (sym none))),
  λ reached.
      let all = c.loop-member-test.false in
      absurd (each_member (λ s. Reaches c.args.distances.now.board s c.args.goal → ⊥) c.args.boxes.now c.args.members.now
      (λ k within. c.loop-member.invariant k (omega (arith, within, all))) reached.from reached.member reached.reaches),
)

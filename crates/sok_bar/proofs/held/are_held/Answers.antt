use Rattle.std.proofs.Common.{refl, sym, ◌∙◌, true≢false, below_more, arith}
use Rattle.sok_price.specs.Prices.{IsMember}
use Rattle.sok_bar.specs.Jam.{IsHeld}
use Rattle.sok_bar.proofs.Rising.{each_member, member_at}
use Rattle.sok_bar.proofs.held.are_held.Goals as goal

pub loop-member-preserved : goal.loop-member-preserved
loop-member-preserved c = below_more _ _ c.loop-member.invariant (c.is_held.ensures.0 c.if-not-is_held.false)

pub returns-then-not-is_held : goal.returns-then-not-is_held
returns-then-not-is_held c = (
  (λ none. absurd (true≢false (sym none))),
  λ held.
      let one = member_at c.args.boxes.now c.args.members.now c.loop-member.member-index c.requires.listed c.loop-member-test.true in
      absurd (true≢false (sym (c.is_held.ensures.1 (held _ one)) ∙ c.if-not-is_held.true)),
)

pub returns : goal.returns
returns c = (
  (λ _. let all = c.loop-member-test.false in
      each_member (IsHeld c.args.setting.now.board.now (IsMember c.args.boxes.now c.args.members.now)) c.args.boxes.now c.args.members.now
      (λ k within. c.loop-member.invariant k (omega (arith, within, all)))),
  λ _. refl,
)

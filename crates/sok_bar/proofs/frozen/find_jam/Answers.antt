use Rattle.std.proofs.Common.{ℕ, ◌≡◌, sym, ◌∙◌, subst, true, true≢false, List, Contains}
use Rattle.sok_bar.specs.Jam.{HasJams, HasOneOffGoal, IsJam}
use Rattle.sok_bar.proofs.frozen.find_jam.Goals as goal

pub returns-clause-none : goal.returns-clause-none
returns-clause-none c = λ jam is_jam.
    let boxes : List ℕ = c.list-boxes.result.now in
    let held : List ℕ = c.in_ok-members.members.items in
    let jammed : IsJam c.args.setting.now.board.now boxes jam = subst (λ (bs : List ℕ). IsJam c.args.setting.now.board.now bs jam) (sym c.list-boxes.ensures.list) is_jam in
    let most : (k : ℕ) → Contains jam k → Contains held k = c.in_ok-members.ensures.jams.most jam jammed in
    let off_goal : HasOneOffGoal c.args.setting.now.board.now boxes held = let (s, (k, other, there), off) = jammed.off_goal in (s, (k, most k other, there), off) in
    let found : c.has_one_off_goal.result ≡ true =
    c.has_one_off_goal.ensures.1 (subst (HasOneOffGoal c.args.setting.now.board.now boxes) (sym c.deref.ensures.value) off_goal) in
    true≢false (sym found ∙ c.if-has_one_off_goal.false)

pub returns-then-has_one_off_goal-clause-jam : goal.returns-then-has_one_off_goal-clause-jam
returns-then-has_one_off_goal-clause-jam c =
    let off_goal = subst (HasOneOffGoal c.args.setting.now.board.now c.list-boxes.result.now) c.deref.ensures.value
    (c.has_one_off_goal.ensures.0 c.if-has_one_off_goal.true) in
    subst (λ (bs : List ℕ). IsJam c.args.setting.now.board.now bs c.in_ok-members.members.items) c.list-boxes.ensures.list
    (record { listed = c.in_ok-members.ensures.jams.listed; held = c.in_ok-members.ensures.held; off_goal = off_goal })

pub returns-then-has_one_off_goal-clause-most : goal.returns-then-has_one_off_goal-clause-most
returns-then-has_one_off_goal-clause-most c =
    subst (λ (bs : List ℕ). HasJams c.args.setting.now.board.now bs c.in_ok-members.members.items) c.list-boxes.ensures.list c.in_ok-members.ensures.jams

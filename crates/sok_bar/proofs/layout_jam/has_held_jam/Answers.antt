use Rattle.std.proofs.Common.{ℕ, sym, ◌∙◌, subst, true≢false, List}
use Rattle.sok_bar.specs.Narrowed.{HasDrawnOffGoal}
use Rattle.sok_bar.proofs.Narrowing.{HasJamWith-narrowed, IsNarrowed-same, narrowed-jam}
use Rattle.sok_bar.proofs.layout_jam.has_held_jam.Goals as goal

pub returns-then-narrow : goal.returns-then-narrow
returns-then-narrow c = λ boxes laid.
    let b = c.args.setting.now.board.now in
    let layout = c.args.layout.now in
    let narrowed = IsNarrowed-same _ _ _ _ _ _ _ _ c.boxes.ensures (c.copy_from.ensures ∙ c.boxed.ensures) c.narrow.ensures in (
      λ off. HasJamWith-narrowed b c.requires.accepted.numbered boxes layout laid c.narrow.new.held c.args.square c.narrow.result narrowed c.if-narrow.true
          (subst (λ (squares : List ℕ). HasDrawnOffGoal b squares c.narrow.new.held) c.boxes-then-narrow.ensures (c.has_off_goal.ensures.0 off)),
      λ jam.
          let (_, off) = narrowed-jam b c.requires.accepted.numbered boxes layout laid c.narrow.new.held c.args.square c.narrow.result narrowed jam in
          c.has_off_goal.ensures.1 (subst (λ (squares : List ℕ). HasDrawnOffGoal b squares c.narrow.new.held) (sym c.boxes-then-narrow.ensures) off),
    )

pub returns-else-narrow : goal.returns-else-narrow
returns-else-narrow c = λ boxes laid.
    let b = c.args.setting.now.board.now in
    let layout = c.args.layout.now in
    let narrowed = IsNarrowed-same _ _ _ _ _ _ _ _ c.boxes.ensures (c.copy_from.ensures ∙ c.boxed.ensures) c.narrow.ensures in (
      λ stayed. absurd (true≢false (sym stayed ∙ c.if-narrow.false)),
      λ jam. (narrowed-jam b c.requires.accepted.numbered boxes layout laid c.narrow.new.held c.args.square c.narrow.result narrowed jam).0,
    )

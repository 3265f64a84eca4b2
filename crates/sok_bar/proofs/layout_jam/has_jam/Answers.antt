use Rattle.std.proofs.Common.{ℕ, sym, ◌∙◌, subst, true≢false, List}
use Rattle.sok_bar.specs.Jam.{IsHeld}
use Rattle.sok_bar.specs.Settings.{IsDrawn}
use Rattle.sok_bar.proofs.Narrowing.{KeepsJams-laid, loose-alone}
use Rattle.sok_bar.proofs.layout_jam.has_jam.Goals as goal

pub returns-then-not-is_held : goal.returns-then-not-is_held
returns-then-not-is_held c = λ boxes laid. (
  (λ e. absurd (true≢false (sym e))),
  λ jam. absurd (loose-alone c.args.setting.now.board.now boxes c.args.layout.now.boxed c.args.square
      (KeepsJams-laid c.args.setting.now.board.now c.requires.accepted.numbered boxes c.args.layout.now laid)
      (λ held. true≢false (sym (c.is_held.ensures.1 (subst (λ (rows : List ℕ). IsHeld c.args.setting.now.board.now (IsDrawn c.args.setting.now.board.now rows) c.args.square)
      (sym c.boxed.ensures) held)) ∙ c.if-not-is_held.true)) jam),
)

use Rattle.std.proofs.Common.{inl, inr}
use Rattle.std.proofs.lemmas.Result.{on_ok_weaker}
use Rattle.sok_search.proofs.Corralling.{MayBegin-fence}
use Rattle.sok_search.proofs.expanding.Scratch.narrow.Goals as goal

pub returns-clause-enough : goal.returns-clause-enough
returns-clause-enough c =
    on_ok_weaker c.narrow.result (λ kept. elim kept [
      | inl all ↦ inl all
      | inr (fence, holds) ↦ inr (
        c.if-whole.false,
        MayBegin-fence c.args.setting.now.board.now c.requires.accepted c.args.key.now c.requires.state.is.placed fence holds.is_fence
            c.narrow.new.pushes.items holds.all,
      )
    ]) c.narrow.ensures.kept

use Rattle.std.proofs.Common.{Contains, List, get_or, inr, subst, sym, ℕ}
use Rattle.std.proofs.lemmas.List.Elements.{All-contains, All-contains_itself}
use Rattle.sok_state.specs.Pushes.{IsLegal}
use Rattle.sok_corral.proofs.fencing.FenceScratch.narrow.Goals as goal

pub returns-clause-legal : goal.returns-clause-legal
returns-clause-legal c = λ k d within.
    let kept = c.keep.new.pushes.items in
    All-contains (IsLegal c.args.setting.now.board.now c.args.key.now) c.args.pushes.now.items (get_or kept k d) c.requires.legal
    (c.keep.ensures.kept (get_or kept k d) (All-contains_itself kept k d within))

pub returns-clause-kept : goal.returns-clause-kept
returns-clause-kept c = inr (
  c.guess.new.scratch.best.items,
  record {
    is_fence = c.in_ok-guess.ensures.fence c.if-not-branch.false;
    all = λ push legal of. c.keep.ensures.all push (c.requires.whole push legal)
        (subst (λ (boxes : List ℕ). Contains boxes push.from) (sym c.deref-2.ensures.value) of);
  },
)

use Rattle.std.proofs.Common.{All, subst, sym}
use Rattle.std.proofs.lemmas.List.Elements.{All-push}
use Rattle.sok_bar.specs.declared.memo.Kept.{Kept}
use Rattle.sok_bar.specs.Memos.{IsClosedKept}
use Rattle.sok_bar.proofs.memo.Memo.keep.Goals as goal

pub returns-in_err-push : goal.returns-in_err-push
returns-in_err-push c = λ b closed keeps. record { each = subst (All (IsClosedKept b)) (sym c.in_err-push.ensures.items) keeps.each }

pub returns : goal.returns
returns c = λ b closed keeps.
    let list : Kept = record { key = c.args.key; inner = c.in_ok-inner.inner } in
    let is : IsClosedKept b list = subst (λ inner. IsClosedKept b (record { key = c.args.key; inner = inner })) (sym c.in_ok-inner.ensures) closed in
    record { each = subst (All (IsClosedKept b)) (sym c.in_ok-push.ensures.items) (All-push (IsClosedKept b) c.args.self.now.lists.items list keeps.each is) }

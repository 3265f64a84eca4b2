use Rattle.std.proofs.Common.{subst, sym}
use Rattle.std.proofs.lemmas.Result.{IfOk-weaker}
use Rattle.sok_alone.specs.declared.losses.Losses.{Losses}
use Rattle.sok_alone.specs.Losses.{KeepsPlaces, losses_of}
use Rattle.sok_alone.proofs.losses.Losses.loss_after.Goals as goal
use Rattle.sok_alone.proofs.losses.Losses.loss_after.Goals.{then-pairs+in_ok-found+else-is_some, else-pairs}

pub returns : goal.returns
returns c =
    let keeps = λ (one : Losses). KeepsPlaces (losses_of c.args.self.now) (losses_of one) in
    let kept : keeps c.if-pairs.self = elim c.if-pairs.branch [
      | then-pairs+in_ok-found+else-is_some w ↦ subst keeps (sym w.self-is) w.in_ok-found.ensures.kept
      | else-pairs w ↦ subst keeps (sym w.self-is) (λ place loss there. there)
    ] in
    IfOk-weaker c.loss_of_three-found.result _ _
    (λ found told. record {
      losses = record { room = told.losses.room; each = told.losses.each; numbered = told.losses.numbered; workspace = told.losses.workspace };
      kept = λ place loss there. told.kept place loss (kept place loss there);
      lost = told.lost;
    })
    c.loss_of_three-found.ensures

use Rattle.std.proofs.Common.{◌∷◌, ◌++◌, [], inl, inr, subst, arith}
use Rattle.std.proofs.lemmas.Result.{err_from_is_err_and}
use Rattle.sok_entry.specs.Stages.{AreWrong, IsStage}
use Rattle.sok_entry.proofs.Reaching.{Reached-few, Reached-more, Reached-wrong, Reached-ended}
use Rattle.sok_entry.proofs.reading.certificate_of.Goals as goal

pub returns-in_err-stage : goal.returns-in_err-stage
returns-in_err-stage c =
    let p = err_from_is_err_and c.from_residual.result c.from_residual.ensures.1 in
    let now = c.loop-line in
    let reached = now.invariant in
    let fault = c.in_err-stage.field-0.0 in
    rw (p.1, p.2)
    (elim (c.in_err-stage.ensures reached.passed reached.counted reached.at) [
      | inl memory ↦ inl memory
      | inr wrong ↦
          inr (Reached-wrong c.args.text.now now.stage now.entries.items now.lines now.rest.now reached c.in-Some.line.now c.in-Some.behind.now c.in-Some.ensures fault
          (subst (λ line. AreWrong (reached.passed ++ line ∷ []) fault) c.without_return-line.ensures wrong))
    ])

pub loop-line-preserved : goal.loop-line-preserved
loop-line-preserved c =
    let now = c.loop-line in
    let reached = now.invariant in
    let stage = c.in_ok-stage.stage in
    let entries = c.read_line.new.entries.items in
    Reached-more c.args.text.now now.stage now.entries.items now.lines now.rest.now reached c.in-Some.line.now c.in-Some.behind.now c.in-Some.ensures stage entries
    (subst (λ line. IsStage (reached.passed ++ line ∷ []) entries stage) c.without_return-line.ensures (c.in_ok-stage.ensures reached.passed reached.counted reached.at))

pub returns-in_err-claim : goal.returns-in_err-claim
returns-in_err-claim c =
    let p = err_from_is_err_and c.from_residual-in_err-claim.result c.from_residual-in_err-claim.ensures.1 in
    let now = c.loop-line in
    let reached = now.invariant in
    let split = Reached-ended c.args.text.now now.stage now.entries.items now.lines now.rest.now reached c.in_default.ensures in
    rw (p.1, p.2) (inr (c.in_err-claim.ensures c.args.text.now reached.passed now.entries.items reached.counted split reached.at))

pub returns : goal.returns
returns c =
    let now = c.loop-line in
    let reached = now.invariant in
    let split = Reached-ended c.args.text.now now.stage now.entries.items now.lines now.rest.now reached c.in_default.ensures in
    (c.in_ok-claim.ensures c.args.text.now reached.passed now.entries.items reached.counted split reached.at).0

pub overflow_add-lines : goal.overflow_add-lines
overflow_add-lines c =
    let now = c.loop-line in
    let few = Reached-few c.args.text.now now.stage now.entries.items now.lines now.rest.now now.invariant in
    omega arith

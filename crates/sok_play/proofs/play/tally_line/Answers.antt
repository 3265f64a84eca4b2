use Rattle.std.proofs.Common.{◌≡◌, ◌∙◌, ◌++◌, codes, append_assoc, string_bytes}
use Rattle.std.proofs.lemmas.Result.{IfOk-weaker}
use Rattle.std.specs.Fmt.{decimal}
use Rattle.sok_play.proofs.play.tally_line.Goals as goal

pub returns : goal.returns
returns c =
    let t = c.args.tally in
    let w = c.outcome_word-word in
    IfOk-weaker c.format.result _ _
    (λ line h. let e : string_bytes line ≡ w.result.now ++ (codes " " ++ (decimal t.pushes ++ (codes " " ++ (decimal t.moves ++ codes "\n")))) = h in
    e ∙ rw w.ensures (simp append_assoc)) c.format.ensures.ok

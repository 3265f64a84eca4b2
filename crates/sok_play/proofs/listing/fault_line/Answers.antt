use Rattle.std.proofs.Common.{◌≡◌, ◌∙◌, ◌++◌, codes, append_assoc, string_bytes}
use Rattle.std.proofs.lemmas.Result.{IfOk-weaker}
use Rattle.std.specs.Fmt.{decimal}
use Rattle.sok_engine.specs.FaultLines.{fault_words}
use Rattle.sok_play.proofs.listing.fault_line.Goals as goal

pub returns : goal.returns
returns c =
    IfOk-weaker c.format.result _ _
    (λ line h title. let e : string_bytes line ≡ decimal c.args.n ++ (codes " " ++ (fault_words c.from-told.result ++ codes "\n")) = h in
    e ∙ rw c.from-told.ensures (simp append_assoc)) c.format.ensures.ok

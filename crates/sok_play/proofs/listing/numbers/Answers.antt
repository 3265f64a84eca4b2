use Rattle.std.proofs.Common.{◌≡◌, ◌∙◌, ◌++◌, append_assoc, codes, string_bytes}
use Rattle.std.proofs.lemmas.Result.{IfOk-weaker}
use Rattle.std.specs.Fmt.{decimal}
use Rattle.sok_play.proofs.listing.numbers.Goals as goal

pub returns : goal.returns
returns c =
    let rows = c.height-rows in
    let columns = c.width-columns in
    let boxes = c.boxes-boxes in
    let goals = c.goals-goals in
    IfOk-weaker c.format.result _ _
    (λ line h. let e : string_bytes line ≡ decimal c.args.n ++ (codes " " ++ (decimal rows.result ++ (codes " " ++ (decimal columns.result
    ++ (codes " " ++ (decimal boxes.result ++ (codes " " ++ decimal goals.result))))))) = h in
    e ∙ rw (rows.ensures, columns.ensures, boxes.ensures, goals.ensures) (simp append_assoc)) c.format.ensures.ok

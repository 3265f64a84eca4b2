use Rattle.std.proofs.Common.{◌≡◌, ◌∙◌, List, [], ap, sym}
use Rattle.std.specs.Option.{option_map_or}
use Rattle.sok_cert.specs.Claim.{Claim}
use Rattle.sok_cert.specs.Entry.{Entry}
use Rattle.sok_cert.specs.Text.{text_of}
use Rattle.sok_solve.specs.Lines.{HasLines}
use Rattle.sok_solve.specs.Solves.{best_of, cert_of}
use Rattle.sok_solve.proofs.Solving.{has_proved, proof_more}
use Rattle.sok_solve.proofs.solve.certified.Goals as goal

pub report-requires : goal.report-requires
report-requires c =
    let task = c.args.task.now in
    has_proved (HasLines c.args.taken) c.args.level.now task.limit task.bound (best_of task) c.args.found.now c.requires

pub returns-in_ok-cert-in-Some : goal.returns-in_ok-cert-in-Some
returns-in_ok-cert-in-Some c =
    let task = c.args.task.now in
    let found = c.args.found.now in
    let text : (entries : List Entry) → HasLines c.args.taken entries → c.in_ok-cert-in-Some.cert ≡ cert_of task found entries = λ entries took.
    c.in_ok-cert-in-Some.ensures entries took ∙ ap (λ o. option_map_or (λ (shown : Claim). text_of shown entries) o [])
    (sym c.in-Some.is ∙ c.claim_shown.ensures) in
    record {
      found = found;
      shown = proof_more (HasLines c.args.taken) _ text c.args.level.now task.limit task.bound (best_of task) found c.requires;
      answer_is = c.in_ok-answer.ensures;
    }

pub returns-in-None : goal.returns-in-None
returns-in-None c =
    let task = c.args.task.now in
    let found = c.args.found.now in
    let none : (entries : List Entry) → HasLines c.args.taken entries → [] ≡ cert_of task found entries = λ entries took.
    ap (λ o. option_map_or (λ (shown : Claim). text_of shown entries) o []) (sym c.in-None.is ∙ c.claim_shown.ensures) in
    record {
      found = found;
      shown = proof_more (HasLines c.args.taken) _ none c.args.level.now task.limit task.bound (best_of task) found c.requires;
      answer_is = c.in_ok-answer.ensures;
    }

use Rattle.std.proofs.Common.{◌≡◌, ◌∙◌, ap, arith, Some}
use Rattle.std.proofs.lemmas.Bool.Decides.{nat_tests}
use Rattle.sok_alone.proofs.meeting.is_live.Goals as goal

pub returns-in-Some : goal.returns-in-Some
returns-in-Some c = λ zero.
    let is : c.depth.result ≡ 0 = grind (arith, nat_tests, zero) in
    record { index = c.in-Some.index; there = c.in-Some.ensures; zero_deep = c.depth.ensures ∙ ap Some is }

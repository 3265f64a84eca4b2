use Rattle.std.proofs.Common.{Option, IfSome, Vec, subst}
use Rattle.std.specs.declared.alloc.Global.{Global}
use Rattle.sok_price.specs.declared.assign.Match.TheVariants.{Crowd}
use Rattle.sok_price.specs.Matches.{IsMatch}
use Rattle.sok_bar.specs.Bars.{Barring}
use Rattle.sok_bar.specs.Jam.{IsJam}
use Rattle.sok_search.proofs.judging.judge.Goals as goal

pub returns-in-Some-clause-judged : goal.returns-in-Some-clause-judged
returns-in-Some-clause-judged c =
    let jam = subst (λ (found : Option (Vec _ Global)). IfSome found (λ members. IsJam c.args.setting.now.board.now c.args.key.now.boxes members.items)) c.in-Some.is
    c.in_ok-_jam.ensures.jam in
    (Barring.frozen c.in-Some._jam.items, tt, λ player rest. jam)

pub returns-in-Crowd-clause-judged : goal.returns-in-Crowd-clause-judged
returns-in-Crowd-clause-judged c =
    let crowd : IsMatch c.args.setting.now.board.now c.args.key.now.boxes (Crowd c.in-Crowd.members) =
    subst (IsMatch c.args.setting.now.board.now c.args.key.now.boxes) c.in-Crowd.is (subst (λ b. IsMatch b c.args.key.now.boxes c.in_ok-total.field-0) c.args.setting.now.own c.in_ok-total.ensures) in
    (Barring.crowd c.in-Crowd.members.items, tt, λ player rest. crowd)

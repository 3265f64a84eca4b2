use Rattle.std.proofs.Common.{All, List, ℕ, subst}
use Rattle.sok_rules.specs.declared.cell.Dir.{Dir}
use Rattle.sok_corral.specs.Fencing.{AreShutAlong, IsAstray, TellsShut}
use Rattle.sok_corral.proofs.Shutting.{IsFence-shut}
use Rattle.sok_corral.proofs.guessing.guess_around.Goals as goal

pub returns-in-Shut-clause-fence : goal.returns-in-Shut-clause-fence
returns-in-Shut-clause-fence c =
    let b = c.args.setting.now.board.now in
    let scene = c.args.scene.now in
    let lone = c.lay.new.self in
    let (s, astray) = c.is_astray.ensures c.if-not-is_astray.false in
    IsFence-shut b c.args.key.now scene lone c.requires.opened c.in_ok-lay.ensures.lone
    (subst (TellsShut b (All (λ from. (d : Dir) → AreShutAlong b scene lone from d) lone.boxes.items)) c.in-Shut.is c.look.ensures.shut)
    s (subst (λ (boxes : List ℕ). IsAstray b boxes lone.reached s) c.list-boxes.ensures.list astray)

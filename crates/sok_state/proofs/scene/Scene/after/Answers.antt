use Rattle.std.proofs.Common.{refl}
use Rattle.sok_state.proofs.scene.Scene.after.Goals as goal

pub returns-clause-after : goal.returns-clause-after
returns-clause-after c =
    let moved = c.in_ok-boxes.ensures in
    c.step-least.ensures.next _ (record { moved = moved.moved; rising = moved.rising; least_is = refl })

use Rattle.std.proofs.Common.{◌≡◌, ◌+◌, ap, sym, ◌∙◌, subst, if◌then◌else◌, arith}
use Rattle.sok_rules.specs.declared.scene.Occupant.TheVariants.{Nobody, Man, Box}
use Rattle.sok_rules.specs.Squares.{holds, is_box, is_goal}
use Rattle.sok_rules.specs.Play.{moved}
use Rattle.sok_rules.specs.Scene.{IsScene, with_occupant}
use Rattle.sok_rules.specs.Levels.{cells_of}
use Rattle.sok_rules.proofs.Scenes.{Redraws, IsScene-Redraws, SameGround-after, SameGround-left, start-Redraws, shifts, man_open, some_astray, few_astray}
use Rattle.sok_rules.proofs.scene.Scene.shift.Goals as goal

pub put-requires : goal.put-requires
put-requires c = man_open _ _ _ c.self.invariant

pub put-left_goal-requires : goal.put-left_goal-requires
put-left_goal-requires c =
    let left = SameGround-left _ _ _ _ _ c.self.view_is c.self.invariant c.put.ensures.cells in
    left.opened c.args.from ∙ c.requires.from_open

pub put-meets_goal-requires : goal.put-meets_goal-requires
put-meets_goal-requires c =
    let left = SameGround-left _ _ _ _ _ c.self.view_is c.self.invariant c.put.ensures.cells in
    let lifted = SameGround-after _ _ _ c.args.from Nobody left c.put-left_goal.ensures.cells c.requires.from_open in
    lifted.opened c.args.to ∙ c.requires.to_open

pub put-requires-2 : goal.put-requires-2
put-requires-2 c =
    let left = SameGround-left _ _ _ _ _ c.self.view_is c.self.invariant c.put.ensures.cells in
    let lifted = SameGround-after _ _ _ c.args.from Nobody left c.put-left_goal.ensures.cells c.requires.from_open in
    let set_down = SameGround-after _ _ _ c.args.to Box lifted c.put-meets_goal.ensures.cells c.requires.to_open in
    set_down.opened c.args.man ∙ c.requires.man_open

pub astray_after-self-inside-requires-clause-some : goal.astray_after-self-inside-requires-clause-some
astray_after-self-inside-requires-clause-some c =
    let man = c.self.inside.man in
    let scene = subst (λ rows. IsScene rows man c.self.inside.astray) c.self.view_is c.self.invariant in
    let left = SameGround-left _ _ _ _ _ c.self.view_is c.self.invariant c.put.ensures.cells in
    some_astray c.args.self.now man c.args.from c.self.inside.astray scene c.requires.box_there c.put-left_goal.result (c.put-left_goal.ensures.goal
    ∙ left.goals c.args.from)

pub astray_after-self-inside-requires-clause-few : goal.astray_after-self-inside-requires-clause-few
astray_after-self-inside-requires-clause-few c = omega (arith, few_astray _ _ _ c.self.invariant)

leads : (c : goal.After-self-1) → Redraws c.args.self.now (cells_of c.put-2.new.cells.items) c.args.man
    (moved (holds is_box c.args.self.now) c.args.from c.args.to) c.astray_after-self-inside.result
leads c =
    let now = c.args.self.now in
    let man = c.self.inside.man in
    let astray = c.self.inside.astray in
    let scene = subst (λ rows. IsScene rows man astray) c.self.view_is c.self.invariant in
    let left = SameGround-left _ _ _ _ _ c.self.view_is c.self.invariant c.put.ensures.cells in
    let lifted = SameGround-after _ _ _ c.args.from Nobody left c.put-left_goal.ensures.cells c.requires.from_open in
    let left_goal = c.put-left_goal.ensures.goal ∙ left.goals c.args.from in
    let meets_goal = c.put-meets_goal.ensures.goal ∙ lifted.goals c.args.to in
    let balance : c.astray_after-self-inside.result + (if holds is_goal now c.args.from then 0 else 1)
    ≡ astray + (if holds is_goal now c.args.to then 0 else 1) =
    ap (λ b. c.astray_after-self-inside.result + (if b then 0 else 1)) (sym left_goal) ∙ c.astray_after-self-inside.ensures
    ∙ ap (λ b. astray + (if b then 0 else 1)) meets_goal in
    subst (λ new. Redraws now new c.args.man (moved (holds is_box now) c.args.from c.args.to) c.astray_after-self-inside.result)
    (ap (λ rows. with_occupant (with_occupant (with_occupant (with_occupant rows man Nobody) c.args.from Nobody) c.args.to Box) c.args.man Man)
    (sym c.self.view_is)
    ∙ ap (λ rows. with_occupant (with_occupant (with_occupant rows c.args.from Nobody) c.args.to Box) c.args.man Man) (sym c.put.ensures.cells)
    ∙ ap (λ rows. with_occupant (with_occupant rows c.args.to Box) c.args.man Man) (sym c.put-left_goal.ensures.cells)
    ∙ ap (λ rows. with_occupant rows c.args.man Man) (sym c.put-meets_goal.ensures.cells) ∙ sym c.put-2.ensures.cells)
    (shifts now man c.args.from c.args.to c.args.man astray c.astray_after-self-inside.result scene c.requires.from_open c.requires.box_there
    c.requires.to_open c.requires.to_free
    c.requires.man_open c.requires.man_free balance)

pub invariant_of-self : goal.invariant_of-self
invariant_of-self c =
    IsScene-Redraws c.args.self.now _ c.self.inside.man c.args.man (moved (holds is_box c.args.self.now) c.args.from c.args.to) c.self.inside.astray _
    (subst (λ rows. IsScene rows c.self.inside.man c.self.inside.astray) c.self.view_is c.self.invariant) (leads c)

pub returns-clause-ground : goal.returns-clause-ground
returns-clause-ground c = (leads c).ground

pub returns-clause-position : goal.returns-clause-position
returns-clause-position c = start-Redraws c.args.self.now _ c.args.man
    (moved (holds is_box c.args.self.now) c.args.from c.args.to) c.astray_after-self-inside.result (leads c)

use Rattle.std.proofs.Common.{◌≡◌, ap, sym, ◌∙◌, subst, refl, true, false, Some, None, MatchOption}
use Rattle.sok_rules.specs.Squares.{holds, is_box}
use Rattle.sok_rules.specs.Play.{Position, start, step}
use Rattle.sok_rules.specs.Scene.{IsScene, Steps}
use Rattle.sok_rules.proofs.Scenes.{man_open, start-IsScene}
use Rattle.sok_rules.proofs.Spots.{apart_next}
use Rattle.sok_rules.proofs.Moved.{moved-from}
use Rattle.sok_rules.proofs.Steps.{step-wall, step-walk, step-box_at_wall, step-box}
use Rattle.sok_rules.proofs.scene.Scene.step.Goals as goal

pub open_beside-requires : goal.open_beside-requires
open_beside-requires c = man_open _ _ _ (subst (λ rows. IsScene rows c.self.inside.man c.self.inside.astray) c.self.view_is c.self.invariant)

pub returns-in_err-ahead : goal.returns-in_err-ahead
returns-in_err-ahead c =
    let now = c.args.self.now in
    let scene = subst (λ rows. IsScene rows c.self.inside.man c.self.inside.astray) c.self.view_is c.self.invariant in
    subst (λ r. MatchOption r ((step now c.args.dir (start now) ≡ None) × (now ≡ now)) (λ pushed. Steps now c.args.dir pushed now))
    (sym c.from_residual.ensures) (
      ap (step now c.args.dir) (start-IsScene now _ _ scene)
          ∙ step-wall now c.args.dir (record { man = c.self.inside.man; boxes = holds is_box now }) c.in_err-ahead.ensures,
      refl,
    )

pub returns-then-not-has_box : goal.returns-then-not-has_box
returns-then-not-has_box c =
    let now = c.args.self.now in
    let scene = subst (λ rows. IsScene rows c.self.inside.man c.self.inside.astray) c.self.view_is c.self.invariant in
    let ahead = c.in_ok-ahead.ensures in
    record {
      ground = c.walk.ensures.ground;
      leads = ap (step now c.args.dir) (start-IsScene now _ _ scene)
          ∙ step-walk now c.args.dir (record { man = c.self.inside.man; boxes = holds is_box now }) c.in_ok-ahead.ahead ahead.is_next ahead.opened
          (ahead.box_there ∙ c.if-not-has_box.true)
          ∙ ap (λ (x : Position). Some (record { position = x; pushed = false })) (sym c.walk.ensures.position);
    }

pub returns-in_err-beyond : goal.returns-in_err-beyond
returns-in_err-beyond c =
    let now = c.args.self.now in
    let scene = subst (λ rows. IsScene rows c.self.inside.man c.self.inside.astray) c.self.view_is c.self.invariant in
    let ahead = c.in_ok-ahead.ensures in
    subst (λ r. MatchOption r ((step now c.args.dir (start now) ≡ None) × (now ≡ now)) (λ pushed. Steps now c.args.dir pushed now))
    (sym c.from_residual-in_err-beyond.ensures) (
      ap (step now c.args.dir) (start-IsScene now _ _ scene)
          ∙ step-box_at_wall now c.args.dir (record { man = c.self.inside.man; boxes = holds is_box now }) c.in_ok-ahead.ahead ahead.is_next ahead.opened
          (ahead.box_there ∙ c.if-not-has_box.false) c.in_err-beyond.ensures,
      refl,
    )

pub returns-then-is_held : goal.returns-then-is_held
returns-then-is_held c =
    let now = c.args.self.now in
    let scene = subst (λ rows. IsScene rows c.self.inside.man c.self.inside.astray) c.self.view_is c.self.invariant in
    let ahead = c.in_ok-ahead.ensures in
    let beyond = c.in_ok-beyond.ensures in (
      ap (step now c.args.dir) (start-IsScene now _ _ scene)
          ∙ step-box now c.args.dir (record {
            man = c.self.inside.man;
            boxes = holds is_box now;
          }) c.in_ok-ahead.ahead c.in_ok-beyond.beyond true ahead.is_next ahead.opened (ahead.box_there ∙ c.if-not-has_box.false)
          beyond.is_next beyond.opened (beyond.box_there ∙ c.if-is_held.true),
      refl,
    )

pub returns : goal.returns
returns c =
    let now = c.args.self.now in
    let scene = subst (λ rows. IsScene rows c.self.inside.man c.self.inside.astray) c.self.view_is c.self.invariant in
    let ahead = c.in_ok-ahead.ensures in
    let beyond = c.in_ok-beyond.ensures in
    record {
      ground = c.shift.ensures.ground;
      leads = ap (step now c.args.dir) (start-IsScene now _ _ scene)
          ∙ step-box now c.args.dir (record {
            man = c.self.inside.man;
            boxes = holds is_box now;
          }) c.in_ok-ahead.ahead c.in_ok-beyond.beyond false ahead.is_next ahead.opened
          (ahead.box_there ∙ c.if-not-has_box.false) beyond.is_next beyond.opened (beyond.box_there ∙ c.if-is_held.false)
          ∙ ap (λ (x : Position). Some (record { position = x; pushed = true })) (sym c.shift.ensures.position);
    }

pub shift-requires-clause-man_free : goal.shift-requires-clause-man_free
shift-requires-clause-man_free c =
    moved-from (holds is_box c.args.self.now) c.in_ok-ahead.ahead c.in_ok-beyond.beyond
    (apart_next c.args.dir c.in_ok-ahead.ahead c.in_ok-beyond.beyond c.in_ok-beyond.ensures.is_next)

use Rattle.std.proofs.Common.{ap, sym, ◌∙◌, subst, arith, IsSome, refl}
use Rattle.std.proofs.lemmas.Option.{same_Some}
use Rattle.sok_rules.specs.Squares.{holds, is_box, is_open, next}
use Rattle.sok_rules.specs.Play.{moved}
use Rattle.sok_rules.specs.Scene.{CameBy, IsScene}
use Rattle.sok_rules.proofs.Backs.{BackByPush-from_CameBy, BackByWalk-from_CameBy, behind-from_CameBy}
use Rattle.sok_rules.proofs.Scenes.{man_free, man_open, near-scene, start-IsScene}
use Rattle.sok_rules.proofs.scene.Scene.back.Goals as goal

pub next-requires-clause-row : goal.next-requires-clause-row
next-requires-clause-row c = omega (arith, (near-scene _ _ c.self.inside.man _ c.self.invariant (man_open _ _ _ c.self.invariant)).0)

pub next-requires-clause-col : goal.next-requires-clause-col
next-requires-clause-col c = omega (arith, (near-scene _ _ c.self.inside.man _ c.self.invariant (man_open _ _ _ c.self.invariant)).1)

pub unwrap-behind-requires : goal.unwrap-behind-requires
unwrap-behind-requires c =
    let now = c.args.self.now in
    let scene = subst (λ rows. IsScene rows c.self.inside.man c.self.inside.astray) c.self.view_is c.self.invariant in
    let behind = behind-from_CameBy now c.args.dir c.args.pushed c.self.inside.man c.requires.0 (start-IsScene now _ _ scene) c.requires.1 in
    subst IsSome (sym (c.next.ensures ∙ ap (λ d. next d c.self.inside.man) c.opposite.ensures ∙ behind)) refl

pub next-requires-then-pushed-clause-row : goal.next-requires-then-pushed-clause-row
next-requires-then-pushed-clause-row c = omega (arith, (near-scene _ _ c.self.inside.man _ c.self.invariant (man_open _ _ _ c.self.invariant)).0)

pub next-requires-then-pushed-clause-col : goal.next-requires-then-pushed-clause-col
next-requires-then-pushed-clause-col c = omega (arith, (near-scene _ _ c.self.inside.man _ c.self.invariant (man_open _ _ _ c.self.invariant)).1)

pub unwrap-ahead-requires : goal.unwrap-ahead-requires
unwrap-ahead-requires c =
    let now = c.args.self.now in
    let scene = subst (λ rows. IsScene rows c.self.inside.man c.self.inside.astray) c.self.view_is c.self.invariant in
    let came = subst (λ b. CameBy now c.args.dir b c.requires.0) c.if-pushed.true c.requires.1 in
    let push = BackByPush-from_CameBy now c.args.dir c.self.inside.man c.requires.0 (start-IsScene now _ _ scene) came in
    subst IsSome (sym (c.next-then-pushed.ensures ∙ push.1.is_ahead)) refl

pub shift-requires : goal.shift-requires
shift-requires c =
    let now = c.args.self.now in
    let man = c.self.inside.man in
    let scene = subst (λ rows. IsScene rows man c.self.inside.astray) c.self.view_is c.self.invariant in
    let came = subst (λ b. CameBy now c.args.dir b c.requires.0) c.if-pushed.true c.requires.1 in
    let push = (BackByPush-from_CameBy now c.args.dir man c.requires.0 (start-IsScene now _ _ scene) came).1 in
    let ahead = same_Some _ _ (sym c.unwrap-ahead.ensures ∙ c.next-then-pushed.ensures ∙ push.is_ahead) in
    let behind = same_Some _ _ (sym c.unwrap-behind.ensures ∙ c.next.ensures ∙ ap (λ d. next d man) c.opposite.ensures ∙ push.behind) in
    record {
      from_open = ap (holds is_open now) ahead ∙ push.ahead_open;
      box_there = ap (holds is_box now) ahead ∙ push.box_ahead;
      to_open = man_open now man _ scene;
      to_free = man_free now man _ scene;
      man_open = ap (holds is_open now) behind ∙ came.man_open;
      man_free = (λ i. moved (holds is_box now) (ahead i) man (behind i)) ∙ push.man_free;
    }

pub walk-requires : goal.walk-requires
walk-requires c =
    let now = c.args.self.now in
    let man = c.self.inside.man in
    let scene = subst (λ rows. IsScene rows man c.self.inside.astray) c.self.view_is c.self.invariant in
    let came = subst (λ b. CameBy now c.args.dir b c.requires.0) c.if-pushed.false c.requires.1 in
    let walk = BackByWalk-from_CameBy now c.args.dir man c.requires.0 (start-IsScene now _ _ scene) came in
    let behind = same_Some _ _ (sym c.unwrap-behind.ensures ∙ c.next.ensures ∙ ap (λ d. next d man) c.opposite.ensures ∙ walk.behind) in
    record {
      opened = ap (holds is_open now) behind ∙ came.man_open;
      free = ap (holds is_box now) behind ∙ walk.free;
    }

pub returns-then-pushed-clause-position : goal.returns-then-pushed-clause-position
returns-then-pushed-clause-position c = λ x came.
    let now = c.args.self.now in
    let man = c.self.inside.man in
    let scene = subst (λ rows. IsScene rows man c.self.inside.astray) c.self.view_is c.self.invariant in
    let push = (BackByPush-from_CameBy now c.args.dir man x (start-IsScene now _ _ scene) (subst (λ b. CameBy now c.args.dir b x) c.if-pushed.true came)).1 in
    let ahead = same_Some _ _ (sym c.unwrap-ahead.ensures ∙ c.next-then-pushed.ensures ∙ push.is_ahead) in
    let behind = same_Some _ _ (sym c.unwrap-behind.ensures ∙ c.next.ensures ∙ ap (λ d. next d man) c.opposite.ensures ∙ push.behind) in
    c.shift.ensures.position ∙ (λ i. record { man = behind i; boxes = moved (holds is_box now) (ahead i) man }) ∙ push.back

pub returns-else-pushed-clause-position : goal.returns-else-pushed-clause-position
returns-else-pushed-clause-position c = λ x came.
    let now = c.args.self.now in
    let man = c.self.inside.man in
    let scene = subst (λ rows. IsScene rows man c.self.inside.astray) c.self.view_is c.self.invariant in
    let walk = BackByWalk-from_CameBy now c.args.dir man x (start-IsScene now _ _ scene) (subst (λ b. CameBy now c.args.dir b x) c.if-pushed.false came) in
    let behind = same_Some _ _ (sym c.unwrap-behind.ensures ∙ c.next.ensures ∙ ap (λ d. next d man) c.opposite.ensures ∙ walk.behind) in
    c.walk.ensures.position ∙ (λ i. record { man = behind i; boxes = holds is_box now }) ∙ walk.back

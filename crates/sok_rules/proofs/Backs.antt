-- A letter is taken back.
use Rattle.std.proofs.Common.{◌≡◌, refl, sym, ap, ◌∙◌, Bool, true, false, Some}
use Rattle.sok_rules.specs.declared.cell.Dir.{Dir}
use Rattle.sok_rules.specs.declared.cell.Spot.{Spot}
use Rattle.sok_rules.specs.Squares.{Rows, holds, is_box, is_open, next, opposite}
use Rattle.sok_rules.specs.Play.{After, Position, moved, start}
use Rattle.sok_rules.specs.Scene.{CameBy}
use Rattle.sok_rules.proofs.Moved.{moved-back}
pub use Rattle.sok_rules.proofs.Moved.{moved-to}
use Rattle.sok_rules.proofs.Spots.{next-opposite}
use Rattle.sok_rules.proofs.Steps.{push_step, walk_step}

-- what a scene tells of the position before a walk
pub record BackByWalk (now : Rows) (d : Dir) (man : Spot) (x : Position) : Type 0 where
  pub behind : next (opposite d) man ≡ Some x.man
  pub free : holds is_box now x.man ≡ false
  pub back : record { man = x.man; boxes = holds is_box now } ≡ x

pub BackByWalk-from_CameBy : (now : Rows) (d : Dir) (man : Spot) (x : Position) → start now ≡ record { man = man; boxes = holds is_box now }
    → CameBy now d false x → BackByWalk now d man x
BackByWalk-from_CameBy now d man x shows came =
    let walk = walk_step now d x (record { position = start now; pushed = false }) came.led refl in
    let there : record { man = man; boxes = holds is_box now } ≡ record x { man = walk.to } = sym shows ∙ ap (λ (a : After). a.position) walk.leads in
    let boxes : holds is_box now ≡ x.boxes = ap (λ (p : Position). p.boxes) there in
    record {
      behind = ap (next (opposite d)) (ap (λ (p : Position). p.man) there) ∙ next-opposite d x.man walk.to walk.ahead;
      free = ap (λ (b : Spot → Bool). b x.man) boxes ∙ came.man_free;
      back = λ i. record { man = x.man; boxes = boxes i };
    }

-- what a scene tells of the position before a push
pub record BackByPush (now : Rows) (d : Dir) (man ahead : Spot) (x : Position) : Type 0 where
  pub behind : next (opposite d) man ≡ Some x.man
  pub is_ahead : next d man ≡ Some ahead
  pub ahead_open : holds is_open now ahead ≡ true
  pub box_ahead : holds is_box now ahead ≡ true
  pub man_free : moved (holds is_box now) ahead man x.man ≡ false
  pub back : record { man = x.man; boxes = moved (holds is_box now) ahead man } ≡ x

pub BackByPush-from_CameBy : (now : Rows) (d : Dir) (man : Spot) (x : Position) → start now ≡ record { man = man; boxes = holds is_box now }
    → CameBy now d true x
    → (ahead : Spot) × BackByPush now d man ahead x
BackByPush-from_CameBy now d man x shows came =
    let push = push_step now d x (record { position = start now; pushed = true }) came.led refl in
    let there : record { man = man; boxes = holds is_box now } ≡ record { man = push.from; boxes = moved x.boxes push.from push.to } = sym shows
    ∙ ap (λ (a : After). a.position) push.leads in
    let man_is : man ≡ push.from = ap (λ (p : Position). p.man) there in
    let boxes : holds is_box now ≡ moved x.boxes push.from push.to = ap (λ (p : Position). p.boxes) there in
    let back = λ (s : Spot). (λ i. moved (boxes i) push.to (man_is i) s) ∙ moved-back x.boxes push.from push.to push.box_there push.to_free s in (
      push.to,
      record {
        behind = ap (next (opposite d)) man_is ∙ next-opposite d x.man push.from push.ahead;
        is_ahead = ap (next d) man_is ∙ push.beyond;
        ahead_open = push.to_open;
        box_ahead = ap (λ (b : Spot → Bool). b push.to) boxes ∙ moved-to x.boxes push.from push.to;
        man_free = back x.man ∙ came.man_free;
        back = λ i. record { man = x.man; boxes = λ s. back s i };
      },
    )

-- the player came from behind
pub behind-from_CameBy : (now : Rows) (d : Dir) (pushed : Bool) (man : Spot) (x : Position) → start now ≡ record { man = man; boxes = holds is_box now }
    → CameBy now d pushed x
    → next (opposite d) man ≡ Some x.man
behind-from_CameBy now d false man x shows came = (BackByWalk-from_CameBy now d man x shows came).behind
behind-from_CameBy now d true man x shows came = (BackByPush-from_CameBy now d man x shows came).1.behind

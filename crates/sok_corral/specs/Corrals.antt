-- Corrals: boxes that fence some squares off from the player. Each solution pushes one of them at some time. If each push that may be the first of them can
-- be made now, it may as well come first, with no more pushes in all.
use Rattle.std.specs.Prelude.{◌≡◌, ◌≤◌, ◌+◌, ◌⊎◌, List, Some, Bool, true, false}
use Rattle.sok_rules.specs.declared.cell.Dir.{Dir}
use Rattle.sok_rules.specs.declared.cell.Spot.{Spot}
use Rattle.sok_rules.specs.Squares.{Rows, holds, is_goal, is_open, next}
use Rattle.sok_rules.specs.Play.{After, NeverFrom, Position, SolvesFrom, moved, pushes, step}
use Rattle.sok_rules.specs.States.{Same}

-- a box that stays as long as no box of the fence is pushed: it is in the fence, or not on a square outside, to which the player may come
pub record StaysPut (x : Position) (fence : Spot → Bool) (Outside : Spot → Type 0) (s : Spot) : Type 0 where
  pub box_there : x.boxes s ≡ true
  pub kept : (fence s ≡ true) ⊎ (Outside s → ⊥)

-- all boxes that stay are among these
abbrev pub HasPut : Position → (Spot → Bool) → (Spot → Type 0) → (Spot → Bool) → Type 0
HasPut x fence Outside boxes = (s : Spot) → StaysPut x fence Outside s → boxes s ≡ true

-- after this push there is no solution, wherever the other boxes are
abbrev pub IsHopeless : Rows → Position → (Spot → Bool) → (Spot → Type 0) → Spot → Spot → Spot → Type 0
IsHopeless rows x fence Outside man from to =
    (y : Position) → y.man ≡ man → HasPut x fence Outside y.boxes → y.boxes to ≡ false
    → NeverFrom rows (record { man = from; boxes = moved y.boxes from to })

-- this push can be made now, after a walk, and does not take its box outside
pub record IsReady (rows : Rows) (x : Position) (Outside : Spot → Type 0) (man to : Spot) : Type 0 where
  pub inward : Outside to → ⊥
  pub free : x.boxes to ≡ false
  pub walk : Same rows x (record x { man = man })

-- Boxes are a fence. Outside are the player and each square to which he could walk if there were no other boxes. Each push of a fence's box from there can be
-- made now, or is hopeless; and some box that stays is off a goal.
pub record IsCorral (rows : Rows) (x : Position) (fence : Spot → Bool) (Outside : Spot → Type 0) : Type 0 where
  pub boxes : (s : Spot) → fence s ≡ true → x.boxes s ≡ true
  pub begins : Outside x.man
  pub walks : (d : Dir) (s q : Spot) → Outside s → next d s ≡ Some q → holds is_open rows q ≡ true → fence q ≡ false → Outside q
  pub pushed : (d : Dir) (man from to : Spot) → Outside man → next d man ≡ Some from → fence from ≡ true → next d from ≡ Some to → holds is_open rows to ≡ true
      → IsHopeless rows x fence Outside man from to ⊎ IsReady rows x Outside man to
  pub astray : (s : Spot) × StaysPut x fence Outside s × (holds is_goal rows s ≡ false)

-- the player could walk there if there were no other boxes: the least that is outside
abbrev pub WalksTo : Rows → Position → (Spot → Bool) → Spot → Type 0
WalksTo rows x fence s = Same rows (record { man = x.man; boxes = fence }) (record { man = s; boxes = fence })

-- a walk and a push of one of these boxes, and then letters that solve the level, with no more pushes in all than these letters from the position
pub record PushesFirst (rows : Rows) (x : Position) (fence : Spot → Bool) (w : List Dir) : Type 0 where
  pub before : Position
  pub walk : Same rows x before
  pub dir : Dir
  pub after : After
  pub steps : step rows dir before ≡ Some after
  pub is_push : after.pushed ≡ true
  pub from : Spot
  pub ahead : next dir before.man ≡ Some from
  pub man : after.position.man ≡ from
  pub of_fence : fence from ≡ true
  pub rest : List Dir
  pub solves : SolvesFrom rows after.position rest
  pub fewer : 1 + pushes rows after.position rest ≤ pushes rows x w

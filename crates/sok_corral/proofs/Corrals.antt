-- Corrals: a push of the fence may as well come first. Until the first one the player stays outside, and the boxes that stay are where they were. So the push
-- can be made before all of that, and the letters before it stay legal.
use Rattle.std.proofs.Common.{◌≡◌, ◌⊎◌, ◌+◌, refl, sym, ap, ◌∙◌, inl, inr, subst, List, [], ◌∷◌, ◌++◌, Bool, true, false, true≢false, Some, IsSomeAnd}
use Rattle.std.proofs.Common.{if◌then◌else◌, arith}
use Rattle.std.specs.Option.{option_and_then, option_map_or}
use Rattle.std.proofs.lemmas.Bool.{cases_Bool}
use Rattle.std.proofs.lemmas.Option.{same_Some}
use Rattle.sok_rules.specs.declared.cell.Dir.{Dir}
use Rattle.sok_rules.specs.declared.cell.Spot.{Spot}
use Rattle.sok_rules.specs.Squares.{Rows, holds, is_open, next, opposite, same_spot}
use Rattle.sok_rules.specs.Play.{After, AllOnGoals, NeverFrom, Position, SolvesFrom, moved, one_if, pushes, run, step}
use Rattle.sok_rules.specs.States.{Same}
use Rattle.sok_corral.specs.Corrals.{HasPut, IsCorral, IsHopeless, IsReady, PushesFirst, StaysPut, WalksTo}
use Rattle.sok_rules.proofs.Moved.{moved-come, moved-kept, moved-left, moved-other, moved-from}
use Rattle.sok_rules.proofs.Runs.{pushes-append, run-append, solves_on}
use Rattle.sok_rules.proofs.Spots.{apart_next, next-opposite, same_spot-apart, same_spot-is}
use Rattle.sok_rules.proofs.Steps.{IsPush, IsStanding, IsWalk, step-box, step-walk, step_cases, walk_step}
use Rattle.sok_rules.proofs.Thinner.{NeverFrom-thinner}
use Rattle.sok_rules.proofs.Walking.{IsStanding-Same, Same-refl, Same-step, Same-sym, Same-trans, quiet_step}

-- the box is on t already, and not on s
abbrev pub early : Spot → Spot → Position → Position
early s t y = record { man = y.man; boxes = moved y.boxes s t }

-- two pairs of choices that do not meet
choices : (a b c d e : Bool) → (a ≡ true → d ≡ false) → (b ≡ true → c ≡ false)
    → (if a then true else if b then false else if c then true else if d then false else e)
    ≡ (if c then true else if d then false else if a then true else if b then false else e)
choices true b true d e _ _ = refl
choices true b false true e h _ = absurd (true≢false (h refl))
choices true b false false e _ _ = refl
choices false true true d e _ k = absurd (true≢false (k refl))
choices false true false true e _ _ = refl
choices false true false false e _ _ = refl
choices false false true d e _ _ = refl
choices false false false true e _ _ = refl
choices false false false false e _ _ = refl

-- a square is not two that are apart
not_both : (u a b : Spot) → (a ≡ b → ⊥) → same_spot u a ≡ true → same_spot u b ≡ false
not_both u a b apart is = same_spot-apart u b (λ e. apart (sym (same_spot-is u a is) ∙ e))

-- two boxes move in either order
moved-swap : (boxes : Spot → Bool) (from to s t : Spot) → (to ≡ s → ⊥) → (from ≡ t → ⊥) → moved (moved boxes s t) from to ≡ moved (moved boxes from to) s t
unfolding moved
moved-swap boxes from to s t apart off i u =
    choices (same_spot u to) (same_spot u from) (same_spot u t) (same_spot u s) (boxes u) (not_both u to s apart) (not_both u from t off) i

-- a square that stays free
free-early : (boxes : Spot → Bool) (s t q : Spot) → (q ≡ t → ⊥) → boxes q ≡ false → moved boxes s t q ≡ false
free-early boxes s t q off free = elim (cases_Bool (same_spot q s)) [
  | inl left ↦ moved-left boxes s t q (same_spot-apart q t off) left
  | inr kept ↦ moved-other boxes s t q (same_spot-apart q t off) kept ∙ free
]

-- positions of one state are solved with as many pushes
pub solves-Same : (rows : Rows) (x y : Position) → Same rows x y → (w : List Dir) → SolvesFrom rows y w
    → (v : List Dir) × SolvesFrom rows x v × (pushes rows x v ≡ pushes rows y w)
solves-Same rows x y (v, leads, quiet) w solves = (
  v ++ w,
  subst (λ o. IsSomeAnd o (AllOnGoals rows)) (sym (run-append rows v w x ∙ ap (option_and_then (λ z. run rows z w)) leads)) solves,
  pushes-append rows v w x y leads ∙ omega (arith, quiet),
)

-- a letter before letters that solve the level, and how many push
solves_by : (rows : Rows) (d : Dir) (x : Position) (a : After) (w : List Dir) → step rows d x ≡ Some a → SolvesFrom rows a.position w → SolvesFrom rows x (d ∷ w)
solves_by rows d x a w steps solves =
    subst (λ o. IsSomeAnd (option_and_then (λ (after : After). run rows after.position w) o) (AllOnGoals rows)) (sym steps) solves

pushes_by : (rows : Rows) (d : Dir) (x : Position) (a : After) (w : List Dir) → step rows d x ≡ Some a
    → pushes rows x (d ∷ w) ≡ one_if a.pushed + pushes rows a.position w
pushes_by rows d x a w steps = ap (λ o. option_map_or (λ (after : After). one_if after.pushed + pushes rows after.position w) o 0) steps

-- the player can walk to where he is, and on
pub WalksTo-begins : (rows : Rows) (x : Position) (fence : Spot → Bool) → WalksTo rows x fence x.man
WalksTo-begins rows x fence = Same-refl rows (record { man = x.man; boxes = fence })

pub WalksTo-next : (rows : Rows) (x : Position) (fence : Spot → Bool) (d : Dir) (s q : Spot) → WalksTo rows x fence s → next d s ≡ Some q
    → holds is_open rows q ≡ true → fence q ≡ false → WalksTo rows x fence q
WalksTo-next rows x fence d s q walks ahead opened free =
    let at : Spot → Position = λ man. record { man = man; boxes = fence } in
    Same-trans rows (at x.man) (at s) (at q) walks
    (Same-step rows d (at s) (record { position = at q; pushed = false }) (step-walk rows d (at s) q ahead opened free) refl)

-- a push onto a box that stays is never made
pub hopeless-blocked : (rows : Rows) (x : Position) (fence : Spot → Bool) (Outside : Spot → Type 0) (man from to : Spot) → StaysPut x fence Outside to
    → IsHopeless rows x fence Outside man from to
hopeless-blocked rows x fence Outside man from to stays = λ y at put free w solves. true≢false (sym (put to stays) ∙ free)

-- a push is hopeless if after it there is no solution with only the boxes that stay and the pushed one
pub hopeless-thinner : (rows : Rows) (x : Position) (fence : Spot → Bool) (Outside : Spot → Type 0) (man from to : Spot) (z : Position) → z.man ≡ from
    → ((s : Spot) → z.boxes s ≡ true → (same_spot s to ≡ true) ⊎ ((same_spot s from ≡ false) × StaysPut x fence Outside s)) → NeverFrom rows z
    → IsHopeless rows x fence Outside man from to
hopeless-thinner rows x fence Outside man from to z stands among never = λ y at put free.
    NeverFrom-thinner rows z (record { man = from; boxes = moved y.boxes from to }) (record {
      man = stands;
      among = λ s there. elim (among s there) [
        | inl come ↦ moved-come y.boxes from to s come
        | inr (apart, stays) ↦ moved-kept y.boxes from to s apart (put s stays)
      ];
    }) never

module _ (rows : Rows) (x : Position) (fence : Spot → Bool) (Outside : Spot → Type 0) (corral : IsCorral rows x fence Outside) where
  -- no box of the fence was pushed yet
  record IsYet (y : Position) : Type 0 where
    pub outside : Outside y.man
    pub put : HasPut x fence Outside y.boxes

  -- so it is at first
  yet-now : IsYet x
  yet-now = record { outside = corral.begins; put = λ s stays. stays.box_there }

  -- a free square is none of the fence
  off_fence : (y : Position) (q : Spot) → IsYet y → y.boxes q ≡ false → fence q ≡ false
  off_fence y q yet free = elim (cases_Bool (fence q)) [
    | inl inside ↦ absurd (true≢false (sym (yet.put q (record { box_there = corral.boxes q inside; kept = inl inside })) ∙ free))
    | inr off ↦ off
  ]

  -- a walk stays outside
  yet-walk : (d : Dir) (y : Position) (a : After) → IsYet y → IsWalk rows d y a → IsYet a.position
  yet-walk d y a yet walk = subst (λ (z : After). IsYet z.position) (sym walk.leads) (record {
    outside = corral.walks d y.man walk.to yet.outside walk.ahead walk.to_open (off_fence y walk.to yet walk.to_free);
    put = yet.put;
  })

  module _ (d : Dir) (y : Position) (a : After) (yet : IsYet y) (push : IsPush rows d y a) (other : fence push.from ≡ false) where
    -- so does a push of another box
    from_outside : Outside push.from
    from_outside = corral.walks d y.man push.from yet.outside push.ahead push.from_open other

    -- and this box
    to_outside : Outside push.to
    to_outside = corral.walks d push.from push.to from_outside push.beyond push.to_open (off_fence y push.to yet push.to_free)

    -- which is none of those that stay
    stays_apart : (s : Spot) → StaysPut x fence Outside s → s ≡ push.from → ⊥
    stays_apart s stays is = elim stays.kept [
      | inl inside ↦ true≢false (sym inside ∙ ap fence is ∙ other)
      | inr within ↦ within (subst Outside (sym is) from_outside)
    ]

    -- so no box of the fence was pushed yet
    yet-push : IsYet a.position
    yet-push = subst (λ (z : After). IsYet z.position) (sym push.leads) (record {
      outside = from_outside;
      put = λ s stays. moved-kept y.boxes push.from push.to s (same_spot-apart s push.from (stays_apart s stays)) (yet.put s stays);
    })

  module _ (s t : Spot) (inward : Outside t → ⊥) where
    -- a square outside is not the one that the box goes to
    off_target : (q : Spot) → Outside q → q ≡ t → ⊥
    off_target q out is = inward (subst Outside is out)

    -- a walk goes as it would before the push
    early-walk : (d : Dir) (y : Position) (a : After) → IsYet y → (walk : IsWalk rows d y a)
        → step rows d (early s t y) ≡ Some (record { position = early s t a.position; pushed = a.pushed })
    early-walk d y a yet walk =
        let out = corral.walks d y.man walk.to yet.outside walk.ahead walk.to_open (off_fence y walk.to yet walk.to_free) in
        step-walk rows d (early s t y) walk.to walk.ahead walk.to_open (free-early y.boxes s t walk.to (off_target walk.to out) walk.to_free)
        ∙ ap (λ (z : After). Some (record { position = early s t z.position; pushed = z.pushed })) (sym walk.leads)

    -- so does a push of another box
    early-push : (d : Dir) (y : Position) (a : After) → IsYet y → (push : IsPush rows d y a) → fence push.from ≡ false → fence s ≡ true
        → step rows d (early s t y) ≡ Some (record { position = early s t a.position; pushed = a.pushed })
    early-push d y a yet push other inside =
        let from_off = off_target push.from (from_outside d y a yet push other) in
        let to_off = off_target push.to (to_outside d y a yet push other) in
        let stays : y.boxes s ≡ true = yet.put s (record { box_there = corral.boxes s inside; kept = inl inside }) in
        let from_apart = λ (e : push.from ≡ s). true≢false (sym inside ∙ ap fence (sym e) ∙ other) in
        let to_apart = λ (e : push.to ≡ s). true≢false (sym stays ∙ ap y.boxes (sym e) ∙ push.to_free) in
        step-box rows d (early s t y) push.from push.to false push.ahead push.from_open
        (moved-kept y.boxes s t push.from (same_spot-apart push.from s from_apart) push.box_there) push.beyond push.to_open
        (free-early y.boxes s t push.to to_off push.to_free)
        ∙ ap (λ boxes. Some (record { position = record { man = push.from; boxes = boxes }; pushed = true }))
        (moved-swap y.boxes push.from push.to s t to_apart from_off)
        ∙ ap (λ (z : After). Some (record { position = early s t z.position; pushed = z.pushed })) (sym push.leads)

    -- a list without a push goes as it would before the push
    early-Same : (w : List Dir) (y z : Position) → IsYet y → run rows y w ≡ Some z → pushes rows y w ≡ 0 → Same rows (early s t y) (early s t z)
    early-Same [] y z yet e quiet = subst (λ p. Same rows (early s t y) (early s t p)) (same_Some y z e) (Same-refl rows (early s t y))
    early-Same (d ∷ w) y z yet e quiet = quiet_step rows d w y z e quiet (λ a steps unpushed runs none.
        let walk = walk_step rows d y a steps unpushed in
        let b : After = record { position = early s t a.position; pushed = a.pushed } in
        Same-trans rows (early s t y) b.position (early s t z) (Same-step rows d (early s t y) b (early-walk d y a yet walk) unpushed)
        (early-Same w a.position z (yet-walk d y a yet walk) runs none))

  -- a push of the fence that is ready
  record ReadyPush : Type 0 where
    pub dir : Dir
    pub man : Spot
    pub from : Spot
    pub to : Spot
    pub outside : Outside man
    pub ahead : next dir man ≡ Some from
    pub from_open : holds is_open rows from ≡ true
    pub of_fence : fence from ≡ true
    pub beyond : next dir from ≡ Some to
    pub to_open : holds is_open rows to ≡ true
    pub ready : IsReady rows x Outside man to

  -- with it made, one push less solves
  record SolvesBehind (y : Position) (w : List Dir) : Type 0 where
    pub push : ReadyPush
    pub rest : List Dir
    pub solves : SolvesFrom rows (early push.from push.to y) rest
    pub fewer : 1 + pushes rows (early push.from push.to y) rest ≡ pushes rows y w

  -- so it is before a letter that goes as it would
  behind-letter : (d : Dir) (w : List Dir) (y : Position) (a : After) → step rows d y ≡ Some a → (behind : SolvesBehind a.position w)
      → step rows d (early behind.push.from behind.push.to y) ≡ Some (record { position = early behind.push.from behind.push.to a.position; pushed = a.pushed })
      → SolvesBehind y (d ∷ w)
  behind-letter d w y a steps behind so =
      let z = early behind.push.from behind.push.to y in
      let b : After = record { position = early behind.push.from behind.push.to a.position; pushed = a.pushed } in
      let count = pushes_by rows d z b behind.rest so in
      let whole = pushes_by rows d y a w steps in
      let fewer = behind.fewer in
      record {
        push = behind.push;
        rest = d ∷ behind.rest;
        solves = solves_by rows d z b behind.rest so behind.solves;
        fewer = omega (arith, count, whole, fewer);
      }

  -- and before a letter that pushes a box of the fence
  behind-push : (d : Dir) (w : List Dir) (y : Position) (a : After) → IsYet y → step rows d y ≡ Some a → (push : IsPush rows d y a) → fence push.from ≡ true
      → SolvesFrom rows a.position w → SolvesBehind y (d ∷ w)
  behind-push d w y a yet steps push inside solves =
      let after : Position = record { man = push.from; boxes = moved y.boxes push.from push.to } in
      let leads : a.position ≡ after = ap (λ (z : After). z.position) push.leads in
      elim (corral.pushed d y.man push.from push.to yet.outside push.ahead inside push.beyond push.to_open) [
        | inl hopeless ↦ absurd (hopeless y refl yet.put push.to_free w (subst (λ p. SolvesFrom rows p w) leads solves))
        | inr ready ↦
            let z = early push.from push.to y in
            let b : After = record { position = after; pushed = false } in
            let so : step rows d z ≡ Some b = step-walk rows d z push.from push.ahead push.from_open
            (moved-from y.boxes push.from push.to (apart_next d push.from push.to push.beyond)) in
            let count : pushes rows z (d ∷ w) ≡ 0 + pushes rows after w = pushes_by rows d z b w so in
            let whole : pushes rows y (d ∷ w) ≡ 1 + pushes rows after w =
            pushes_by rows d y a w steps ∙ ap (λ (c : After). one_if c.pushed + pushes rows c.position w) push.leads in
            record {
              push = record {
                dir = d;
                man = y.man;
                from = push.from;
                to = push.to;
                outside = yet.outside;
                ahead = push.ahead;
                from_open = push.from_open;
                of_fence = inside;
                beyond = push.beyond;
                to_open = push.to_open;
                ready = ready;
              };
              rest = d ∷ w;
              solves = solves_by rows d z b w so (subst (λ p. SolvesFrom rows p w) leads solves);
              fewer = omega (arith, count, whole);
            }
      ]

  -- whatever solves pushes a box of the fence, and the first of these pushes is ready
  behind : (w : List Dir) (y : Position) → IsYet y → SolvesFrom rows y w → SolvesBehind y w
  behind [] y yet solves =
      let (s, stays, off) = corral.astray in
      absurd (true≢false (sym (solves s (yet.put s stays)) ∙ off))
  behind (d ∷ w) y yet solves = solves_on rows d w y solves (λ a steps rest. elim (step_cases rows d y a steps) [
    | inl walk ↦
        let on = behind w a.position (yet-walk d y a yet walk) rest in
        behind-letter d w y a steps on (early-walk on.push.from on.push.to on.push.ready.inward d y a yet walk)
    | inr push ↦ elim (cases_Bool (fence push.from)) [
      | inl inside ↦ behind-push d w y a yet steps push inside rest
      | inr other ↦
          let on = behind w a.position (yet-push d y a yet push other) rest in
          behind-letter d w y a steps on (early-push on.push.from on.push.to on.push.ready.inward d y a yet push other on.push.of_fence)
    ]
  ])

  -- the push is made now
  module _ (standing : IsStanding rows x) (push : ReadyPush) where
    abbrev there : Position
    there = record x { man = push.man }

    abbrev after : Position
    after = record { man = push.from; boxes = moved x.boxes push.from push.to }

    -- it is legal after a walk
    step-now : step rows push.dir there ≡ Some (record { position = after; pushed = true })
    step-now = step-box rows push.dir there push.from push.to false push.ahead push.from_open (corral.boxes push.from push.of_fence) push.beyond push.to_open
        push.ready.free

    -- the player goes back one square
    back-one : Same rows after (early push.from push.to there)
    back-one =
        let stands = IsStanding-Same rows x there standing push.ready.walk in
        let off = off_target push.from push.to push.ready.inward push.man push.outside in
        Same-step rows (opposite push.dir) after (record { position = early push.from push.to there; pushed = false })
        (step-walk rows (opposite push.dir) after push.man (next-opposite push.dir push.man push.from push.ahead) stands.on_open
        (free-early x.boxes push.from push.to push.man off stands.no_box)) refl

    -- and on to where he came from
    walk-back : Same rows after (early push.from push.to x)
    walk-back =
        let walk = push.ready.walk in
        let stands : IsStanding rows (early push.from push.to x) = record {
          on_open = standing.on_open;
          no_box = free-early x.boxes push.from push.to x.man (off_target push.from push.to push.ready.inward x.man corral.begins) standing.no_box;
        } in
        let forth = early-Same push.from push.to push.ready.inward walk.0 x there yet-now walk.1 walk.2 in
        Same-trans rows after (early push.from push.to there) (early push.from push.to x) back-one
        (Same-sym rows (early push.from push.to x) (early push.from push.to there) stands forth)

  -- the theorem
  pub pushes-first : IsStanding rows x → (w : List Dir) → SolvesFrom rows x w → PushesFirst rows x fence w
  pushes-first standing w solves =
      let found = behind w x yet-now solves in
      let push = found.push in
      let (rest, on, as_many) = solves-Same rows (after standing push) (early push.from push.to x) (walk-back standing push) found.rest found.solves in
      let fewer = found.fewer in
      record {
        before = there standing push;
        walk = push.ready.walk;
        dir = push.dir;
        after = record { position = after standing push; pushed = true };
        steps = step-now standing push;
        is_push = refl;
        from = push.from;
        ahead = push.ahead;
        man = refl;
        of_fence = push.of_fence;
        rest = rest;
        solves = on;
        fewer = omega (arith, as_many, fewer);
      }

-- Letters without a push, over positions and over the numbers of squares.
use Rattle.std.proofs.Common.{ℕ, ◌≡◌, ◌<◌, ◌+◌, refl, sym, ap, ◌∙◌, subst, List, [], ◌∷◌, Bool, true, false, true≢false, Some, None, All, Contains, arith}
use Rattle.std.proofs.Common.{length, if◌then◌else◌}
use Rattle.std.proofs.lemmas.Option.{same_Some, option_and_then_some}
use Rattle.std.specs.Option.{option_and_then, option_map_or}
use Rattle.sok_rules.specs.declared.cell.Dir.{Dir}
use Rattle.sok_rules.specs.Squares.{holds, is_open, next}
use Rattle.sok_rules.specs.Levels.{IsProper}
use Rattle.sok_rules.specs.Play.{Position, After, one_if, pushes, run, step}
use Rattle.sok_rules.specs.States.{Same}
use Rattle.sok_rules.proofs.Steps.{IsStanding, step-walk, walk_step}
use Rattle.sok_rules.proofs.Walking.{Same-step, Same-trans, quiet_step}
use Rattle.sok_board.specs.Area.{BoardView, IsArea, InArea, beside, number_of, spot_of, position_of}
use Rattle.sok_board.proofs.AreaLaws.{InArea-next, InArea-spot_of, number-InArea, spot_of-number_of}
use Rattle.sok_board.proofs.Beside.{beside-is, beside-within}
use Rattle.sok_board.proofs.Inside.{InArea-open, if_some}
use Rattle.sok_board.proofs.Positions.{listed_box, no_box}
use Rattle.sok_field.specs.Trails.{trail}
use Rattle.sok_field.proofs.Trails.{trail-one}

-- boxes on squares of a proper level's area
pub record AreBoxes (b : BoardView) (boxes : List ℕ) : Type 0 where
  pub proper : IsProper b.rows
  pub area : IsArea b.rows b.area
  pub exist : All (λ n. n < length b.area) boxes

pub standing : (b : BoardView) (boxes : List ℕ) → AreBoxes b boxes → (n : ℕ) → n < length b.area → (Contains boxes n → ⊥)
    → IsStanding b.rows (position_of b n boxes)
standing b boxes are n within out = record {
  on_open = InArea-open b.rows are.proper (spot_of b n) (InArea-spot_of b are.area n within);
  no_box = no_box b are.area n boxes are.exist n within out;
}

pub not_listed : (b : BoardView) (boxes : List ℕ) (n : ℕ) → IsStanding b.rows (position_of b n boxes) → Contains boxes n → ⊥
not_listed b boxes n stands among = true≢false (sym (listed_box b n boxes n among) ∙ stands.no_box)

-- the player goes on to the square beside
pub step-beside : (b : BoardView) (boxes : List ℕ) → AreBoxes b boxes → (d : Dir) (s u : ℕ) → beside b s d ≡ Some u → u < length b.area → (Contains boxes u → ⊥)
    → step b.rows d (position_of b s boxes) ≡ Some (record { position = position_of b u boxes; pushed = false })
step-beside b boxes are d s u on within out =
    let x = position_of b s boxes in
    option_and_then_some (number_of b) (next d x.man) u on (λ q ahead number.
    let there : spot_of b u ≡ q = (spot_of-number_of b q u number).1 in
    let opened : holds is_open b.rows q ≡ true = ap (holds is_open b.rows) (sym there) ∙ InArea-open b.rows are.proper (spot_of b u)
    (InArea-spot_of b are.area u within) in
    let free : x.boxes q ≡ false = ap x.boxes (sym there) ∙ no_box b are.area s boxes are.exist u within out in
    step-walk b.rows d x q ahead opened free ∙ (λ i. Some (record { position = record { man = sym there i; boxes = x.boxes }; pushed = false })))

-- letters over squares without a box are legal, and none of them pushes
pub run-trail : (b : BoardView) (boxes : List ℕ) → AreBoxes b boxes → (lets : ℕ → Bool) → ((n : ℕ) → n < length b.area → lets n ≡ true → Contains boxes n → ⊥)
    → (w : List Dir) (s t : ℕ) → trail b lets s w ≡ Some t → (run b.rows (position_of b s boxes) w ≡ Some (position_of b t boxes)) × (pushes b.rows
    (position_of b s boxes) w ≡ 0)
run-trail b boxes are lets free [] s t leads = (ap (λ n. Some (position_of b n boxes)) (same_Some s t leads), refl)
run-trail b boxes are lets free (d ∷ w) s t leads = option_and_then_some (λ u. if lets u then trail b lets u w else None) (beside b s d) t leads (λ u on rest.
    let (through, further) = if_some (lets u) (trail b lets u w) t rest in
    let within = beside-within b d s u on in
    let stepped = step-beside b boxes are d s u on within (free u within through) in
    let (legal, quiet) = run-trail b boxes are lets free w u t further in (
      ap (option_and_then (λ (after : After). run b.rows after.position w)) stepped ∙ legal,
      ap (λ o. option_map_or (λ (after : After). one_if after.pushed + pushes b.rows after.position w) o 0) stepped ∙ omega (arith, quiet),
    ))

-- where legal letters without a push lead
pub record Arrives (b : BoardView) (boxes : List ℕ) (lets : ℕ → Bool) (s : ℕ) (w : List Dir) (y : Position) : Type 0 where
  pub to : ℕ
  pub within : to < length b.area
  pub leads : trail b lets s w ≡ Some to
  pub is : y ≡ position_of b to boxes

-- legal letters without a push go over squares from which the position is the same state
pub trail-run : (b : BoardView) (boxes : List ℕ) → AreBoxes b boxes → (lets : ℕ → Bool) → (w : List Dir) (s : ℕ) (y : Position) → s < length b.area
    → ((n : ℕ) → n < length b.area → Same b.rows (position_of b s boxes) (position_of b n boxes) → lets n ≡ true)
    → run b.rows (position_of b s boxes) w ≡ Some y → pushes b.rows (position_of b s boxes) w ≡ 0 → Arrives b boxes lets s w y
trail-run b boxes are lets [] s y within through e z = record { to = s; within = within; leads = refl; is = sym (same_Some (position_of b s boxes) y e) }
trail-run b boxes are lets (d ∷ w) s y within through e z =
    let x = position_of b s boxes in
    quiet_step b.rows d w x y e z (λ a stepped unpushed r n.
    let walk = walk_step b.rows d x a stepped unpushed in
    let inside : InArea b.rows walk.to = InArea-next b.rows d x.man walk.to (InArea-spot_of b are.area s within) walk.ahead walk.to_open in
    let (u, number, u_within, there) = number-InArea b are.area walk.to inside in
    let on : beside b s d ≡ Some u = beside-is b d s x.man walk.to u refl walk.ahead number in
    let arrived : a.position ≡ position_of b u boxes = ap (λ (y : After). y.position) walk.leads ∙ (λ i. record { man = sym there i; boxes = x.boxes }) in
    let same : Same b.rows x (position_of b u boxes) = subst (Same b.rows x) arrived (Same-step b.rows d x a stepped unpushed) in
    let rest = trail-run b boxes are lets w u y u_within (λ k k_within further. through k k_within
    (Same-trans b.rows x (position_of b u boxes) (position_of b k boxes) same further))
    (ap (λ p. run b.rows p w) (sym arrived) ∙ r) (ap (λ p. pushes b.rows p w) (sym arrived) ∙ n) in
    record { to = rest.to; within = rest.within; leads = trail-one b lets s u d w on (through u u_within same) ∙ rest.leads; is = rest.is })

-- what each letter keeps, a trail keeps
pub trail-keeps : (b : BoardView) (lets : ℕ → Bool) (P : ℕ → Type 0)
    → ((s : ℕ) (d : Dir) (t : ℕ) → P s → beside b s d ≡ Some t → lets t ≡ true → P t)
    → (w : List Dir) (s t : ℕ) → P s → trail b lets s w ≡ Some t → P t
trail-keeps b lets P keeps [] s t holds leads = subst P (same_Some s t leads) holds
trail-keeps b lets P keeps (d ∷ w) s t holds leads =
    option_and_then_some (λ u. if lets u then trail b lets u w else None) (beside b s d) t leads (λ u on rest.
    let (through, further) = if_some (lets u) (trail b lets u w) t rest in trail-keeps b lets P keeps w u t (keeps s d u holds on through) further)

-- a square that is let through at the start is let through at the end
pub trail-lets : (b : BoardView) (lets : ℕ → Bool) (w : List Dir) (s t : ℕ) → lets s ≡ true → trail b lets s w ≡ Some t → lets t ≡ true
trail-lets b lets = trail-keeps b lets (λ n. lets n ≡ true) (λ s d t _ _ through. through)

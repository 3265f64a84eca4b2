-- A jam is never undone: the first of its boxes that moved would get stuck, and one of them is off a goal.
use Rattle.std.proofs.Common.{ℕ, ◌≡◌, ◌<◌, inl, inr, sym, ap, ◌∙◌, List, [], ◌∷◌, true, false, true≢false, length, subst}
use Rattle.std.specs.Option.{option_map_or, IsSomeAnd}
use Rattle.sok_rules.specs.declared.cell.Dir.{Dir}
use Rattle.sok_rules.specs.declared.cell.Dir.TheVariants.{Left, Up, Right, Down}
use Rattle.sok_rules.specs.Squares.{holds, is_wall, next, opposite}
use Rattle.sok_rules.specs.Play.{Position, After, SolvesFrom, NeverFrom}
use Rattle.sok_rules.specs.States.{Same}
use Rattle.sok_rules.proofs.Grid.{wall_or_open}
use Rattle.sok_rules.proofs.Runs.{solves_on}
use Rattle.sok_rules.proofs.Spots.{next-opposite, opposite-twice}
use Rattle.sok_rules.proofs.Steps.{IsStanding, IsStanding-step}
use Rattle.sok_rules.proofs.Walking.{boxes-Same, IsStanding-Same}
use Rattle.sok_board.specs.Area.{BoardView, IsAccepted, IsArea, InArea, spot_of, beside, position_of}
use Rattle.sok_board.proofs.AreaLaws.{InArea-spot_of}
use Rattle.sok_board.proofs.Confined.{confines-play}
use Rattle.sok_board.proofs.Positions.{listed_box}
use Rattle.sok_region.specs.Regions.{IsPlaced}
use Rattle.sok_region.proofs.Walks.{standing}
use Rattle.sok_distance.specs.Pushing.{IsStuck}
use Rattle.sok_price.specs.Prices.{IsMember}
use Rattle.sok_bar.specs.declared.rest.Rest.{Rest}
use Rattle.sok_bar.specs.declared.rest.Rest.TheVariants.{AtLeast, Never}
use Rattle.sok_bar.specs.Rests.{IsBarred}
use Rattle.sok_bar.specs.Jam.{IsWallBeside, Held, IsHeld, IsGoalSquare, IsJam}
use Rattle.sok_bar.proofs.Kept.{MovesBox, InArea-step, box-moved, box_kept, never_stuck}
use Rattle.sok_bar.proofs.Rising.{Contains-member}

-- a box that is held along an axis is held in both of its directions
Held-opposite : (b : BoardView) (IsOne : ℕ → Type 0) (s : ℕ) (d : Dir) → Held b IsOne s d → Held b IsOne s (opposite d)
Held-opposite b IsOne s d (Held.wall_ahead h) = Held.wall_behind (subst (IsWallBeside b s) (sym (opposite-twice d)) h)
Held-opposite b IsOne s d (Held.wall_behind h) = Held.wall_ahead h
Held-opposite b IsOne s d (Held.box_ahead h) = Held.box_behind (subst (λ e. IsSomeAnd (beside b s e) IsOne) (sym (opposite-twice d)) h)
Held-opposite b IsOne s d (Held.box_behind h) = Held.box_ahead h
Held-opposite b IsOne s d (Held.between_stuck h k) = Held.between_stuck k (subst (λ e. IsSomeAnd (beside b s e) (IsStuck b)) (sym (opposite-twice d)) h)

pub IsHeld-along : (b : BoardView) (IsOne : ℕ → Type 0) (s : ℕ) → IsHeld b IsOne s → (d : Dir) → Held b IsOne s d
IsHeld-along b IsOne s held Left = held.across
IsHeld-along b IsOne s held Up = held.along
IsHeld-along b IsOne s held Right = Held-opposite b IsOne s Left held.across
IsHeld-along b IsOne s held Down = Held-opposite b IsOne s Up held.along

-- a position with boxes on some squares of the area that are held, one of them off a goal
record IsJammed (b : BoardView) (IsOne : ℕ → Type 0) (x : Position) : Type 0 where
  inside : InArea b.rows x.man
  standing : IsStanding b.rows x
  within : (s : ℕ) → IsOne s → s < length b.area
  boxes : (s : ℕ) → IsOne s → x.boxes (spot_of b s) ≡ true
  held : (s : ℕ) → IsOne s → IsHeld b IsOne s
  off : ℕ
  off_one : IsOne off
  off_goal : IsGoalSquare b off → ⊥

-- a held box that is pushed lands on a stuck square
lands_stuck : (b : BoardView) (IsOne : ℕ → Type 0) (d : Dir) (x : Position) (a : After) (s : ℕ) → IsJammed b IsOne x → (moves : MovesBox b d x a s)
    → Held b IsOne moves.lone.from d → IsStuck b moves.lone.to
lands_stuck b IsOne d x a s jam moves (Held.wall_ahead h) =
    let wall : holds is_wall b.rows moves.push.to ≡ true =
    sym (ap (λ t. option_map_or (holds is_wall b.rows) (next d t) false) moves.lone.from_spot ∙ ap (λ o. option_map_or (holds is_wall b.rows) o false)
    moves.push.beyond) ∙ h in
    absurd (wall_or_open b.rows moves.push.to wall moves.push.to_open)
lands_stuck b IsOne d x a s jam moves (Held.wall_behind h) =
    let back = next-opposite d x.man moves.push.from moves.push.ahead in
    let wall : holds is_wall b.rows x.man ≡ true = sym
    (ap (λ t. option_map_or (holds is_wall b.rows) (next (opposite d) t) false) moves.lone.from_spot ∙ ap
    (λ o. option_map_or (holds is_wall b.rows) o false) back) ∙ h in
    absurd (wall_or_open b.rows x.man wall jam.standing.on_open)
lands_stuck b IsOne d x a s jam moves (Held.box_ahead h) =
    let one : IsOne moves.lone.to = subst (λ o. IsSomeAnd o IsOne) moves.lone.beside_ahead h in
    absurd (true≢false (sym (jam.boxes moves.lone.to one) ∙ ap x.boxes moves.lone.to_spot ∙ moves.push.to_free))
lands_stuck b IsOne d x a s jam moves (Held.box_behind h) =
    let one : IsOne moves.lone.behind = subst (λ o. IsSomeAnd o IsOne) moves.lone.beside_behind h in
    absurd (true≢false (sym (jam.boxes moves.lone.behind one) ∙ ap x.boxes moves.lone.behind_spot ∙ jam.standing.no_box))
lands_stuck b IsOne d x a s jam moves (Held.between_stuck h k) = subst (λ o. IsSomeAnd o (IsStuck b)) moves.lone.beside_ahead h

-- nothing solves from a position with a jam
never_jammed : (b : BoardView) → IsArea b.rows b.area → (IsOne : ℕ → Type 0) (w : List Dir) (x : Position) → IsJammed b IsOne x → SolvesFrom b.rows x w → ⊥
never_jammed b area IsOne [] x jam solves = jam.off_goal (solves (spot_of b jam.off) (jam.boxes jam.off jam.off_one))
never_jammed b area IsOne (d ∷ w) x jam solves = solves_on b.rows d w x solves (λ a stepped on.
    let inside = InArea-step b.rows d x a jam.inside stepped in
    let unmoved : (s : ℕ) → IsOne s → MovesBox b d x a s → ⊥ = λ s one moves.
    let held : Held b IsOne moves.lone.from d = IsHeld-along b IsOne moves.lone.from (jam.held moves.lone.from (subst IsOne (sym moves.is) one)) d in
    never_stuck b area w a.position moves.lone.to inside moves.lone.to_within (box-moved b d x a s moves) (lands_stuck b IsOne d x a s jam moves held) on in
    never_jammed b area IsOne w a.position (record {
      inside = inside;
      standing = IsStanding-step b.rows d x a stepped;
      within = jam.within;
      boxes = λ s one. elim (box_kept b area d x a jam.inside stepped s (jam.within s one) (jam.boxes s one)) [
        | inl kept ↦ kept
        | inr moves ↦ absurd (unmoved s one moves)
      ];
      held = jam.held;
      off = jam.off;
      off_one = jam.off_one;
      off_goal = jam.off_goal;
    }) on)

-- what has no solution needs any number of pushes
pub IsBarred-never : (b : BoardView) (player : ℕ) (boxes : List ℕ) → ((x : Position) → Same b.rows (position_of b player boxes) x → NeverFrom b.rows x)
    → (rest : Rest) → IsBarred b player boxes rest
IsBarred-never b player boxes never (AtLeast n) = record { each = λ x same w solves. absurd (never x same w solves) }
IsBarred-never b player boxes never Never = record { each = never }

-- a jam bars its position, whatever is still to be shown; the player stands on a free square
pub jams-bar : (b : BoardView) → IsAccepted b → (player : ℕ) (boxes members : List ℕ) (rest : Rest) → IsPlaced b boxes player → IsJam b boxes members
    → IsBarred b player boxes rest
jams-bar b accepted player boxes members rest placed jam = IsBarred-never b player boxes (λ x (v, leads, quiet) w solves.
    let y : Position = position_of b player boxes in
    let same : Same b.rows y x = (v, leads, quiet) in
    never_jammed b accepted.numbered (IsMember boxes members) w x (record {
      inside = (confines-play b.rows y x v (InArea-spot_of b accepted.numbered player placed.player_exists) leads).man;
      standing = IsStanding-Same b.rows y x (standing b boxes (record {
        proper = accepted.proper;
        area = accepted.numbered;
        exist =
            placed.boxes_exist;
      }) player placed.player_exists placed.free) same;
      within = λ s one. let (k, inside, is) = Contains-member boxes members s one in subst (λ t. t < length b.area) is (placed.boxes_exist k s inside);
      boxes = λ s one. ap (λ f. f (spot_of b s)) (boxes-Same b.rows y x same) ∙ listed_box b player boxes s (Contains-member boxes members s one);
      held = jam.held;
      off = jam.off_goal.0;
      off_one = jam.off_goal.1;
      off_goal = jam.off_goal.2;
    }) solves) rest

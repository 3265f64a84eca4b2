-- A region as the squares that a flood draws.
use Rattle.std.proofs.Common.{ℕ, ◌≡◌, ◌<◌, ◌*◌, ◌↔◌, refl, sym, ap, ◌∙◌, subst, List, [], Bool, true, true≢false, Option, Some, None, IfSome, IsSome, Vec, Contains}
use Rattle.std.proofs.Common.{arith, length}
use Rattle.std.specs.List.{range_with_len}
use Rattle.std.specs.List.Sorted.{IsStrictlyIncreasing}
use Rattle.std.proofs.lemmas.Option.{same_Some}
use Rattle.sok_rules.specs.declared.cell.Dir.{Dir}
use Rattle.sok_rules.specs.declared.cell.Spot.{Spot}
use Rattle.sok_rules.specs.Levels.{IsProper}
use Rattle.sok_rules.specs.Play.{Position}
use Rattle.sok_rules.specs.States.{Same}
use Rattle.sok_rules.proofs.Steps.{IsStanding}
use Rattle.sok_rules.proofs.Walking.{IsStanding-Same, Same-refl, Same-sym, Same-trans}
use Rattle.sok_board.specs.Area.{BoardView, IsArea, number_of, position_of, spot_of}
use Rattle.sok_board.proofs.AreaLaws.{same_number, number_of-spot_of, spot_of-number_of}
use Rattle.sok_board.proofs.Lists.{Contains-filter, Contains-from_filter}
use Rattle.sok_board.proofs.Numbering.{Contains-range, rising-chosen}
use Rattle.sok_region.specs.Regions.{IsLeastWalk, IsPlaced, IsRegion, IsWalkBetween, HasSquare, squares_of}
use Rattle.sok_field.specs.Fields.{has}
use Rattle.sok_board.specs.Spans.{word_bits}
use Rattle.sok_field.specs.Numbers.{Draws, bit_of_number, has_number}
use Rattle.sok_field.specs.Trails.{trail, Leads}
use Rattle.sok_field.proofs.OneSquare.{has-within}
use Rattle.sok_board.specs.Graphs.{TellsLetters}
use Rattle.sok_region.specs.Paths.{paths}
use Rattle.sok_region.proofs.Paths.{follow-trail}
use Rattle.sok_region.proofs.Walks.{AreBoxes, standing, not_listed, run-trail, trail-run, trail-lets}

-- the squares of words are those whose bits are set
pub Contains-squares_of : (words : List ℕ) (s : ℕ) → Contains (squares_of words) s ↔ (has_number words s ≡ true)
unfolding squares_of
Contains-squares_of words s = (
  λ there. (Contains-from_filter (has_number words) (range_with_len 0 (word_bits * length words)) s there).1,
  λ e.
      let word = has-within words (bit_of_number s) e in
      Contains-filter (has_number words) (range_with_len 0 (word_bits * length words)) s (Contains-range (word_bits * length words) s (omega (arith, word))) e,
)

pub squares_of-rising : (words : List ℕ) → IsStrictlyIncreasing (squares_of words)
unfolding squares_of
squares_of-rising words = rising-chosen (has_number words) (word_bits * length words)

pub placed_boxes : (b : BoardView) (boxes : List ℕ) (player : ℕ) → IsProper b.rows → IsArea b.rows b.area → IsPlaced b boxes player → AreBoxes b boxes
placed_boxes b boxes player proper area placed = record { proper = proper; area = area; exist = placed.boxes_exist }

-- the player stands where he may
pub IsStanding-placed : (b : BoardView) → IsArea b.rows b.area → IsProper b.rows → (player : ℕ) (boxes : List ℕ) → IsPlaced b boxes player
    → IsStanding b.rows (position_of b player boxes)
IsStanding-placed b area proper player boxes placed = standing b boxes (placed_boxes b boxes player proper area placed) player placed.player_exists placed.free

-- positions with the same boxes and player have the same player's number
pub same_player : (b : BoardView) (boxes : List ℕ) → IsArea b.rows b.area → (s t : ℕ) → s < length b.area → t < length b.area
    → position_of b s boxes ≡ position_of b t boxes → s ≡ t
same_player b boxes area s t s_within t_within is = same_number b area s t s_within t_within (ap (λ (x : Position). x.man) is)

-- what bit rows without the boxes let through, by number
Draws-through : (b : BoardView) → IsArea b.rows b.area → (boxes free : List ℕ) → Draws b (λ n. Contains boxes n → ⊥) free
    → Draws b (λ n. has free (spot_of b n) ≡ true) free
Draws-through b area boxes free drawn s = (
  λ e. let (n, number, out) = (drawn s).0 e in (n, number, ap (has free) (spot_of-number_of b s n number).1 ∙ e),
  λ (n, number, through). ap (has free) (sym (spot_of-number_of b s n number).1) ∙ through,
)

pub through-exact : (b : BoardView) → IsArea b.rows b.area → (boxes free : List ℕ) → Draws b (λ n. Contains boxes n → ⊥) free
    → (n : ℕ) → n < length b.area → (has free (spot_of b n) ≡ true) ↔ (Contains boxes n → ⊥)
through-exact b area boxes free drawn n within =
    let numbered = number_of-spot_of b area n within in (
      λ e.
          let (m, number, out) = (drawn (spot_of b n)).0 e in
          subst (λ k. Contains boxes k → ⊥) (same_Some m n (sym number ∙ numbered)) out,
      λ out. (drawn (spot_of b n)).1 (n, numbered, out),
    )

-- letters over the squares without boxes lead to those of the same state
module _ (b : BoardView) (boxes : List ℕ) (player : ℕ) (proper : IsProper b.rows) (area : IsArea b.rows b.area) (placed : IsPlaced b boxes player)
    (lets : ℕ → Bool) (through : (n : ℕ) → n < length b.area → (lets n ≡ true) ↔ (Contains boxes n → ⊥)) where
  pub Leads-same : (s : ℕ) → s < length b.area → Leads b lets player s ↔ Same b.rows (position_of b player boxes) (position_of b s boxes)
  Leads-same s within =
      let are = placed_boxes b boxes player proper area placed in
      let stands = IsStanding-placed b area proper player boxes placed in (
        λ (w, leads).
            let (legal, quiet) = run-trail b boxes are lets (λ m m_within e. (through m m_within).0 e) w player s leads in
            (w, legal, quiet),
        λ same.
            let arrives = trail-run b boxes are lets same.0 player (position_of b s boxes) placed.player_exists
            (λ n n_within walked. (through n n_within).1 (not_listed b boxes n
            (IsStanding-Same b.rows (position_of b player boxes) (position_of b n boxes) stands walked))) same.1 same.2 in
            let is : s ≡ arrives.to = same_player b boxes area s arrives.to within arrives.within arrives.is in
            (same.0, arrives.leads ∙ ap Some (sym is)),
      )

-- a flood over the squares without boxes draws those of the same state
module _ (b : BoardView) (boxes : List ℕ) (player : ℕ) (free seen : List ℕ) (proper : IsProper b.rows) (area : IsArea b.rows b.area)
    (placed : IsPlaced b boxes player) (drawn : Draws b (λ n. Contains boxes n → ⊥) free)
    (flooded : (lets : ℕ → Bool) → Draws b (λ n. lets n ≡ true) free → Draws b (Leads b lets player) seen) where
  abbrev lets : ℕ → Bool
  lets n = has free (spot_of b n)

  reached : Draws b (Leads b lets player) seen
  reached = flooded lets (Draws-through b area boxes free drawn)

  pub drawn-same : (s : ℕ) → s < length b.area → (has seen (spot_of b s) ≡ true) ↔ Same b.rows (position_of b player boxes) (position_of b s boxes)
  drawn-same s within =
      let same = Leads-same b boxes player proper area placed lets (through-exact b area boxes free drawn) s within in (
        λ here.
            let (n, number, leads) = (reached (spot_of b s)).0 here in
            same.0 (subst (Leads b lets player) (same_Some n s (sym number ∙ number_of-spot_of b area s within)) leads),
        λ is. (reached (spot_of b s)).1 (s, number_of-spot_of b area s within, same.1 is),
      )

  -- the player's square is one of them
  pub player-drawn : has seen (spot_of b player) ≡ true
  player-drawn = (reached (spot_of b player)).1 (player, number_of-spot_of b area player placed.player_exists, ([], refl))

  -- each has a number
  pub drawn-numbered : (s : Spot) → has seen s ≡ true → (n : ℕ) × (number_of b s ≡ Some n)
  drawn-numbered s here = let (n, number, _) = (reached s).0 here in (n, number)

  -- written by number they are the region
  pub IsRegion-drawn : (words : List ℕ) → ((n : ℕ) → (has_number words n ≡ true) ↔ ((n < length b.area) × (has seen (spot_of b n) ≡ true)))
      → IsRegion b boxes player (squares_of words)
  IsRegion-drawn words written = record {
    placed = placed;
    rising = squares_of-rising words;
    exact = λ s. (
      λ there. let (within, here) = (written s).0 ((Contains-squares_of words s).0 there) in (within, (drawn-same s within).0 here),
      λ (within, same). (Contains-squares_of words s).1 ((written s).1 (within, (drawn-same s within).1 same)),
    );
  }

-- a region has the player's square
pub HasSquare-region : (b : BoardView) (boxes : List ℕ) (player : ℕ) (words : List ℕ) → IsRegion b boxes player (squares_of words) → HasSquare words
HasSquare-region b boxes player words region =
    (player, (Contains-squares_of words player).0 ((region.exact player).1 (region.placed.player_exists, Same-refl b.rows (position_of b player boxes))))

-- letters over squares of a region are legal, and none of them pushes
pub IsWalkBetween-trail : (b : BoardView) (boxes : List ℕ) (player : ℕ) (words : List ℕ) → IsProper b.rows → IsArea b.rows b.area
    → IsRegion b boxes player (squares_of words)
    → (w : List Dir) (from to : ℕ) → trail b (has_number words) from w ≡ Some to → IsWalkBetween b boxes from to w
IsWalkBetween-trail b boxes player words proper area region w from to leads =
    let placed = region.placed in
    let are = placed_boxes b boxes player proper area placed in
    let stands = IsStanding-placed b area proper player boxes placed in
    let (legal, quiet) = run-trail b boxes are (has_number words) (λ n within through.
    not_listed b boxes n (IsStanding-Same b.rows (position_of b player boxes) (position_of b n boxes) stands
    ((region.exact n).0 ((Contains-squares_of words n).1 through)).1)) w from to leads in
    record { leads = legal; quiet = quiet }

-- a walk between squares of a region goes over its squares
pub trail-IsWalkBetween : (b : BoardView) (boxes : List ℕ) (player : ℕ) (words : List ℕ) → IsProper b.rows → IsArea b.rows b.area
    → IsRegion b boxes player (squares_of words) → (from to : ℕ) → Contains (squares_of words) from → Contains (squares_of words) to
    → (w : List Dir) → IsWalkBetween b boxes from to w → trail b (has_number words) from w ≡ Some to
trail-IsWalkBetween b boxes player words proper area region from to from_there to_there w walk =
    let are = placed_boxes b boxes player proper area region.placed in
    let (from_within, to_from) = (region.exact from).0 from_there in
    let arrives = trail-run b boxes are (has_number words) w from (position_of b to boxes) from_within
    (λ n within reached. (Contains-squares_of words n).0 ((region.exact n).1
    (within, Same-trans b.rows (position_of b player boxes) (position_of b from boxes) (position_of b n boxes) to_from reached))) walk.leads walk.quiet in
    let is : to ≡ arrives.to = same_player b boxes area to arrives.to ((region.exact to).0 to_there).0 arrives.within arrives.is in
    arrives.leads ∙ ap Some (sym is)

-- letters over a region lead from each of its squares to each other
pub Leads-region : (b : BoardView) (boxes : List ℕ) (player : ℕ) (words : List ℕ) → IsProper b.rows → IsArea b.rows b.area
    → IsRegion b boxes player (squares_of words)
    → (from to : ℕ) → Contains (squares_of words) from → Contains (squares_of words) to → Leads b (has_number words) from to
Leads-region b boxes player words proper area region from to from_there to_there =
    let stands = IsStanding-placed b area proper player boxes region.placed in
    let start = position_of b player boxes in
    let same = Same-trans b.rows (position_of b from boxes) start (position_of b to boxes)
    (Same-sym b.rows start (position_of b from boxes) stands ((region.exact from).0 from_there).1) ((region.exact to).0 to_there).1 in
    (same.0, trail-IsWalkBetween b boxes player words proper area region from to from_there to_there same.0 (record { leads = same.1; quiet = same.2 }))

-- the shortest letters over squares of a region lead from each to each, and to no other
pub walks-exactly : {A : Type 0} (b : BoardView) (boxes : List ℕ) (player : ℕ) (words : List ℕ) → IsProper b.rows → IsArea b.rows b.area
    → IsRegion b boxes player (squares_of words) → (from to : ℕ) → Contains (squares_of words) from → (walk : Option (Vec Dir A))
    → TellsLetters (paths b (has_number words) from) to walk → IsSome walk ↔ (Contains (squares_of words) from × Contains (squares_of words) to)
walks-exactly b boxes player words proper area region from to here None none = (
  λ some. absurd (true≢false (sym some)),
  λ (_, there).
      let (w, leads) = Leads-region b boxes player words proper area region from to here there in
      absurd (none w (follow-trail b (has_number words) from w from ∙ leads)),
)
walks-exactly b boxes player words proper area region from to here (Some w) shortest = (
  λ some. (
    here,
    (Contains-squares_of words to).1 (trail-lets b (has_number words) w.items from to ((Contains-squares_of words from).0 here)
        (sym (follow-trail b (has_number words) from w.items from) ∙ shortest.lead)),
  ),
  λ both. refl,
)

-- and are a walk
pub walks-legally : {A : Type 0} (b : BoardView) (boxes : List ℕ) (player : ℕ) (words : List ℕ) → IsProper b.rows → IsArea b.rows b.area
    → IsRegion b boxes player (squares_of words) → (from to : ℕ) (walk : Option (Vec Dir A)) → TellsLetters (paths b (has_number words) from) to walk
    → IfSome walk (λ w. IsWalkBetween b boxes from to w.items)
walks-legally b boxes player words proper area region from to None none = tt
walks-legally b boxes player words proper area region from to (Some w) shortest =
    IsWalkBetween-trail b boxes player words proper area region w.items from to (sym (follow-trail b (has_number words) from w.items from) ∙ shortest.lead)

-- and no walk has fewer letters
pub walks-least : {A : Type 0} (b : BoardView) (boxes : List ℕ) (player : ℕ) (words : List ℕ) → IsProper b.rows → IsArea b.rows b.area
    → IsRegion b boxes player (squares_of words) → (from to : ℕ) → Contains (squares_of words) from → (walk : Option (Vec Dir A))
    → TellsLetters (paths b (has_number words) from) to walk → IfSome walk (λ w. IsLeastWalk b boxes from to w.items)
walks-least b boxes player words proper area region from to here None none = tt
walks-least b boxes player words proper area region from to here (Some w) shortest = λ v walk.
    let there = ((walks-exactly b boxes player words proper area region from to here (Some w) shortest).0 refl).1 in
    shortest.least v (follow-trail b (has_number words) from v from
    ∙ trail-IsWalkBetween b boxes player words proper area region from to here there v walk)

-- A fence by numbers is one by squares.
use Rattle.std.proofs.Common.{ℕ, ◌≡◌, ◌<◌, ◌∙◌, ◌⊎◌, inl, inr, sym, ap, refl, subst, List, Bool, Some, true, false, Contains, arith, length, get_or, map, ◌||◌}
use Rattle.std.proofs.Math.Bool.{or-true}
use Rattle.std.proofs.lemmas.Bool.{cases_Bool}
use Rattle.std.proofs.lemmas.List.{get_or-map, get_or_default, length-map}
use Rattle.std.proofs.lemmas.List.Elements.{All-contains, All-contains_itself}
use Rattle.std.proofs.lemmas.List.Folds.{Any-from_list_any}
use Rattle.sok_rules.specs.declared.cell.Dir.{Dir}
use Rattle.sok_rules.specs.declared.cell.Spot.{Spot}
use Rattle.sok_corral.specs.Corrals.{IsCorral, IsHopeless, IsReady, StaysPut, WalksTo}
use Rattle.sok_rules.specs.Play.{NeverFrom, Position, moved}
use Rattle.sok_rules.specs.Squares.{holds, is_open, next, same_spot}
use Rattle.sok_corral.proofs.Corrals.{WalksTo-begins, WalksTo-next, hopeless-blocked, hopeless-thinner}
use Rattle.sok_rules.proofs.Moved.{moved-to}
use Rattle.sok_rules.proofs.Runs.{HasOpenBoxes-start, boxes-start}
use Rattle.sok_rules.proofs.Spots.{same_spot-apart, same_spot-is, same_spot-refl}
use Rattle.sok_board.specs.Area.{BoardView, InArea, IsAccepted, beside, is_among, is_decoration, number_of, position_of, spot_of}
use Rattle.sok_board.proofs.Accepted.{decoration-outside}
use Rattle.sok_board.proofs.AreaLaws.{InArea-next, InArea-spot_of, number-InArea, number_of-spot_of, same_number}
use Rattle.sok_board.proofs.Beside.{beside-is}
use Rattle.sok_board.proofs.Confined.{confines-play}
use Rattle.sok_board.proofs.Positions.{known_box, listed_box, no_box}
use Rattle.sok_distance.specs.Pushing.{IsStuck}
use Rattle.sok_region.specs.Regions.{IsPlaced}
use Rattle.sok_corral.specs.Fences.{IsFence, NeverAfter, Roams, StaysAt}
use Rattle.sok_bar.proofs.Kept.{never_stuck}
use Rattle.sok_bar.proofs.Patterns.{thinner-among}

-- a square among those with some numbers has one of these numbers
listed_number : (b : BoardView) (numbers : List ℕ) (s : Spot) → is_among (map (spot_of b) numbers) s ≡ true → (n : ℕ) × Contains numbers n × (spot_of b n ≡ s)
listed_number b numbers s among =
    let (k, x, within, is, same) = Any-from_list_any (same_spot s) (map (spot_of b) numbers) among in
    let inside : k < length numbers = let long = length-map numbers (spot_of b) in omega (arith, within, long) in
    let n = get_or numbers k 0 in
    (n, (k, inside, get_or_default numbers k n 0 inside), sym (same_spot-is s x same ∙ sym is ∙ get_or-map (spot_of b) numbers k 0 x inside))

module _ (b : BoardView) (accepted : IsAccepted b) (player : ℕ) (boxes fence : List ℕ) (placed : IsPlaced b boxes player) where
  abbrev here : Position
  here = position_of b player boxes

  abbrev fenced : Spot → Bool
  fenced = (position_of b player fence).boxes

  abbrev Outside : Spot → Type 0
  Outside = WalksTo b.rows here fenced

  -- a box that stays by its number
  stays_put : (n : ℕ) → StaysAt b player boxes fence n → StaysPut here fenced Outside (spot_of b n)
  stays_put n stays = record {
    box_there = listed_box b player boxes n stays.box;
    kept = elim stays.kept [ inl among ↦ inl (listed_box b player fence n among) | inr out ↦ inr out ];
  }

  -- so does a decoration
  decoration-stays : (s : Spot) → is_decoration b s ≡ true → StaysPut here fenced Outside s
  decoration-stays s decoration = record {
    box_there = ap (λ q. is_among (map (spot_of b) boxes) s || q) decoration ∙ or-true (is_among (map (spot_of b) boxes) s);
    kept = inl (ap (λ q. is_among (map (spot_of b) fence) s || q) decoration ∙ or-true (is_among (map (spot_of b) fence) s));
  }

  -- a push onto a stuck square leads nowhere
  pub NeverAfter-stuck : (man from to : ℕ) → from < length b.area → to < length b.area → IsStuck b to → NeverAfter b player boxes fence man from to
  NeverAfter-stuck man from to from_within to_within stuck = λ y at put free w solves.
      never_stuck b accepted.numbered w (record { man = spot_of b from; boxes = moved y.boxes (spot_of b from) (spot_of b to) }) to
      (InArea-spot_of b accepted.numbered from from_within) to_within (moved-to y.boxes (spot_of b from) (spot_of b to)) stuck solves

  -- nor does one behind which nothing solves the pushed box and some that stay, were these alone on the board
  module _ (man from to : ℕ) (from_within : from < length b.area) (squares : List ℕ)
      (among : (n : ℕ) → Contains squares n → (n ≡ to) ⊎ ((n ≡ from → ⊥) × StaysAt b player boxes fence n)) where
    listed-stays : (s : Spot) (n : ℕ) → Contains squares n → spot_of b n ≡ s
        → (same_spot s (spot_of b to) ≡ true) ⊎ ((same_spot s (spot_of b from) ≡ false) × StaysPut here fenced Outside s)
    listed-stays s n listed is = elim (among n listed) [
      | inl come ↦ inl (ap (λ k. same_spot k (spot_of b to)) (sym is ∙ ap (spot_of b) come) ∙ same_spot-refl (spot_of b to))
      | inr (apart, stays) ↦
          let within = All-contains (λ k. k < length b.area) boxes n placed.boxes_exist stays.box in
          inr (
            same_spot-apart s (spot_of b from) (λ e. apart (same_number b accepted.numbered n from within from_within (is ∙ e))),
            subst (StaysPut here fenced Outside) is (stays_put n stays),
          )
    ]

    alone-stays : (s : Spot) → (position_of b from squares).boxes s ≡ true
        → (same_spot s (spot_of b to) ≡ true) ⊎ ((same_spot s (spot_of b from) ≡ false) × StaysPut here fenced Outside s)
    alone-stays s there = elim (cases_Bool (is_among (map (spot_of b) squares) s)) [
      | inl listed ↦ let (n, has, is) = listed_number b squares s listed in listed-stays s n has is
      | inr apart ↦
          let decoration : is_decoration b s ≡ true = ap (λ p. p || is_decoration b s) (sym apart) ∙ there in
          inr (
            same_spot-apart s (spot_of b from) (λ e.
                (decoration-outside b accepted.numbered s decoration).1
                (subst (InArea b.rows) (sym e) (InArea-spot_of b accepted.numbered from from_within))),
            decoration-stays s decoration,
          )
    ]

    pub NeverAfter-alone : NeverFrom b.rows (position_of b from squares) → NeverAfter b player boxes fence man from to
    NeverAfter-alone never =
        hopeless-thinner b.rows here fenced Outside (spot_of b man) (spot_of b from) (spot_of b to) (position_of b from squares) refl alone-stays never

  module _ (is_fence : IsFence b player boxes fence) where
    -- a push by its numbers
    pushed-at : (d : Dir) (man from to : ℕ) → man < length b.area → to < length b.area → Roams b player fence man → beside b man d ≡ Some from
        → Contains fence from → beside b from d ≡ Some to
        → IsHopeless b.rows here fenced Outside (spot_of b man) (spot_of b from) (spot_of b to) ⊎ IsReady b.rows here Outside (spot_of b man) (spot_of b to)
    pushed-at d man from to man_within to_within roams ahead among beyond = elim (is_fence.pushed d man from to man_within roams ahead among beyond) [
      | inl stays ↦ inl (hopeless-blocked b.rows here fenced Outside (spot_of b man) (spot_of b from) (spot_of b to) (stays_put to stays))
      | inr (inl ready) ↦ inr (record {
        inward = ready.inward;
        free = no_box b accepted.numbered player boxes placed.boxes_exist to to_within ready.free;
        walk = ready.walk;
      })
      | inr (inr never) ↦ inl never
    ]

    -- a square to which the player could walk is of the area
    walks-inside : (s : Spot) → Outside s → InArea b.rows s
    walks-inside s walks =
        (confines-play b.rows (position_of b player fence) (record { man = s; boxes = fenced }) walks.0
        (InArea-spot_of b accepted.numbered player placed.player_exists) walks.1).man

    -- a box of the fence beside the area has a number
    fence-number : (d : Dir) (man from : Spot) → InArea b.rows man → next d man ≡ Some from → fenced from ≡ true
        → (n : ℕ) × Contains fence n × (spot_of b n ≡ from)
    fence-number d man from inside ahead there = elim (cases_Bool (is_among (map (spot_of b) fence) from)) [
      | inl among ↦ listed_number b fence from among
      | inr apart ↦
          let decoration : is_decoration b from ≡ true = ap (λ p. p || is_decoration b from) (sym apart) ∙ there in
          let (box, out) = decoration-outside b accepted.numbered from decoration in
          absurd (out (InArea-next b.rows d man from inside ahead (HasOpenBoxes-start b.rows from (boxes-start b.rows from ∙ box))))
    ]

    -- a push by its squares
    pushed : (d : Dir) (man from to : Spot) → Outside man → next d man ≡ Some from → fenced from ≡ true → next d from ≡ Some to
        → holds is_open b.rows to ≡ true → IsHopeless b.rows here fenced Outside man from to ⊎ IsReady b.rows here Outside man to
    pushed d man from to outside ahead there beyond opened =
        let area = accepted.numbered in
        let inside = walks-inside man outside in
        let (m, _, m_within, m_is) = number-InArea b area man inside in
        let (f, among, f_is) = fence-number d man from inside ahead there in
        let f_within = All-contains (λ n. n < length b.area) boxes f placed.boxes_exist (is_fence.among f among) in
        let from_inside : InArea b.rows from = subst (InArea b.rows) f_is (InArea-spot_of b area f f_within) in
        let (t, t_number, t_within, t_is) = number-InArea b area to (InArea-next b.rows d from to from_inside beyond opened) in
        let near = beside-is b d m man from f m_is ahead (ap (number_of b) (sym f_is) ∙ number_of-spot_of b area f f_within) in
        let far = beside-is b d f from to t f_is beyond t_number in
        let goes = λ (p q r : Spot). IsHopeless b.rows here fenced Outside p q r ⊎ IsReady b.rows here Outside p r in
        let by_numbers = pushed-at d m f t m_within t_within (subst Outside (sym m_is) outside) near among far in
        subst (λ r. goes man from r) t_is (subst (λ q. goes man q (spot_of b t)) f_is (subst (λ p. goes p (spot_of b f) (spot_of b t)) m_is by_numbers))

    -- a square with a box of the fence has one of its numbers
    pub fence-listed : (n : ℕ) → n < length b.area → fenced (spot_of b n) ≡ true → Contains fence n
    fence-listed n within there = known_box b accepted.numbered player fence
        (λ k m below. All-contains (λ i. i < length b.area) boxes (get_or fence k m) placed.boxes_exist
        (is_fence.among (get_or fence k m) (All-contains_itself fence k m below))) n within there

    -- the law
    pub IsCorral-fence : IsCorral b.rows here fenced Outside
    IsCorral-fence =
        let (s, stays, off) = is_fence.astray in
        record {
          boxes = (thinner-among b player fence boxes is_fence.among).among;
          begins = WalksTo-begins b.rows here fenced;
          walks = WalksTo-next b.rows here fenced;
          pushed = pushed;
          astray = (spot_of b s, stays_put s stays, off);
        }

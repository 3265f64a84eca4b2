-- Boxes after a push, by their numbers.
use Rattle.std.proofs.Common.{ℕ, ◌≡◌, ◌<◌, inl, inr, refl, sym, ap, ◌∙◌, subst, List, Bool, true, true≢false, All, Contains, MatchOption, None, Option, Some, length, get_or}
use Rattle.std.specs.Cmp.{both_ways}
use Rattle.std.specs.Map.{keys_of}
use Rattle.std.proofs.lemmas.Bool.{cases_Bool}
use Rattle.std.proofs.lemmas.Option.{same_Some}
use Rattle.std.proofs.lemmas.List.Elements.{All-contains, Contains-get_or}
use Rattle.std.specs.List.Sorted.{IsStrictlyIncreasing}
use Rattle.sok_rules.specs.declared.cell.Spot.{Spot}
use Rattle.sok_rules.specs.Squares.{same_spot}
use Rattle.sok_rules.specs.Play.{moved}
use Rattle.sok_rules.proofs.Moved.{moved-come, moved-kept, moved-left, moved-other}
use Rattle.sok_rules.proofs.Spots.{same_spot-apart, same_spot-is, same_spot-refl}
use Rattle.sok_board.specs.Area.{BoardView, IsArea, InArea, spot_of, position_of, is_decoration}
use Rattle.sok_board.proofs.Accepted.{decoration-outside}
use Rattle.sok_board.proofs.AreaLaws.{InArea-spot_of, same_number}
use Rattle.sok_board.proofs.Positions.{listed_box}
use Rattle.sok_board.specs.BoxSets.{IsMoved}
use Rattle.sok_region.specs.Regions.{IsPlaced}
use Rattle.sok_state.specs.declared.key.Key.{Key}
use Rattle.sok_state.specs.Tables.{Entries, HasNext, IsAt, IsNext, LacksNext}
use Rattle.sok_state.proofs.Placed.{box_cases, decoration_there, same_rising}

-- boxes with one of them moved are one list
pub moved-same : (boxes one other : List ℕ) (from to : ℕ) → IsMoved boxes from to one → IsStrictlyIncreasing one → IsMoved boxes from to other
    → IsStrictlyIncreasing other → one ≡ other
moved-same boxes one other from to moved rising also_moved also_rising =
    same_rising one other rising also_rising (λ s here. (also_moved s).1 ((moved s).0 here)) (λ s here. (moved s).1 ((also_moved s).0 here))

-- a state has one that comes next
pub next-same : (key : Key) (from to least : ℕ) (one other : Key) → IsNext key from to least one → IsNext key from to least other → one ≡ other
next-same key from to least one other is also =
    let boxes = moved-same key.boxes one.boxes other.boxes from to is.moved is.rising also.moved also.rising in
    let number = is.least_is ∙ sym also.least_is in
    λ i. record { boxes = boxes i; least = number i }

-- so has the one at an index of a table
pub next-at : (old : Entries) (index from to least : ℕ) (found key one other : Key) → IsAt old found index → IsNext found from to least one
    → IsAt old key index → IsNext key from to least other → one ≡ other
next-at old index from to least found key one other here is there also =
    let same = same_Some found key (sym here ∙ there) in
    next-same key from to least one other (subst (λ (k : Key). IsNext k from to least one) same is) also

-- and where it is found, the state that comes next is
pub next-found : (old : Entries) (index from to least : ℕ) (found one : Key) → IsAt old found index → IsNext found from to least one → (r : Option ℕ)
    → MatchOption r (Contains (keys_of old) one → ⊥) (IsAt old one) → MatchOption r (LacksNext old index from to least) (HasNext old index from to least)
next-found old index from to least found one here is None lacks = record {
  absent = λ key next there comes.
      subst (λ (k : Key). Contains (keys_of old) k → ⊥) (next-at old index from to least found key one next here is there comes) lacks;
}
next-found old index from to least found one here is (Some at) has = record {
  there = λ key next there comes.
      subst (λ (k : Key). IsAt old k at) (next-at old index from to least found key one next here is there comes) has;
}

-- a box that stands elsewhere than on the square that one has left
moved-there : (boxes : Spot → Bool) (from to s : Spot) → boxes s ≡ true → (s ≡ from → ⊥) → moved boxes from to s ≡ true
moved-there boxes from to s there other = moved-kept boxes from to s (same_spot-apart s from other) there

module _ (b : BoardView) (area : IsArea b.rows b.area) (player other : ℕ) (boxes after : List ℕ) (from to : ℕ) (exist : All (λ n. n < length b.area) boxes)
    (from_exists : from < length b.area) (to_exists : to < length b.area) (moves : IsMoved boxes from to after) where
  forth : (s : Spot) → moved (position_of b player boxes).boxes (spot_of b from) (spot_of b to) s ≡ true → (position_of b other after).boxes s ≡ true
  forth s there = elim (cases_Bool (same_spot s (spot_of b to))) [
    | inl come ↦ subst (λ t. (position_of b other after).boxes t ≡ true) (sym (same_spot-is s (spot_of b to) come))
        (listed_box b other after to ((moves to).1 (inl refl)))
    | inr elsewhere ↦ elim (cases_Bool (same_spot s (spot_of b from))) [
      | inl left ↦ absurd (true≢false (sym there ∙ moved-left (position_of b player boxes).boxes (spot_of b from) (spot_of b to) s elsewhere left))
      | inr stays ↦ elim (box_cases b player boxes s (sym
          (moved-other (position_of b player boxes).boxes (spot_of b from) (spot_of b to) s elsewhere stays) ∙ there)) [
            | inr decoration ↦ decoration_there b other after s decoration
            | inl (n, among, is) ↦
                let differs : n ≡ from → ⊥ = λ same. true≢false (sym (same_spot-refl s) ∙ ap (same_spot s) (is ∙ ap (spot_of b) same) ∙ stays) in
                subst (λ t. (position_of b other after).boxes t ≡ true) (sym is) (listed_box b other after n ((moves n).1 (inr (among, differs))))
          ]
    ]
  ]

  outside : (s : Spot) (n : ℕ) → n < length b.area → is_decoration b s ≡ true → s ≡ spot_of b n → ⊥
  outside s n within decoration is = (decoration-outside b area s decoration).1 (subst (InArea b.rows) (sym is) (InArea-spot_of b area n within))

  back : (s : Spot) → (position_of b other after).boxes s ≡ true → moved (position_of b player boxes).boxes (spot_of b from) (spot_of b to) s ≡ true
  back s there = elim (box_cases b other after s there) [
    | inr decoration ↦ moved-there (position_of b player boxes).boxes (spot_of b from) (spot_of b to) s (decoration_there b player boxes s decoration)
        (outside s from from_exists decoration)
    | inl (n, among, is) ↦ elim ((moves n).0 among) [
      | inl come ↦ moved-come (position_of b player boxes).boxes (spot_of b from) (spot_of b to) s
          (ap (same_spot s) (sym (is ∙ ap (spot_of b) come)) ∙ same_spot-refl s)
      | inr (was, differs) ↦
          let within = All-contains (λ n. n < length b.area) boxes n exist was in
          moved-there (position_of b player boxes).boxes (spot_of b from) (spot_of b to) s
          (ap (position_of b player boxes).boxes is ∙ listed_box b player boxes n was)
          (λ same. differs (same_number b area n from within from_exists (sym is ∙ same)))
    ]
  ]

  -- the boxes of the new numbers are the old ones with one moved
  pub boxes_moved : moved (position_of b player boxes).boxes (spot_of b from) (spot_of b to) ≡ (position_of b other after).boxes
  boxes_moved = λ i s. both_ways (moved (position_of b player boxes).boxes (spot_of b from) (spot_of b to) s) ((position_of b other after).boxes s)
      (forth s) (back s) i

  -- with the man where the box stood they make a position
  pub IsPlaced-moved : (from ≡ to → ⊥) → IsStrictlyIncreasing after → IsPlaced b after from
  IsPlaced-moved apart rising = record {
    rising = rising;
    boxes_exist = λ k d within. elim ((moves (get_or after k d)).0 (Contains-get_or after k d within)) [
      | inl come ↦ subst (λ m. m < length b.area) (sym come) to_exists
      | inr (was, _) ↦ All-contains (λ n. n < length b.area) boxes (get_or after k d) exist was
    ];
    player_exists = from_exists;
    free = λ among. elim ((moves from).0 among) [ inl same ↦ apart same | inr (_, differs) ↦ differs refl ];
  }

-- A row that is exchanged for another becomes the last, its price is 0, and its goal is free; the rows of boxes of which one is moved, or that are set.
use Rattle.sok_price.proofs.Words.{ℕ, ◌≡◌, ◌≢◌, ◌<◌, ◌≤◌, ◌+◌, ◌*◌, ◌∙◌, inl, inr, sym, ap, subst, List, All, arith, length, get_or, set, take, SwappedAt}
use Rattle.sok_price.proofs.Words.{cases_eq, nat_tests, get_or-take, get_or-set_same, get_or-set_other, length-set, All-from_get_or, All-weaker, Costs}
use Rattle.sok_price.proofs.Words.{AreCosts, moved_from, AreMoved, Costing, low, Growth, IsReady, refl, Contains, get_or_default, All-contains, AreRows}
use Rattle.sok_price.proofs.Words.{IsMovedTo, AreExactly, AreSet, IsChange, IsStrictlyIncreasing, AllPairs-from_increasing, AreListed}
use Rattle.sok_price.proofs.{Branching.price-at, CostRows.AreCosts-below, Places.apart_from, Places.same_place}

-- an exchange with the last place, seen from the places before it
pub moved-at : (xs ys : List ℕ) (row last k : ℕ) → SwappedAt xs ys row last → k < last → get_or ys k 0 ≡ get_or xs (moved_from row last k) 0
unfolding moved_from
moved-at xs ys row last k swapped before = grind (arith, nat_tests, swapped.0 0, swapped.2 k 0)

pub below-last : (row last k : ℕ) → row ≤ last → k < last → moved_from row last k < last + 1
unfolding moved_from
below-last row last k within before = grind (arith, nat_tests)

-- no two places take one
from-apart : (row last i j : ℕ) → i < last → j < last → i ≢ j → moved_from row last i ≢ moved_from row last j
unfolding moved_from
from-apart row last i j i_in j_in other = grind (arith, nat_tests)

pub moved_set : (xs ys : List ℕ) (row last value : ℕ) → row ≤ last → length xs ≡ last + 1 → length ys ≡ length xs → SwappedAt xs ys row last
    → AreMoved row value xs (set ys last value)
moved_set xs ys row last value within whole long swapped = record {
  last = last;
  whole = whole;
  kept = length-set ys last value ∙ long ∙ whole;
  moved = λ k before. get_or-set_other ys last k value 0 (λ e. omega (arith, e, before)) ∙ moved-at xs ys row last k swapped before;
  new = get_or-set_same ys last value 0 (omega (arith, long, whole));
}

pub moved-take : (xs ys : List ℕ) (row last k : ℕ) → SwappedAt xs ys row last → k < last → get_or (take last ys) k 0 ≡ get_or xs (moved_from row last k) 0
moved-take xs ys row last k swapped before = get_or-take last ys k 0 before ∙ moved-at xs ys row last k swapped before

-- rows of which one is exchanged: where each of the others was, and that the last is new
pub record IsExchanged (cost after_cost : Costing) (row last : ℕ) (g after : Growth) : Type 0 where
  pub within : row ≤ last
  pub goals : length after.goal_of ≡ last
  pub goal_is : (k : ℕ) → k < last → get_or after.goal_of k 0 ≡ get_or g.goal_of (moved_from row last k) 0
  pub prices : AreMoved row 0 g.u after.u
  pub cost_is : (k goal : ℕ) → k < last → after_cost k goal ≡ cost (moved_from row last k) goal
  pub same : after ≡ record g { u = after.u; goal_of = after.goal_of; floor = after.floor }
  pub risen : g.floor ≤ after.floor
  pub bounded : after.floor ≤ 536870912
  pub top : All (λ price. price ≤ after.floor) g.v

-- what was ready for the end is ready for one row more
pub IsReady-exchanged : (cost after_cost : Costing) (members goals row last count : ℕ) (g after : Growth) → IsReady cost members goals g
    → length g.goal_of ≡ members → members ≡ last + 1 → count ≡ last + 1 → IsExchanged cost after_cost row last g after → IsReady after_cost count goals after
IsReady-exchanged cost after_cost members goals row last count g after ready all whole counted is =
    let m = ready.matched in
    let last_is : is.prices.last ≡ last = omega (arith, is.prices.whole, m.a_price_a_box, whole) in
    let u_is : (k : ℕ) → k < last → get_or after.u k 0 ≡ get_or g.u (moved_from row last k) 0 =
    λ k before. subst (λ n. get_or after.u k 0 ≡ get_or g.u (moved_from row n k) 0) last_is (is.prices.moved k (omega (arith, before, last_is))) in
    let new : get_or after.u last 0 ≡ 0 = subst (λ n. get_or after.u n 0 ≡ 0) last_is is.prices.new in
    let u_whole : length after.u ≡ count = omega (arith, is.prices.kept, last_is, counted) in
    subst (IsReady after_cost count goals) (sym is.same) (record {
      matched = record {
        a_price_a_box = u_whole;
        a_price_a_goal = m.a_price_a_goal;
        exist = All-from_get_or (λ goal. goal < goals) after.goal_of 0 (λ k inside.
            let below = below-last row last k is.within (omega (arith, inside, is.goals)) in
            let exists = m.exist (moved_from row last k) 0 (omega (arith, below, all, whole)) in
            omega (arith, is.goal_is k (omega (arith, inside, is.goals)), exists));
        apart = apart_from after.goal_of (λ i j i_in j_in same.
            let from : ℕ → ℕ = moved_from row last in
            let one = same_place g.goal_of m.apart (from i) (from j) in
            let below = below-last row last in
            let places : i ≢ j → from i ≢ from j = from-apart row last i j (omega (arith, i_in, is.goals)) (omega (arith, j_in, is.goals)) in
            grind (arith, is.goals, is.within, is.goal_is i, is.goal_is j, below i, below j, one, places, all, whole));
        fair = λ member goal pushes below within way.
            let old : member < last → get_or g.u (moved_from row last member) 0 ≤ get_or g.v goal 0 + pushes = λ before.
            m.fair (moved_from row last member) goal pushes (omega (arith, below-last row last member is.within before, m.a_price_a_box, whole)) within
            (sym (is.cost_is member goal before) ∙ way) in
            grind (arith, old, new, u_is member, u_whole, counted);
        exact = λ member inside.
            let before : member < last = omega (arith, inside, is.goals) in
            let was = below-last row last member is.within before in
            let tight = m.exact (moved_from row last member) (omega (arith, was, all, whole)) in
            let goal_is = is.goal_is member before in
            let price = u_is member before in
            let goal_price = ap (λ j. get_or g.v j 0) goal_is in
            record {
              pushes = tight.pushes;
              way = is.cost_is member (get_or after.goal_of member 0) before ∙ ap (cost (moved_from row last member)) goal_is ∙ tight.way;
              exact = omega (arith, tight.exact, price, goal_price);
            };
        idle = λ goal within _. price-at after.floor g.v goal is.top;
      };
      bounded = is.bounded;
      low = record {
        boxes = All-from_get_or (λ price. price ≤ low count after.floor) after.u 0 (λ member below.
            let old = price-at (low members g.floor) g.u (moved_from row last member) ready.low.boxes in
            grind (arith, old, new, u_is member, is.risen, u_whole, whole, counted));
        goals = All-weaker (λ price. price ≤ low members g.floor) (λ price. price ≤ low count after.floor)
            (λ price below. omega (arith, below, is.risen, whole, counted)) g.v ready.low.goals;
      };
      roomy = record { taken = ready.roomy.taken; slacks = ready.roomy.slacks; takers = ready.roomy.takers };
    })

-- what holds of all elements, and of the new one
pub All-moved : (P : ℕ → Type 0) (row entry : ℕ) (before after : List ℕ) → row < length before → AreMoved row entry before after → All P before → P entry
    → All P after
All-moved P row entry before after within is all new = All-from_get_or P after 0 (λ k inside.
    let below = below-last row is.last k in
    let old = all (moved_from row is.last k) 0 in
    grind (arith, is.whole, is.kept, is.new, is.moved k, below, old, new))

pub AreCosts-moved : {costs : Costs} {row entry : ℕ} {rows after : List ℕ} → AreCosts costs rows → row < length rows
    → (entry + 1) * costs.goals ≤ length costs.entries.items → AreMoved row entry rows after → AreCosts costs after
AreCosts-moved {costs = costs} {row = row} {entry = entry} {rows = rows} {after = after} are within room is = record {
  exist = All-moved (λ r. (r + 1) * costs.goals ≤ length costs.entries.items) row entry rows after within is are.exist room;
  few = omega (arith, is.kept, is.whole, are.few);
  small = are.small;
}

-- no place but the last takes the exchanged row's
from-other : (row last k : ℕ) → k < last → moved_from row last k ≢ row
unfolding moved_from
from-other row last k before = grind (arith, nat_tests)

-- rows at different places differ, where one of them is a box's
pub rows-apart : (end : ℕ) (rows : List ℕ) → AreRows end rows → (i j : ℕ) → i ≢ j → i < length rows → j < length rows → get_or rows i 0 < end
    → get_or rows i 0 ≢ get_or rows j 0
rows-apart end rows are i j other i_within j_within below = grind (arith, are.apart i j, are.apart j i)

pub AreRows-moved : {end row to : ℕ} {rows after : List ℕ} → AreRows end rows → IsChange end rows row to → AreMoved row to rows after → AreRows end after
AreRows-moved {end = end} {row = row} {to = to} {rows = rows} {after = after} are change is =
    let from : ℕ → ℕ = moved_from row is.last in
    let was : (k : ℕ) → k < is.last → from k < is.last + 1 = λ k before. below-last row is.last k (omega (arith, change.within, is.whole)) before in
    record {
      within = All-moved (λ r. r ≤ end) row to rows after change.within is are.within change.below;
      apart = λ i j before within below same.
          let fresh : to < end → from i < length rows → get_or rows (from i) 0 ≢ to = λ less. change.fresh less (from i) in
          let others = rows-apart end rows are (from i) (from j) in
          grind (arith, is.whole, is.kept, is.new, is.moved i, is.moved j, was i, was j, from-apart row is.last i j, others, fresh);
    }

-- rows of boxes and spare rows stay such
pub AreSet-moved : {end row to : ℕ} {costs : Costs} {first rows after : List ℕ} → AreSet end costs first rows → IsChange end rows row to
    → AreMoved row to rows after → AreCosts costs after → AreSet end costs first after
AreSet-moved set change is shaped = record {
  whole = omega (arith, is.kept, is.whole, set.whole);
  shaped = shaped;
  are_rows = AreRows-moved set.are_rows change is;
}

from-row : (row last : ℕ) → moved_from row last row ≡ last
unfolding moved_from
from-row row last = grind (arith, nat_tests)

from-same : (row last k : ℕ) → k ≢ row → moved_from row last k ≡ k
unfolding moved_from
from-same row last k other = grind (arith, nat_tests)

-- the rows are those of the boxes with one moved
pub AreExactly-moved : (end row to : ℕ) (rows changed boxes after : List ℕ) → AreRows end rows → IsMovedTo end rows row to boxes after
    → AreMoved row to rows changed → AreExactly end changed after
AreExactly-moved end row to rows changed boxes after are moved is =
    let last = is.last in
    let value : (k : ℕ) → k ≡ last → get_or changed k 0 ≡ to = λ k same. ap (λ j. get_or changed j 0) same ∙ is.new in
    record {
      of = λ k within below. elim (cases_eq k last) [
        | inl same ↦ subst (Contains after) (sym (value k same)) ((moved.moved to).1 (inl refl))
        | inr other ↦
            let before : k < last = omega (arith, within, is.kept, other) in
            let value = is.moved k before in
            let was : moved_from row last k < length rows = omega (arith, below-last row last k (omega (arith, moved.within, is.whole)) before, is.whole) in
            let place = moved_from row last k in
            subst (Contains after) (sym value) ((moved.moved (get_or rows place 0)).1 (inr (
              moved.exactly.of place was (omega (arith, below, value)),
              rows-apart end rows are place row (from-other row last k before) was moved.within (omega (arith, below, value)),
            )))
      ];
      each = λ i d within.
          let s = get_or after i d in
          let there : (k : ℕ) → k < length changed → get_or changed k 0 ≡ s → Contains changed s = λ k inside same.
          (k, inside, get_or_default changed k s 0 inside ∙ same) in
          elim ((moved.moved s).0 (i, within, get_or_default after i s d within)) [
            | inl is_to ↦ there last (omega (arith, is.kept)) (is.new ∙ sym is_to)
            | inr (among, other) ↦
                let (k, k_in, k_is) = All-contains (Contains rows) boxes s moved.exactly.each among in
                let is_s : get_or rows k 0 ≡ s = get_or_default rows k 0 s k_in ∙ k_is in
                let apart : k ≢ row = λ same. other (sym is_s ∙ ap (λ j. get_or rows j 0) same) in
                elim (cases_eq k last) [
                  | inl at_last ↦
                      let before : row < last = omega (arith, moved.within, is.whole, at_last, apart) in
                      there row (omega (arith, before, is.kept))
                      (is.moved row before ∙ ap (λ j. get_or rows j 0) (from-row row last ∙ sym at_last) ∙ is_s)
                  | inr elsewhere ↦
                      let before : k < last = omega (arith, k_in, is.whole, elsewhere) in
                      there k (omega (arith, before, is.kept)) (is.moved k before ∙ ap (λ j. get_or rows j 0) (from-same row last k apart) ∙ is_s)
                ]
          ];
    }

module _ {end members : ℕ} {boxes rows : List ℕ} (exist : All (λ square. square < end) boxes) (listed : AreListed end members boxes rows) where
  -- a row that is listed is a box's or spare
  listed-below : (k : ℕ) → k < members → get_or rows k 0 < end → k < length boxes
  listed-below k within below = grind (arith, listed.back k)

  pub AreRows-listed : IsStrictlyIncreasing boxes → AreRows end rows
  AreRows-listed rising = record {
    within = All-from_get_or (λ row. row ≤ end) rows 0 (λ k within. grind (arith, listed.whole, listed.back k, listed.front k, exist k 0));
    apart = λ i j before within below same.
        let rises = AllPairs-from_increasing boxes rising i j 0 before in
        grind (arith, listed-below i, listed-below j, listed.front i, listed.front j, rises, listed.whole, before, within, below, same);
  }

  pub AreExactly-listed : length boxes ≤ members → AreExactly end rows boxes
  AreExactly-listed enough = record {
    of = λ k within below.
        let box = listed-below k (omega (arith, within, listed.whole)) below in
        (k, box, get_or_default boxes k (get_or rows k 0) 0 box ∙ sym (listed.front k box));
    each = λ k d within.
        let inside : k < length rows = omega (arith, within, enough, listed.whole) in
        (k, inside, get_or_default rows k (get_or boxes k d) 0 inside ∙ listed.front k within ∙ get_or_default boxes k 0 d within);
  }

  pub AreSet-listed : {costs : Costs} {before : List ℕ} → length before ≡ members → AreCosts costs before → IsStrictlyIncreasing boxes
      → (end + 1) * costs.goals ≤ length costs.entries.items → AreSet end costs before rows
  AreSet-listed {costs = costs} long are rising room =
      let set = AreRows-listed rising in
      record {
        whole = omega (arith, listed.whole, long);
        shaped = AreCosts-below costs (end + 1) rows (λ k d within. omega (arith, set.within k d within)) (omega (arith, listed.whole, long, are.few))
            are.small room;
        are_rows = set;
      }

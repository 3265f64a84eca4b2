-- The squares around a box that is pushed tell where the man comes behind it.
use Rattle.std.proofs.Common.{ℕ, ◌≡◌, ◌<◌, ◌≤◌, ◌↔◌, ◌⊎◌, ◌∙◌, inl, inr, refl, sym, ap, subst, arith, List, Bool, true, Option, None, Some, IfSome, Contains, length, min, IsTrue}
use Rattle.std.specs.List.Sorted.{IsStrictlyIncreasing}
use Rattle.std.proofs.Math.Nat.{min-eq_left, min-eq_right, min-le_left, min-le_right}
use Rattle.std.proofs.lemmas.Bool.{cases_eq, cases_lt}
use Rattle.sok_rules.specs.declared.cell.Dir.{Dir}
use Rattle.sok_rules.specs.declared.cell.Spot.{Spot}
use Rattle.sok_rules.specs.Squares.{opposite}
use Rattle.sok_rules.proofs.Walking.{IsStanding-Same, Same-refl, Same-step, Same-sym, Same-trans}
use Rattle.sok_board.specs.Area.{BoardView, IsAccepted, beside, position_of, spot_of}
use Rattle.sok_board.specs.BoxSets.{IsMoved}
use Rattle.sok_board.proofs.AreaLaws.{same_number}
use Rattle.sok_board.proofs.Beside.{beside-within}
use Rattle.sok_field.specs.Fields.{has}
use Rattle.sok_field.specs.Numbers.{Draws}
use Rattle.sok_field.specs.Trails.{Leads}
use Rattle.sok_field.proofs.Trails.{Leads-more, Leads-start}
use Rattle.sok_region.specs.Layouts.{IsLaidOut, Laid}
use Rattle.sok_region.specs.Regions.{IsPlaced}
use Rattle.sok_region.proofs.Regions.{IsStanding-placed, Leads-same, placed_boxes, same_player, through-exact}
use Rattle.sok_region.proofs.Walks.{not_listed, step-beside, trail-keeps, trail-run}
use Rattle.sok_state.specs.declared.key.Key.{Key}
use Rattle.sok_state.specs.declared.push.Push.{Push}
use Rattle.sok_state.specs.declared.scene.Scene.{Scene}
use Rattle.sok_state.specs.Around.{among, IsLedBeside, IsReachedBeside, IsStepping, TellsBeside}
use Rattle.sok_state.specs.Keys.{IsKeyOf, key_position}
use Rattle.sok_state.specs.Pushes.{IsKeyAfter, IsPushable, ReachesFrom}
use Rattle.sok_state.specs.Tables.{IsNext}
use Rattle.sok_state.proofs.LegalPushes.{IsPlaced-after, LeadsTo-position, clear-legal, free-legal, key_after}
use Rattle.sok_state.proofs.Stepped.{clear-after, next-as_many, placed-after}

-- on to the square beside one, if it is free
pub Leads-beside : (b : BoardView) (free : List ℕ) (from square : ℕ) (d : Dir) (beside : Option ℕ) → Leads b (among b free) from square
    → TellsBeside b free square d beside → IfSome beside (Leads b (among b free) from)
Leads-beside b free from square d None led told = tt
Leads-beside b free from square d (Some t) led told = Leads-more b (among b free) from square t d led told.is told.has

module _ (b : BoardView) (accepted : IsAccepted b) (key : Key) (push : Push) (to : ℕ) (free reached after : List ℕ)
    (stepping : IsStepping b key push to free reached after) where
  abbrev from : ℕ
  from = push.from

  placed : IsPlaced b key.boxes key.least
  placed = stepping.state.is.placed

  pub placed_after : IsPlaced b after from
  placed_after = IsPlaced-after b accepted.numbered key placed push to after stepping.legal stepping.ahead stepping.moved stepping.rising

  -- free behind the push
  abbrev lets : ℕ → Bool
  lets = among b free

  through : (n : ℕ) → n < length b.area → (lets n ≡ true) ↔ (Contains after n → ⊥)
  through = through-exact b accepted.numbered after free stepping.left

  pub to_within : to < length b.area
  to_within = beside-within b push.dir from to stepping.ahead

  -- on the square that the box takes nobody walks, and on another one that was free he does
  shut : (n : ℕ) → n < length b.area → lets n ≡ true → n ≡ to → ⊥
  shut n within opened is = (through n within).0 opened ((stepping.moved n).1 (inl is))

  stays_free : (n : ℕ) → n < length b.area → (Contains key.boxes n → ⊥) → (n ≡ to → ⊥) → lets n ≡ true
  stays_free n within out other = (through n within).1 (λ there. elim ((stepping.moved n).0 there) [ inl is ↦ other is | inr (was, _) ↦ out was ])

  was_free : (n : ℕ) → n < length b.area → lets n ≡ true → (n ≡ from → ⊥) → Contains key.boxes n → ⊥
  was_free n within opened other was = (through n within).0 opened ((stepping.moved n).1 (inr (was, other)))

  -- where the man came there was no box
  reached_free : (n : ℕ) → n < length b.area → among b reached n ≡ true → Contains key.boxes n → ⊥
  reached_free n within here = not_listed b key.boxes n
      (IsStanding-Same b.rows (key_position b key) (position_of b n key.boxes)
      (IsStanding-placed b accepted.numbered accepted.proper key.least key.boxes placed) ((stepping.came n within).0 here))

  -- from there he came to each square beside that was free
  reached_more : (s : ℕ) (d : Dir) (t : ℕ) → s < length b.area → among b reached s ≡ true → beside b s d ≡ Some t → (Contains key.boxes t → ⊥)
      → among b reached t ≡ true
  reached_more s d t within here on out =
      let are = placed_boxes b key.boxes key.least accepted.proper accepted.numbered placed in
      let t_within = beside-within b d s t on in
      (stepping.came t t_within).1 (Same-trans b.rows (key_position b key) (position_of b s key.boxes) (position_of b t key.boxes)
      ((stepping.came s within).0 here)
      (Same-step b.rows d (position_of b s key.boxes) _ (step-beside b key.boxes are d s t on t_within out) refl))

  -- what the square that the box left, and those to which he came, are for the squares behind the push
  abbrev Came : ℕ → Type 0
  Came n = (n < length b.area) × ((n ≡ from) ⊎ ((among b reached n ≡ true) × (n ≡ to → ⊥)))

  module _ (near : (d : Dir) → IsReachedBeside b free reached from d) where
    came-more : (s : ℕ) (d : Dir) (t : ℕ) → Came s → beside b s d ≡ Some t → lets t ≡ true → Came t
    came-more s d t (s_within, came) on opened =
        let within = beside-within b d s t on in (
          within,
          elim (cases_eq t from) [
            | inl is ↦ inl is
            | inr other ↦ inr (
              elim came [
                | inl at ↦ near d t (subst (λ n. beside b n d ≡ Some t) at on) opened
                | inr (here, _) ↦ reached_more s d t s_within here on (was_free t within opened other)
              ],
              shut t within opened,
            )
          ],
        )

    pub led-came : (n : ℕ) → Leads b lets from n → Came n
    led-came n (w, leads) = trail-keeps b lets Came came-more w from n (placed_after.player_exists, inl refl) leads

  -- and he comes there still, if he comes around the box
  module _ (round : among b reached to ≡ true → (d : Dir) → IsLedBeside b free from to d) where
    abbrev Comes : ℕ → Type 0
    Comes n = ((n ≡ to) × (among b reached to ≡ true)) ⊎ Leads b lets from n

    comes : (n : ℕ) → n < length b.area → among b reached n ≡ true → (n ≡ to → (n ≡ to) × (among b reached to ≡ true)) → ((n ≡ to → ⊥) → Leads b lets from n) → Comes n
    comes n within here at led = elim (cases_eq n to) [ inl is ↦ inl (at is) | inr other ↦ inr (led other) ]

    at_to : (n : ℕ) → among b reached n ≡ true → n ≡ to → (n ≡ to) × (among b reached to ≡ true)
    at_to n here is = (is, subst (λ m. among b reached m ≡ true) is here)

    comes-more : (s : ℕ) (d : Dir) (t : ℕ) → Comes s → beside b s d ≡ Some t → among b reached t ≡ true → Comes t
    comes-more s d t came on here =
        let within = beside-within b d s t on in
        comes t within here (at_to t here) (λ other.
        let opened = stays_free t within (reached_free t within here) other in
        elim came [
          | inl (at, there) ↦ round there d t (subst (λ n. beside b n d ≡ Some t) at on) opened
          | inr led ↦ Leads-more b lets from s t d led on opened
        ])

    pub came-led : (n : ℕ) → n < length b.area → among b reached n ≡ true → (n ≡ to → ⊥) → Leads b lets from n
    came-led n within here other =
        let behind = free-legal b accepted.numbered key placed push stepping.legal in
        let p = behind.behind in
        let p_within = beside-within b (opposite push.dir) from p behind.behind_is in
        let p_here = (stepping.came p p_within).1 behind.comes in
        let are = placed_boxes b key.boxes key.least accepted.proper accepted.numbered placed in
        let start = key_position b key in
        let stands = IsStanding-placed b accepted.numbered accepted.proper key.least key.boxes placed in
        let same = Same-trans b.rows (position_of b p key.boxes) start (position_of b n key.boxes)
        (Same-sym b.rows start (position_of b p key.boxes) stands behind.comes) ((stepping.came n within).0 here) in
        let arrives = trail-run b key.boxes are (among b reached) same.0 p (position_of b n key.boxes) p_within
        (λ k k_within walked. (stepping.came k k_within).1
        (Same-trans b.rows start (position_of b p key.boxes) (position_of b k key.boxes) behind.comes walked)) same.1 same.2 in
        let is : n ≡ arrives.to = same_player b key.boxes accepted.numbered n arrives.to within arrives.within arrives.is in
        elim (trail-keeps b (among b reached) Comes comes-more same.0 p arrives.to
        (comes p p_within p_here (at_to p p_here) (λ apart. Leads-more b lets from from p (opposite push.dir) (Leads-start b lets from) behind.behind_is
        (stays_free p p_within (reached_free p p_within p_here) apart))) arrives.leads) [
          | inl (at, _) ↦ absurd (other (is ∙ at))
          | inr led ↦ subst (Leads b lets from) (sym is) led
        ]

  -- so the lesser of two squares is the least
  pub least-key : ((d : Dir) → IsReachedBeside b free reached from d) → (among b reached to ≡ true → (d : Dir) → IsLedBeside b free from to d)
      → (key.least ≡ to → ⊥) → (least : ℕ) → least ≡ min key.least from → IsKeyOf b (position_of b from after) (record { boxes = after; least = least })
  least-key near round apart least is =
      let up_to_least : least ≤ key.least = subst (λ n. n ≤ key.least) (sym is) (min-le_left key.least from) in
      let up_to_from : least ≤ from = subst (λ n. n ≤ from) (sym is) (min-le_right key.least from) in
      let start = key_position b key in
      let here = (stepping.came key.least placed.player_exists).1 (Same-refl b.rows start) in
      let led : Leads b lets from least = subst (Leads b lets from) (sym is) (elim (cases_lt from key.least) [
        | inl below ↦ subst (Leads b lets from) (sym (min-eq_right (omega (arith, below)))) (Leads-start b lets from)
        | inr past ↦ subst (Leads b lets from) (sym (min-eq_left (omega (arith, past))))
            (came-led round key.least placed.player_exists here apart)
      ]) in
      let within : least < length b.area = let exists = placed.player_exists in omega (arith, up_to_least, exists) in
      let leads_same = Leads-same b after from accepted.proper accepted.numbered placed_after lets through in
      let same = (leads_same least within).0 led in
      let stands = IsStanding-placed b accepted.numbered accepted.proper from after placed_after in
      let known = stepping.state.is in
      record {
        placed = record {
          rising = stepping.rising;
          boxes_exist = placed_after.boxes_exist;
          player_exists = within;
          free = not_listed b after least (IsStanding-Same b.rows (position_of b from after) (position_of b least after) stands same);
        };
        same = same;
        least = λ s s_within walked. elim (led-came near s ((leads_same s s_within).1 walked)).1 [
          | inl at ↦ omega (arith, up_to_from, at)
          | inr (came, _) ↦
              let up = known.least s s_within (Same-trans b.rows _ start (position_of b s key.boxes) known.same ((stepping.came s s_within).0 came)) in
              omega (arith, up, up_to_least)
        ];
      }

  -- and the squares to which he comes are those before it without the one that the box took and with the one that it left
  pub kept-reached : ((d : Dir) → IsReachedBeside b free reached from d) → (among b reached to ≡ true → (d : Dir) → IsLedBeside b free from to d)
      → (more new : List ℕ) → ((s : Spot) → IsTrue (has more s) ↔ ((s ≡ spot_of b from) ⊎ IsTrue (has reached s)))
      → ((s : Spot) → IsTrue (has new s) ↔ ((s ≡ spot_of b to → ⊥) × IsTrue (has more s))) → ReachesFrom b from after new
  kept-reached near round more new put taken s within =
      let leads_same = Leads-same b after from accepted.proper accepted.numbered placed_after lets through s within in
      let area = accepted.numbered in (
        λ here.
            let (apart, there) = (taken (spot_of b s)).0 here in
            leads_same.0 (elim ((put (spot_of b s)).0 there) [
              | inl is ↦ subst (Leads b lets from) (sym (same_number b area s from within placed_after.player_exists is)) (Leads-start b lets from)
              | inr came ↦ came-led round s within came (λ is. apart (ap (spot_of b) is))
            ]),
        λ same. elim (led-came near s (leads_same.1 same)).1 [
          | inl is ↦ (taken (spot_of b s)).1 (
            (λ at. placed_after.free ((stepping.moved from).1 (inl (sym is ∙ same_number b area s to within to_within at)))),
            (put (spot_of b s)).1 (inl (ap (spot_of b) is)),
          )
          | inr (came, other) ↦ (taken (spot_of b s)).1 (
            (λ at. other (same_number b area s to within to_within at)),
            (put (spot_of b s)).1 (inr came),
          )
        ],
      )

-- what is come to from a square is come to in the state
pub Reaches-key : (b : BoardView) → IsAccepted b → (boxes : List ℕ) (player least : ℕ) (reached : List ℕ) → IsPlaced b boxes player
    → IsKeyOf b (position_of b player boxes) (record { boxes = boxes; least = least }) → ReachesFrom b player boxes reached
    → ReachesFrom b least boxes reached
Reaches-key b accepted boxes player least reached placed is reaches s within =
    let start = position_of b player boxes in
    let first = position_of b least boxes in
    let stands = IsStanding-placed b accepted.numbered accepted.proper player boxes placed in (
      λ here. Same-trans b.rows first start (position_of b s boxes) (Same-sym b.rows start first stands is.same) ((reaches s within).0 here),
      λ same. (reaches s within).1 (Same-trans b.rows start first (position_of b s boxes) is.same same),
    )

-- boxes that are shifted by a push are those behind it
pub IsStepping-shifted : (b : BoardView) → IsAccepted b → (key : Key) (push : Push) (to : ℕ) (scene : Scene) (shifted : Laid) (free after : List ℕ)
    → IsPushable b push scene key → beside b push.from push.dir ≡ Some to → IsMoved key.boxes push.from to after → IsStrictlyIncreasing after
    → ((boxes moved : List ℕ) → IsLaidOut b boxes scene.layout → Contains boxes push.from → (Contains boxes to → ⊥) → IsMoved boxes push.from to moved
    → IsLaidOut b moved shifted)
    → free ≡ shifted.free → IsStepping b key push to free scene.reached after
IsStepping-shifted b accepted key push to scene shifted free after can ahead moved rising shifts same =
    let there = (clear-legal b accepted.numbered key can.state.is.placed push can.legal).0 in
    let clear = clear-after b accepted key push to can.state can.legal ahead in
    let laid = shifts key.boxes after can.opened.laid there clear moved in
    record {
      state = can.state;
      legal = can.legal;
      ahead = ahead;
      moved = moved;
      rising = rising;
      left = subst (Draws b (λ n. Contains after n → ⊥)) (sym same) laid.free;
      came = can.opened.reached;
    }

-- so the key of what was found is that of the state behind it
pub key-behind : (b : BoardView) → IsAccepted b → (key next : Key) (push : Push) (to : ℕ) (scene : Scene) → IsPushable b push scene key
    → beside b push.from push.dir ≡ Some to → IsNext key push.from to next.least next → IsKeyOf b (position_of b push.from next.boxes) next
    → IsKeyAfter b key push next
key-behind b accepted key next push to scene can ahead is is_key = record {
  exact = λ after leads. key_after b next push next.boxes after
      (LeadsTo-position b accepted.numbered key push to next.boxes after can.state.is.placed ahead is.moved leads) is_key;
  of_board = record {
    player = push.from;
    boxes = next.boxes;
    placed = placed-after b accepted key push to next.boxes can.state can.legal ahead is.moved is.rising;
    is = is_key;
  };
  as_many = next-as_many b accepted key next push to next.least scene can ahead is;
}

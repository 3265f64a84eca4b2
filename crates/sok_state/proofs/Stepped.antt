-- The least square of a flood makes the key, and a push that is taken back.
use Rattle.std.proofs.Common.{ℕ, ◌≡◌, ◌<◌, ◌≤◌, ◌∙◌, inl, inr, refl, sym, ap, subst, List, Bool, true, Some, Contains, length}
use Rattle.std.specs.List.Sorted.{IsStrictlyIncreasing}
use Rattle.std.proofs.lemmas.Bool.{cases_eq}
use Rattle.std.proofs.lemmas.Option.{same_Some}
use Rattle.sok_rules.specs.declared.cell.Spot.{Spot}
use Rattle.sok_rules.proofs.Walking.{IsStanding-Same}
use Rattle.sok_board.specs.Area.{BoardView, IsAccepted, beside, number_of, position_of, spot_of}
use Rattle.sok_board.proofs.AreaLaws.{spot_of-number_of}
use Rattle.sok_field.specs.Fields.{has, IsFirstSquare}
use Rattle.sok_field.specs.Numbers.{Draws}
use Rattle.sok_field.specs.Trails.{Leads}
use Rattle.sok_field.proofs.Drawings.{first-is-least}
use Rattle.sok_board.specs.BoxSets.{IsMoved, put_in_order}
use Rattle.sok_region.specs.Regions.{IsPlaced}
use Rattle.sok_board.proofs.Moves.{IsBoxList-put, IsMoved-put}
use Rattle.sok_region.proofs.Regions.{IsStanding-placed, drawn-numbered, drawn-same}
use Rattle.sok_region.proofs.Walks.{not_listed}
use Rattle.sok_state.specs.declared.key.Key.{Key}
use Rattle.sok_state.specs.declared.push.Push.{Push}
use Rattle.sok_state.specs.declared.scene.Scene.{Scene}
use Rattle.sok_state.specs.Keys.{IsKey, IsKeyOf}
use Rattle.sok_state.specs.Pushes.{IsKeyAfter, IsLegal, IsPushable}
use Rattle.sok_state.specs.Tables.{IsNext}
use Rattle.sok_state.proofs.LegalPushes.{IsPlaced-after, clear-legal, clear_ahead}
use Rattle.sok_state.proofs.Moves.{next-same}

-- a box that is moved back
pub moved-back : (boxes after : List ℕ) (from to : ℕ) → Contains boxes from → (Contains boxes to → ⊥) → IsMoved boxes from to after
    → IsMoved after to from boxes
moved-back boxes after from to there free moved s = (
  λ here. elim (cases_eq s from) [
    | inl same ↦ inl same
    | inr other ↦ inr ((moved s).1 (inr (here, other)), λ is. free (subst (Contains boxes) is here))
  ],
  λ cases. elim cases [
    | inl same ↦ subst (Contains boxes) (sym same) there
    | inr (came, other) ↦ elim ((moved s).0 came) [ inl same ↦ absurd (other same) | inr (here, _) ↦ here ]
  ],
)

-- the square that it left has none
pub gone : (boxes after : List ℕ) (from to : ℕ) → Contains boxes from → (Contains boxes to → ⊥) → IsMoved boxes from to after → Contains after from → ⊥
gone boxes after from to there free moved left = elim ((moved from).0 left) [
  | inl same ↦ free (subst (Contains boxes) same there)
  | inr (_, other) ↦ other refl
]

-- a box is pushed to a square where no box is, and the man to where it stood
pub clear-after : (b : BoardView) → IsAccepted b → (key : Key) (push : Push) (ahead : ℕ) → IsKey b key → IsLegal b key push
    → beside b push.from push.dir ≡ Some ahead → Contains key.boxes ahead → ⊥
clear-after b accepted key push ahead state legal ahead_is =
    clear_ahead b key push (clear-legal b accepted.numbered key state.is.placed push legal).1 ahead ahead_is

pub placed-after : (b : BoardView) → IsAccepted b → (key : Key) (push : Push) (ahead : ℕ) (boxes : List ℕ) → IsKey b key → IsLegal b key push
    → beside b push.from push.dir ≡ Some ahead → IsMoved key.boxes push.from ahead boxes → IsStrictlyIncreasing boxes → IsPlaced b boxes push.from
placed-after b accepted key push ahead boxes state legal = IsPlaced-after b accepted.numbered key state.is.placed push ahead boxes legal

-- the state after a push, with its boxes put in order
abbrev pub next_of : Key → ℕ → ℕ → ℕ → Key
next_of key from to least = record { boxes = put_in_order from to key.boxes; least = least }

pub next-made : (b : BoardView) → IsAccepted b → (key : Key) (push : Push) (to least : ℕ) (scene : Scene) → IsPushable b push scene key
    → beside b push.from push.dir ≡ Some to
    → IsNext key push.from to least (next_of key push.from to least) × (length (next_of key push.from to least).boxes ≡ length key.boxes)
next-made b accepted key push to least scene can ahead =
    let placed = can.state.is.placed in
    let there = (clear-legal b accepted.numbered key placed push can.legal).0 in
    let (list, as_many) = IsBoxList-put push.from to key.boxes placed.rising can.few there (clear-after b accepted key push to can.state can.legal ahead) in
    (record { moved = IsMoved-put push.from to key.boxes; rising = list.rising; least_is = refl }, as_many)

-- each other one has as many boxes
pub next-as_many : (b : BoardView) → IsAccepted b → (key next : Key) (push : Push) (to least : ℕ) (scene : Scene) → IsPushable b push scene key
    → beside b push.from push.dir ≡ Some to → IsNext key push.from to least next → length next.boxes ≡ length key.boxes
next-as_many b accepted key next push to least scene can ahead is =
    let (made, as_many) = next-made b accepted key push to least scene can ahead in
    ap (λ (k : Key). length k.boxes) (next-same key push.from to least next (next_of key push.from to least) is made) ∙ as_many

-- what is known of it
pub record ComesNext (b : BoardView) (key : Key) (push : Push) (to least : ℕ) : Type 0 where
  pub is : IsNext key push.from to least (next_of key push.from to least)
  pub came : IsKeyAfter b key push (next_of key push.from to least)

pub comes-next : (b : BoardView) → IsAccepted b → (key : Key) (push : Push) (to least : ℕ) (scene : Scene) → IsPushable b push scene key
    → beside b push.from push.dir ≡ Some to
    → ((next : Key) → IsNext key push.from to least next → IsKeyAfter b key push next)
    → ComesNext b key push to least
comes-next b accepted key push to least scene can ahead comes =
    let (is, as_many) = next-made b accepted key push to least scene can ahead in
    record { is = is; came = comes (next_of key push.from to least) is }

-- the first square that a flood draws makes the key
pub first-key : (b : BoardView) → IsAccepted b → (boxes : List ℕ) (player : ℕ) (free seen : List ℕ) → IsPlaced b boxes player
    → Draws b (λ n. Contains boxes n → ⊥) free → ((lets : ℕ → Bool) → Draws b (λ n. lets n ≡ true) free → Draws b (Leads b lets player) seen)
    → (s : Spot) (least : ℕ) → IsFirstSquare (has seen) s → number_of b s ≡ Some least
    → IsKeyOf b (position_of b player boxes) (record { boxes = boxes; least = least })
first-key b accepted boxes player free seen placed drawn flooded s least first number =
    let area = accepted.numbered in
    let same_drawn = drawn-same b boxes player free seen accepted.proper area placed drawn flooded in
    let (n, n_number, among, lowest) = first-is-least b area (λ k. has seen (spot_of b k)) seen s (λ t. (
      λ here.
          let (k, k_number) = drawn-numbered b boxes player free seen accepted.proper area placed drawn flooded t here in
          (k, k_number, ap (has seen) (spot_of-number_of b t k k_number).1 ∙ here),
      λ (k, k_number, here). ap (has seen) (sym (spot_of-number_of b t k k_number).1) ∙ here,
    )) first in
    let is : n ≡ least = same_Some n least (sym n_number ∙ number) in
    let within : least < length b.area = (spot_of-number_of b s least number).0 in
    let same = (same_drawn least within).0 (subst (λ k. has seen (spot_of b k) ≡ true) is among) in
    let stands = IsStanding-placed b area accepted.proper player boxes placed in
    record {
      placed = record {
        rising = placed.rising;
        boxes_exist = placed.boxes_exist;
        player_exists = within;
        free = not_listed b boxes least (IsStanding-Same b.rows (position_of b player boxes) (position_of b least boxes) stands same);
      };
      same = same;
      least = λ k k_within walked. subst (λ m. m ≤ k) is (lowest k k_within ((same_drawn k k_within).1 walked));
    }

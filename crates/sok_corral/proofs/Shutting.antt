-- When a push of a box of a fence is shut.
use Rattle.std.proofs.Common.{ℕ, ◌≡◌, ◌<◌, ◌∙◌, inl, inr, sym, subst, List, [], ◌∷◌, Some, None, true, false, true≢false, All, Contains, get_or, length, lit<}
use Rattle.std.proofs.lemmas.List.Elements.{All-contains}
use Rattle.std.proofs.lemmas.Option.{same_Some}
use Rattle.sok_rules.specs.declared.cell.Dir.{Dir}
use Rattle.sok_rules.specs.declared.cell.Dir.TheVariants.{Left, Up, Right, Down}
use Rattle.sok_rules.specs.Squares.{opposite}
use Rattle.sok_board.specs.Area.{BoardView, IsAccepted, beside, spot_of}
use Rattle.sok_board.proofs.AreaLaws.{number_of-spot_of}
use Rattle.sok_board.proofs.Beside.{beside-back}
use Rattle.sok_distance.specs.Pushing.{IsStuck}
use Rattle.sok_field.specs.Fields.{has}
use Rattle.sok_field.specs.Numbers.{Draws}
use Rattle.sok_state.specs.declared.key.Key.{Key}
use Rattle.sok_state.specs.declared.scene.Scene.{Scene}
use Rattle.sok_state.specs.Pushes.{IsOpened}
use Rattle.sok_corral.specs.Fences.{IsFence, Roams}
use Rattle.sok_corral.proofs.Fences.{NeverAfter-stuck}
use Rattle.sok_corral.specs.declared.lone.Lone.{Lone}
use Rattle.sok_corral.specs.Fencing.{AreShutAlong, IsAstray, IsLone, IsShut, IsShutAlong}

-- a square that a set of boxes draws
drawn-box : (b : BoardView) → IsAccepted b → (boxes boxed : List ℕ) → Draws b (Contains boxes) boxed → (n : ℕ) → n < length b.area
    → has boxed (spot_of b n) ≡ true → Contains boxes n
drawn-box b accepted boxes boxed draws n within there =
    let (m, number, among) = (draws (spot_of b n)).0 there in
    subst (Contains boxes) (same_Some m n (sym number ∙ number_of-spot_of b accepted.numbered n within)) among

pub drawn-no_box : (b : BoardView) → IsAccepted b → (boxes boxed : List ℕ) → Draws b (Contains boxes) boxed → (n : ℕ) → n < length b.area
    → has boxed (spot_of b n) ≡ false → Contains boxes n → ⊥
drawn-no_box b accepted boxes boxed draws n within out among =
    true≢false (sym ((draws (spot_of b n)).1 (n, number_of-spot_of b accepted.numbered n within, among)) ∙ out)

module _ (b : BoardView) (accepted : IsAccepted b) (scene : Scene) (lone : Lone) (man to : ℕ) (man_within : man < length b.area) (to_within : to < length b.area)
    (key : Key) (opened : IsOpened b key scene) (is : IsLone b key lone) (from : ℕ) (from_within : from < length b.area) where
  abbrev fence : List ℕ
  fence = lone.boxes.items

  -- no square to which the player could walk
  not_roamed : (n : ℕ) → n < length b.area → has lone.reached (spot_of b n) ≡ false → Roams b key.least fence n → ⊥
  not_roamed n within out roams = true≢false (sym ((is.reached n within).1 roams) ∙ out)

  pub shut-stuck : IsStuck b to → IsShut b key fence man from to
  shut-stuck stuck = inr (inr (NeverAfter-stuck b accepted key.least key.boxes fence is.state.is.placed man from to from_within to_within stuck))

  pub shut-away : has lone.reached (spot_of b man) ≡ false → Roams b key.least fence man → IsShut b key fence man from to
  shut-away out roams = absurd (not_roamed man man_within out roams)

  module _ (out : has lone.reached (spot_of b to) ≡ false) where
    pub shut-blocked : has scene.layout.boxed (spot_of b to) ≡ true → IsShut b key fence man from to
    shut-blocked there = inl (record {
      box = drawn-box b accepted key.boxes scene.layout.boxed opened.laid.boxed to to_within there;
      kept = inr (not_roamed to to_within out);
    })

    pub shut-inward : has scene.layout.boxed (spot_of b to) ≡ false → has scene.reached (spot_of b man) ≡ true → IsShut b key fence man from to
    shut-inward free comes = inr (inl (record {
      inward = not_roamed to to_within out;
      free = drawn-no_box b accepted key.boxes scene.layout.boxed opened.laid.boxed to to_within free;
      walk = (opened.reached man man_within).0 comes;
    }))

module _ (b : BoardView) (accepted : IsAccepted b) (key : Key) (fence : List ℕ) (from : ℕ) where
  pub shut-along : (d : Dir) (man to : ℕ) → beside b from (opposite d) ≡ Some man → beside b from d ≡ Some to
      → (Roams b key.least fence man → IsShut b key fence man from to) → IsShutAlong b key fence from d
  shut-along d man to behind ahead shut = λ m t within roams near far.
      let m_is : man ≡ m = same_Some man m (sym behind ∙ beside-back b accepted.numbered d m from within near) in
      let t_is : to ≡ t = same_Some to t (sym ahead ∙ far) in
      subst (λ k. IsShut b key fence m from k) t_is
      (subst (λ k. IsShut b key fence k from to) m_is (shut (subst (Roams b key.least fence) (sym m_is) roams)))

  pub shut-none_behind : (d : Dir) → beside b from (opposite d) ≡ None → IsShutAlong b key fence from d
  shut-none_behind d none = λ m t within roams near far. let e = sym none ∙ beside-back b accepted.numbered d m from within near in absurd (cc e)

-- the directions, in the order in which pushes are looked at
abbrev pub dirs : List Dir
dirs = Left ∷ Up ∷ Right ∷ Down ∷ []

pub each-dir : (P : Dir → Type 0) → ((k : ℕ) → k < 4 → P (get_or dirs k Left)) → (d : Dir) → P d
each-dir P each Left = each 0 (lit< tt)
each-dir P each Up = each 1 (lit< tt)
each-dir P each Right = each 2 (lit< tt)
each-dir P each Down = each 3 (lit< tt)

-- boxes are a fence if all their pushes are shut and a box that stays is astray
pub IsFence-shut : (b : BoardView) (key : Key) (scene : Scene) (lone : Lone) → IsOpened b key scene → IsLone b key lone
    → All (λ from. (d : Dir) → AreShutAlong b scene lone from d) lone.boxes.items
    → (s : ℕ) → IsAstray b key.boxes lone.reached s → IsFence b key.least key.boxes lone.boxes.items
IsFence-shut b key scene lone opened is shut s astray = record {
  among = is.among;
  pushed = λ d man from to within roams near among far.
      All-contains (λ from. (d : Dir) → AreShutAlong b scene lone from d) lone.boxes.items from shut among d key opened is man to within roams near far;
  astray = (
    s,
    record {
      box = astray.among;
      kept = inr (λ roams. true≢false (sym ((is.reached s astray.exists).1 roams) ∙ astray.out));
    },
    astray.off,
  );
}

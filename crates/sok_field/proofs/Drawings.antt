-- Bit rows and the numbers of a board's squares.
use Rattle.std.proofs.Common.{Contains, ◌++◌, ℕ, ◌≡◌, ◌<◌, ◌↔◌, inl, inr, refl, sym, ap, ◌∙◌, subst, List, [], ◌∷◌, Bool, true, Some, None, arith}
use Rattle.std.proofs.Common.{length, get_or, if◌then◌else◌}
use Rattle.std.specs.Option.{option_and_then}
use Rattle.std.proofs.lemmas.Bool.{cases_lt}
use Rattle.std.proofs.lemmas.List.Elements.{Contains-append_left, Contains-push, Contains-push_cases}
use Rattle.std.proofs.lemmas.Option.{same_Some, option_and_then_some}
use Rattle.sok_rules.specs.declared.cell.Dir.{Dir}
use Rattle.sok_rules.specs.declared.cell.Spot.{Spot}
use Rattle.sok_rules.specs.Squares.{next}
use Rattle.sok_board.specs.Area.{BoardView, IsAccepted, IsArea, Before, spot_of, number_of, beside}
use Rattle.sok_board.proofs.Accepted.{HasPlace-spot_of}
use Rattle.sok_board.proofs.AreaLaws.{origin, spot_of-at, spot_of-number_of, number_of-spot_of, same_number}
use Rattle.sok_board.proofs.Inside.{if_some}
use Rattle.sok_board.proofs.Refusals.{before_asym}
use Rattle.sok_field.specs.Fields.{has}
use Rattle.sok_field.specs.Numbers.{Draws, JoinsNumbers, JoinsInside, FirstIsLeast}
use Rattle.sok_field.specs.Trails.{trail, Leads}
use Rattle.sok_field.proofs.Trails.{trail-one}
use Rattle.sok_field.specs.Ways.{way, Joined}
use Rattle.sok_field.proofs.Ways.{way-one}

-- what letters lead to over numbers
record IsTraced (b : BoardView) (lets : ℕ → Bool) (m : ℕ) (w : List Dir) (t : Spot) : Type 0 where
  pub end : ℕ
  pub leads : trail b lets m w ≡ Some end
  pub within : end < length b.area
  pub lies : spot_of b end ≡ t

way-trail : (b : BoardView) (lets : ℕ → Bool) (free : List ℕ) → Draws b (λ n. lets n ≡ true) free → (w : List Dir) (m : ℕ) (t : Spot) → m < length b.area
    → way (has free) (spot_of b m) w ≡ Some t → IsTraced b lets m w t
way-trail b lets free draws [] m t within leads = record { end = m; leads = refl; within = within; lies = same_Some (spot_of b m) t leads }
way-trail b lets free draws (d ∷ w) m t within leads = option_and_then_some (λ u. if has free u then way (has free) u w else None) (next d (spot_of b m)) t
    leads (λ u on rest.
    let (through, further) = if_some (has free u) (way (has free) u w) t rest in
    let (k, number, passes) = (draws u).0 through in
    let (k_within, there) = spot_of-number_of b u k number in
    let traced = way-trail b lets free draws w k t k_within (ap (λ s. way (has free) s w) there ∙ further) in
    record {
      end = traced.end;
      leads = trail-one b lets m k d w (ap (option_and_then (number_of b)) on ∙ number) passes ∙ traced.leads;
      within = traced.within;
      lies = traced.lies;
    })

trail-way : (b : BoardView) (lets : ℕ → Bool) (free : List ℕ) → Draws b (λ n. lets n ≡ true) free → (w : List Dir) (m n : ℕ) → trail b lets m w ≡ Some n
    → way (has free) (spot_of b m) w ≡ Some (spot_of b n)
trail-way b lets free draws [] m n leads = ap (λ k. Some (spot_of b k)) (same_Some m n leads)
trail-way b lets free draws (d ∷ w) m n leads = option_and_then_some (λ u. if lets u then trail b lets u w else None) (beside b m d) n leads (λ k on rest.
    let (through, further) = if_some (lets k) (trail b lets k w) n rest in
    option_and_then_some (number_of b) (next d (spot_of b m)) k on (λ u ahead number.
    let (_, there) = spot_of-number_of b u k number in
    way-one (has free) (spot_of b m) u d w ahead ((draws u).1 (k, number, through)) ∙ ap (λ s. way (has free) s w) (sym there) ∙ trail-way b lets free
    draws w k n further))

pub joins-numbers : (b : BoardView) → IsArea b.rows b.area → JoinsNumbers b
joins-numbers b area lets free draws m n m_within n_within = (
  λ (w, leads).
      let traced = way-trail b lets free draws w m (spot_of b n) m_within leads in
      let same = same_number b area traced.end n traced.within n_within traced.lies in
      (w, traced.leads ∙ ap Some same),
  λ (w, leads). (w, trail-way b lets free draws w m n leads),
)

pub joins-inside : (b : BoardView) → IsArea b.rows b.area → JoinsInside b
joins-inside b area lets free draws m s within (w, leads) =
    let traced = way-trail b lets free draws w m s within leads in
    (traced.end, ap (number_of b) (sym traced.lies) ∙ number_of-spot_of b area traced.end traced.within)

pub first-is-least : (b : BoardView) → IsArea b.rows b.area → FirstIsLeast b
first-is-least b area test rows s draws first =
    let (n, number, passes) = (draws s).0 first.among in
    let (within, there) = spot_of-number_of b s n number in (
      n,
      number,
      passes,
      λ k k_within on. elim (cases_lt k n) [
        | inr after ↦ omega (arith, after)
        | inl below ↦
            let before : Before (spot_of b k) (spot_of b n) =
            subst (λ t. Before (spot_of b k) t) (sym (spot_of-at b n)) (subst (λ t. Before t (get_or b.area n origin)) (sym (spot_of-at b k))
            (area.in_order k n origin below within)) in
            let has_it = (draws (spot_of b k)).1 (k, number_of-spot_of b area k k_within, on) in
            elim (first.first (spot_of b k) has_it) [
              | inl same ↦ let equal = same_number b area n k within k_within (there ∙ same) in absurd (omega (arith, equal, below))
              | inr ahead ↦ absurd (before_asym (spot_of b k) (spot_of b n) before (subst (λ t. Before t (spot_of b k)) (sym there) ahead))
            ]
      ],
    )

-- a flood over bit rows that draw what is let through draws the squares to which letters lead
pub Draws-joined : (b : BoardView) → IsArea b.rows b.area → (lets : ℕ → Bool) (free seen : List ℕ) (m : ℕ) → m < length b.area
    → Draws b (λ n. lets n ≡ true) free
    → ((s : Spot) → (has seen s ≡ true) ↔ Joined (has free) (spot_of b m) s) → Draws b (Leads b lets m) seen
Draws-joined b area lets free seen m within draws joined s = (
  λ e.
      let (w, leads) = (joined s).0 e in
      let traced = way-trail b lets free draws w m s within leads in
      (traced.end, ap (number_of b) (sym traced.lies) ∙ number_of-spot_of b area traced.end traced.within, (w, traced.leads)),
  λ (n, number, (w, leads)).
      let (_, there) = spot_of-number_of b s n number in
      (joined s).1 (w, trail-way b lets free draws w m n leads ∙ ap Some there),
)

-- the square of a number lies in the rows and columns of a set
pub in_field : (b : BoardView) → IsAccepted b → (n : ℕ) → n < length b.area → (s : Spot) → s ≡ spot_of b n → (s.row < 128) × (s.col < 128)
in_field b accepted n exists s is =
    let place = HasPlace-spot_of b accepted n exists in
    let row = place.row in
    let col = place.col in
    (omega (arith, row, ap (λ (t : Spot). t.row) is), omega (arith, col, ap (λ (t : Spot). t.col) is))

-- one square less
pub Draws-taken : (b : BoardView) → (old new boxes : List ℕ) (k : ℕ) → number_of b (spot_of b k) ≡ Some k
    → ((s : Spot) → (has new s ≡ true) ↔ ((s ≡ spot_of b k → ⊥) × (has old s ≡ true)))
    → Draws b (λ n. Contains boxes n → ⊥) old → Draws b (λ n. Contains (boxes ++ k ∷ []) n → ⊥) new
Draws-taken b old new boxes k numbered taken draws s = (
  λ e.
      let (other, before) = (taken s).0 e in
      let (n, number, clear) = (draws s).0 before in (
        n,
        number,
        λ listed. elim (Contains-push_cases boxes k n listed) [
          | inl earlier ↦ clear earlier
          | inr same ↦ other (sym (spot_of-number_of b s n number).1 ∙ ap (spot_of b) (sym same))
        ],
      ),
  λ (n, number, clear). (taken s).1 (
    λ same. clear (subst (λ m. Contains (boxes ++ k ∷ []) m) (same_Some k n (sym numbered ∙ ap (number_of b) (sym same) ∙ number)) (Contains-push boxes k)),
    (draws s).1 (n, number, λ earlier. clear (Contains-append_left boxes (k ∷ []) n earlier)),
  ),
)

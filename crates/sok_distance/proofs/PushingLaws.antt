-- The squares of a push by the rules, by their numbers.
use Rattle.std.proofs.Common.{ℕ, ◌≡◌, ◌<◌, ◌∙◌, ap, Some, true, length}
use Rattle.std.specs.Option.{option_and_then}
use Rattle.sok_rules.specs.declared.cell.Dir.{Dir}
use Rattle.sok_rules.specs.declared.cell.Spot.{Spot}
use Rattle.sok_rules.specs.Squares.{holds, is_open, next, opposite}
use Rattle.sok_rules.proofs.Spots.{next-opposite}
use Rattle.sok_board.specs.Area.{BoardView, IsArea, InArea, spot_of, number_of, beside}
use Rattle.sok_board.proofs.AreaLaws.{number-InArea, InArea-next}
use Rattle.sok_board.proofs.Beside.{beside-is}
use Rattle.sok_distance.specs.Pushing.{lone_push}

-- the squares of a push, by their numbers
pub record IsLonePush (b : BoardView) (d : Dir) (man q t : Spot) : Type 0 where
  pub from : ℕ
  pub to : ℕ
  pub from_is : number_of b q ≡ Some from
  pub from_spot : spot_of b from ≡ q
  pub from_within : from < length b.area
  pub to_is : number_of b t ≡ Some to
  pub to_spot : spot_of b to ≡ t
  pub to_within : to < length b.area
  pub behind : ℕ
  pub behind_spot : spot_of b behind ≡ man
  pub beside_ahead : beside b from d ≡ Some to
  pub beside_behind : beside b from (opposite d) ≡ Some behind
  pub goes : lone_push b d from ≡ Some to

-- a push in the area goes as its box would alone
pub lone_push-push : (b : BoardView) → IsArea b.rows b.area → (d : Dir) (man q t : Spot) → InArea b.rows man → next d man ≡ Some q
    → holds is_open b.rows q ≡ true
    → next d q ≡ Some t → holds is_open b.rows t ≡ true → IsLonePush b d man q t
lone_push-push b area d man q t inside ahead opened beyond opened_beyond =
    let q_inside = InArea-next b.rows d man q inside ahead opened in
    let t_inside = InArea-next b.rows d q t q_inside beyond opened_beyond in
    let (behind, behind_is, behind_within, behind_spot) = number-InArea b area man inside in
    let (n, n_is, n_within, n_spot) = number-InArea b area q q_inside in
    let (m, m_is, m_within, m_spot) = number-InArea b area t t_inside in
    let back : beside b n (opposite d) ≡ Some behind = beside-is b (opposite d) n q man behind n_spot (next-opposite d man q ahead) behind_is in
    let on : beside b n d ≡ Some m = beside-is b d n q t m n_spot beyond m_is in
    record {
      from = n;
      to = m;
      from_is = n_is;
      from_spot = n_spot;
      from_within = n_within;
      to_is = m_is;
      to_spot = m_spot;
      to_within = m_within;
      behind = behind;
      behind_spot = behind_spot;
      beside_ahead = on;
      beside_behind = back;
      goes = ap (option_and_then (λ _. beside b n d)) back ∙ on;
    }

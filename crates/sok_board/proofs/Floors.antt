-- Letters over the squares without a wall, square by square and by their places.
use Rattle.std.proofs.Common.{ℕ, ◌≡◌, ◌<◌, ◌↔◌, inl, inr, refl, sym, ap, ◌∙◌, List, [], ◌∷◌, true≢false, IsTrue, Option, Some, None, arith}
use Rattle.std.proofs.Common.{get_or, is_some, if◌then◌else◌}
use Rattle.std.proofs.lemmas.Bool.{cases_Bool, cases_lt}
use Rattle.std.proofs.lemmas.Option.{same_Some, option_and_then_some}
use Rattle.std.specs.Option.{option_and_then}
use Rattle.sok_rules.specs.declared.cell.Dir.{Dir}
use Rattle.sok_rules.specs.declared.cell.Spot.{Spot}
use Rattle.sok_rules.specs.Squares.{Rows, holds, is_open, next}
use Rattle.sok_rules.specs.Levels.{IsProper}
use Rattle.sok_rules.specs.Play.{start}
use Rattle.sok_board.specs.Area.{InArea, stroll}
use Rattle.sok_board.specs.Floors.{floor, square_at}
use Rattle.sok_board.specs.Graphs.{follow, AreDepths}
use Rattle.sok_board.specs.Tables.{table_side, HasPlace, place_of, entry}
use Rattle.sok_board.proofs.Graphs.{leads-told, told-leads}
use Rattle.sok_board.proofs.Inside.{HasPlace-holds, HasPlace-InArea, HasPlace-man}
use Rattle.sok_board.proofs.Tables.{entry-past, entry-within, same_place}

pub square_at-place : (s : Spot) → HasPlace s → square_at (place_of s) ≡ s
square_at-place s within =
    let short = within.col in
    let row : (square_at (place_of s)).row ≡ s.row = omega (arith, short) in
    let col : (square_at (place_of s)).col ≡ s.col = omega (arith, short) in
    λ i. record { row = row i; col = col i }

module _ (rows : Rows) (proper : IsProper rows) where
  abbrev placed : Option Spot → Option ℕ
  placed = option_and_then (λ t. Some (place_of t))

  -- letters lead from place to place as they do from square to square: so it is behind the first one
  follow-beside : (w : List Dir) → ((t : Spot) → HasPlace t → follow (floor rows) (place_of t) w ≡ placed (stroll rows t w)) → (o : Option Spot)
      → option_and_then (λ n. follow (floor rows) n w) (option_and_then (λ t. if holds is_open rows t then Some (place_of t) else None) o)
      ≡ placed (option_and_then (λ t. if holds is_open rows t then stroll rows t w else None) o)
  follow-beside w on None = refl
  follow-beside w on (Some t) = elim (cases_Bool (holds is_open rows t)) [
    | inl opened ↦ ap (λ b. option_and_then (λ n. follow (floor rows) n w) (if b then Some (place_of t) else None)) opened
        ∙ on t (HasPlace-holds is_open rows t proper opened) ∙ ap (λ b. placed (if b then stroll rows t w else None)) (sym opened)
    | inr closed ↦ ap (λ b. option_and_then (λ n. follow (floor rows) n w) (if b then Some (place_of t) else None)) closed
        ∙ ap (λ b. placed (if b then stroll rows t w else None)) (sym closed)
  ]

  follow-stroll : (w : List Dir) (s : Spot) → HasPlace s → follow (floor rows) (place_of s) w ≡ placed (stroll rows s w)
  follow-stroll [] s within = refl
  follow-stroll (d ∷ w) s within =
      ap (λ u. option_and_then (λ n. follow (floor rows) n w) (option_and_then (λ t. if holds is_open rows t then Some (place_of t) else None) (next d u)))
      (square_at-place s within) ∙ follow-beside w (follow-stroll w) (next d s)

  -- where letters lead to the place of a square, the square is in the area
  InArea-follow : (s : Spot) → s.col < table_side → (w : List Dir) → follow (floor rows) (floor rows).start w ≡ Some (place_of s) → InArea rows s
  InArea-follow s short w leads =
      option_and_then_some (λ t. Some (place_of t)) (stroll rows (start rows).man w) (place_of s)
      (sym (follow-stroll w (start rows).man (HasPlace-man rows proper)) ∙ leads) (λ t there same.
      let col = (HasPlace-InArea rows proper t (w, there)).col in
      (w, there ∙ ap Some (same_place t s col short (same_Some (place_of t) (place_of s) same))))

  -- the squares with a depth are those of the area
  pub InArea-depths : (depths : List (Option ℕ)) → AreDepths (floor rows) depths → (s : Spot) → IsTrue (is_some (entry None depths s)) ↔ InArea rows s
  InArea-depths depths are s = (
    λ some. elim (cases_lt s.col table_side) [
      | inl short ↦
          let (w, leads) = leads-told (floor rows) (place_of s) (get_or depths (place_of s) None) (are.exact (place_of s))
          (ap is_some (sym (entry-within None depths s short)) ∙ some) in
          InArea-follow s short w leads
      | inr past ↦ absurd (true≢false (sym some ∙ ap is_some (entry-past None depths s past)))
    ],
    λ inside.
        let short = (HasPlace-InArea rows proper s inside).col in
        ap is_some (entry-within None depths s short)
        ∙ told-leads (floor rows) (place_of s) (get_or depths (place_of s) None) (are.exact (place_of s)) inside.0
        (follow-stroll inside.0 (start rows).man (HasPlace-man rows proper) ∙ ap placed inside.1),
  )

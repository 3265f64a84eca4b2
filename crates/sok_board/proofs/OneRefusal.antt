-- A level is refused for one cause, and accepted with one area.
use Rattle.std.proofs.Common.{◌≡◌, ◌≢◌, ◌<◌, ◌≤◌, ◌⊎◌, inl, inr, refl, sym, ap, ◌∙◌, subst, true≢false, arith, length}
use Rattle.std.proofs.lemmas.Bool.{cases_eq, cases_lt}
use Rattle.sok_rules.specs.declared.cell.Spot.{Spot}
use Rattle.sok_rules.specs.Squares.{Rows}
use Rattle.sok_rules.proofs.Refusing.{Names, Names-one, OrLater, OrLater-one}
use Rattle.sok_board.specs.Area.{BoardView, Before, IsArea, IsEnclosed, IsStray, IsAccepted, boxes_of}
use Rattle.sok_board.specs.Limits.{square_limit, box_limit}
use Rattle.sok_board.specs.Refusals.{IsLeak, IsFirst, OfArea, IsRefused, IsAcceptable}
use Rattle.sok_board.specs.declared.fault.BoardFault.{BoardFault}
use Rattle.sok_board.specs.declared.fault.BoardFault.TheVariants as fault
use Rattle.sok_board.proofs.Accepted.{IsArea-unique, has_gap-enclosed, refused-accepted}

-- of two squares one is before the other, or they are the same
before-total : (s t : Spot) → (s ≡ t) ⊎ Before s t ⊎ Before t s
before-total s t = elim (cases_eq s.row t.row) [
  | inr other ↦ elim (cases_lt s.row t.row) [
    | inl above ↦ inr (inl (inl above))
    | inr below ↦ inr (inr (inl (omega (arith, other, below))))
  ]
  | inl row_is ↦ elim (cases_eq s.col t.col) [
    | inl col_is ↦ inl (λ i. record { row = row_is i; col = col_is i })
    | inr other ↦ elim (cases_lt s.col t.col) [
      | inl left ↦ inr (inl (inr (row_is, left)))
      | inr right ↦ inr (inr (inr (sym row_is, omega (arith, other, right))))
    ]
  ]
]

-- a property has one first square
IsFirst-one : (P : Spot → Type 0) (s t : Spot) → IsFirst P s → IsFirst P t → s ≡ t
IsFirst-one P s t (here, first) (there, also) = elim (before-total s t) [
  | inl same ↦ same
  | inr (inl earlier) ↦ absurd (also s here earlier)
  | inr (inr later) ↦ absurd (first t there later)
]

-- the fault of a cause at its first square
abbrev AtFirst : (Spot → BoardFault) → (Spot → Type 0) → BoardFault → Type 0
AtFirst fault_at P f = (s : Spot) × (f ≡ fault_at s) × IsFirst P s

AtFirst-one : (fault_at : Spot → BoardFault) (P : Spot → Type 0) (f g : BoardFault) → AtFirst fault_at P f → AtFirst fault_at P g → f ≡ g
AtFirst-one fault_at P f g (s, is, first) (t, also, other) = is ∙ ap fault_at (IsFirst-one P s t first other) ∙ sym also

-- facts of a level and its area are of one area
OfArea-both : (P Q : BoardView → Type 0) (rows : Rows) → ((b : BoardView) → P b → Q b → ⊥) → OfArea P rows → OfArea Q rows → ⊥
OfArea-both P Q rows apart (area, is, p) (other, also, q) =
    let same = IsArea-unique rows other area also is in
    apart (record { rows = rows; area = area }) p (subst (λ squares. Q (record { rows = rows; area = squares })) same q)

abbrev Large : BoardView → Type 0
Large b = square_limit < length b.area

abbrev Small : BoardView → Type 0
Small b = length b.area ≤ square_limit

abbrev ManyBoxes : BoardView → Type 0
ManyBoxes b = box_limit < length (boxes_of b)

abbrev FewBoxes : BoardView → Type 0
FewBoxes b = length (boxes_of b) ≤ box_limit

-- the causes in the order of refusal
abbrev ByBoxes : Rows → BoardFault → Type 0
ByBoxes rows = OrLater (Names fault.TooManyBoxes (OfArea ManyBoxes rows)) (OfArea FewBoxes rows) (λ f. f ≡ fault.TooFewGoals)

abbrev ByStrays : Rows → BoardFault → Type 0
ByStrays rows = OrLater (AtFirst fault.BoxOutside (IsStray rows)) ((s : Spot) → IsStray rows s → ⊥) (ByBoxes rows)

abbrev BySize : Rows → BoardFault → Type 0
BySize rows = OrLater (Names fault.TooLarge (OfArea Large rows)) (OfArea Small rows) (ByStrays rows)

abbrev ByLeaks : Rows → BoardFault → Type 0
ByLeaks rows = OrLater (AtFirst fault.NotEnclosed (IsLeak rows)) (IsEnclosed rows) (BySize rows)

by_order : (rows : Rows) (f : BoardFault) → f ≢ fault.Memory → IsRefused rows f → ByLeaks rows f
by_order rows (fault.NotEnclosed s) ample first = inl (s, refl, first)
by_order rows fault.TooLarge ample (enclosed, large) = inr (enclosed, inl (refl, large))
by_order rows (fault.BoxOutside s) ample (enclosed, small, first) = inr (enclosed, inr (small, inl (s, refl, first)))
by_order rows fault.TooManyBoxes ample (area, is, (tidy, many)) =
    inr (tidy.enclosed, inr ((area, is, tidy.few_squares), inr (tidy.no_stray, inl (refl, (area, is, many)))))
by_order rows fault.TooFewGoals ample (area, is, (tidy, few, _)) =
    inr (tidy.enclosed, inr ((area, is, tidy.few_squares), inr (tidy.no_stray, inr ((area, is, few), refl))))
by_order rows fault.Memory ample refused = absurd (ample refl)

ByBoxes-one : (rows : Rows) (f g : BoardFault) → ByBoxes rows f → ByBoxes rows g → f ≡ g
ByBoxes-one rows f g = OrLater-one (Names fault.TooManyBoxes (OfArea ManyBoxes rows)) (OfArea FewBoxes rows) (λ h. h ≡ fault.TooFewGoals) f g
    (λ h (_, many) few. OfArea-both ManyBoxes FewBoxes rows (λ b more less. omega (arith, more, less)) many few)
    (Names-one fault.TooManyBoxes (OfArea ManyBoxes rows) f g) (λ is also. is ∙ sym also)

ByStrays-one : (rows : Rows) (f g : BoardFault) → ByStrays rows f → ByStrays rows g → f ≡ g
ByStrays-one rows f g = OrLater-one (AtFirst fault.BoxOutside (IsStray rows)) ((s : Spot) → IsStray rows s → ⊥) (ByBoxes rows) f g
    (λ h (s, _, first) none. none s first.0) (AtFirst-one fault.BoxOutside (IsStray rows) f g) (ByBoxes-one rows f g)

BySize-one : (rows : Rows) (f g : BoardFault) → BySize rows f → BySize rows g → f ≡ g
BySize-one rows f g = OrLater-one (Names fault.TooLarge (OfArea Large rows)) (OfArea Small rows) (ByStrays rows) f g
    (λ h (_, large) small. OfArea-both Large Small rows (λ b more less. omega (arith, more, less)) large small)
    (Names-one fault.TooLarge (OfArea Large rows) f g) (ByStrays-one rows f g)

leak-enclosed : (rows : Rows) (s : Spot) → IsLeak rows s → IsEnclosed rows → ⊥
leak-enclosed rows s (inside, gap) enclosed = true≢false (sym gap ∙ has_gap-enclosed rows s (λ d. enclosed s d inside))

ByLeaks-one : (rows : Rows) (f g : BoardFault) → ByLeaks rows f → ByLeaks rows g → f ≡ g
ByLeaks-one rows f g = OrLater-one (AtFirst fault.NotEnclosed (IsLeak rows)) (IsEnclosed rows) (BySize rows) f g
    (λ h (s, _, first) enclosed. leak-enclosed rows s first.0 enclosed) (AtFirst-one fault.NotEnclosed (IsLeak rows) f g) (BySize-one rows f g)

-- where memory suffices, a level is refused for one cause
pub IsRefused-one : (rows : Rows) (f g : BoardFault) → f ≢ fault.Memory → g ≢ fault.Memory → IsRefused rows f → IsRefused rows g → f ≡ g
IsRefused-one rows f g ample enough refused also = ByLeaks-one rows f g (by_order rows f ample refused) (by_order rows g enough also)

-- no level is both refused and accepted
pub IsRefused-acceptable : (rows : Rows) (f : BoardFault) → f ≢ fault.Memory → IsRefused rows f → IsAcceptable rows → ⊥
IsRefused-acceptable rows f ample refused (area, accepted) = ample (refused-accepted rows f refused area accepted)

-- a level with an accepted board can be accepted
pub IsAcceptable-accepted : (rows : Rows) (b : BoardView) → b.rows ≡ rows → IsAccepted b → IsAcceptable rows
IsAcceptable-accepted rows b same accepted = subst IsAcceptable same (b.area, accepted)

-- an accepted level has one area
pub IsAccepted-one : (b c : BoardView) → b.rows ≡ c.rows → IsAccepted b → IsAccepted c → b ≡ c
IsAccepted-one b c same accepted also =
    let area = IsArea-unique c.rows b.area c.area (subst (λ rows. IsArea rows b.area) same accepted.numbered) also.numbered in
    λ i. record { rows = same i; area = area i }

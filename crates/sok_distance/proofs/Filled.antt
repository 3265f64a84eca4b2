-- Distances: one more goal, and where no goal has a distance.
use Rattle.std.proofs.Common.{ℕ, ◌≡◌, ◌<◌, ◌≤◌, ◌+◌, ◌*◌, ◌-◌, inl, inr, sym, ap, ◌∙◌, subst, List, [], ◌∷◌, ◌++◌, Bool, false, IsTrue, ◌↔◌, refl, true}
use Rattle.std.proofs.Common.{true≢false, Option, Some, None, IfSome, arith, length, get_or, is_some}
use Rattle.std.proofs.Math.Nat.{mul-le-mul_left}
use Rattle.std.proofs.lemmas.Bool.{cases_lt}
use Rattle.std.proofs.lemmas.List.{length-append, get_or_append_left, get_or-append_right, get_or_default, get_or_push}
use Rattle.sok_board.specs.Area.{BoardView, goals_of}
use Rattle.sok_distance.specs.Pushing.{Chain, IsStuck, TellsDistance}
use Rattle.sok_distance.specs.Distances.{DistanceTable, goal_at, distance_at, IsFilled, TellsStuck}

abbrev pub with_entries : BoardView → List (Option ℕ) → DistanceTable
with_entries b entries = record { board = b; entries = entries }

-- an entry of a goal before the last row
entry_before : (entries row : List (Option ℕ)) (w k goal square : ℕ) → length entries ≡ k * w → goal < k → square < w
    → get_or (entries ++ row) (goal * w + square) None ≡ get_or entries (goal * w + square) None
entry_before entries row w k goal square whole below within =
    let rows = mul-le-mul_left w (let next : goal + 1 ≤ k = omega (arith, below) in next) in
    get_or_append_left entries row None (goal * w + square) (omega (arith, rows, whole, within))

-- an entry of the last row
entry_last : (entries row : List (Option ℕ)) (w k square : ℕ) → length entries ≡ k * w → get_or (entries ++ row) (k * w + square) None ≡ get_or row square None
entry_last entries row w k square whole =
    let place : (k * w + square) - (k * w) ≡ square = omega arith in
    get_or-append_right entries row (k * w) (k * w + square) None whole (omega arith) ∙ ap (λ n. get_or row n None) place

-- what holds of each entry before, and of the last row, holds of each entry
each-more : (P : ℕ → ℕ → Option ℕ → Type 0) (entries row : List (Option ℕ)) (w k : ℕ) → length entries ≡ k * w
    → ((goal square : ℕ) → goal < k → square < w → P goal square (get_or entries (goal * w + square) None))
    → ((square : ℕ) → square < w → P k square (get_or row square None)) → (goal square : ℕ) → goal < k + 1 → square < w
    → P goal square (get_or (entries ++ row) (goal * w + square) None)
each-more P entries row w k whole before last goal square below within = elim (cases_lt goal k) [
  | inl earlier ↦ subst (P goal square) (sym (entry_before entries row w k goal square whole earlier within)) (before goal square earlier within)
  | inr later ↦
      let is : k ≡ goal = omega (arith, below, later) in
      subst (λ g. P g square (get_or (entries ++ row) (g * w + square) None)) is
      (subst (P k square) (sym (entry_last entries row w k square whole)) (last square within))
]

-- one more row
pub IsFilled-more : (b : BoardView) (k : ℕ) (entries row : List (Option ℕ)) → IsFilled k (with_entries b entries) → length row ≡ length b.area
    → ((square : ℕ) → square < length b.area → TellsDistance b (goal_at b k) square (get_or row square None))
    → ((square : ℕ) → IfSome (get_or row square None) (λ pushes. pushes ≤ length b.area))
    → IsFilled (k + 1) (with_entries b (entries ++ row))
IsFilled-more b k entries row filled long tells bounded = record {
  whole = let more = length-append entries row in let whole = filled.whole in omega (arith, more, whole, long);
  exact = each-more (λ goal square o. TellsDistance b (goal_at b goal) square o) entries row (length b.area) k filled.whole filled.exact tells;
  bounded = each-more (λ goal square o. IfSome o (λ pushes. pushes ≤ length b.area)) entries row (length b.area) k filled.whole filled.bounded
      (λ square within. bounded square);
}

-- a chain to the goal of an index, where the entry is none
no_chain : (t : DistanceTable) (k square n : ℕ) → TellsDistance t.board (goal_at t.board k) square (distance_at t k square) → distance_at t k square ≡ None
    → Chain t.board square (goal_at t.board k) n → ⊥
no_chain t k square n tells none chain = let told : TellsDistance t.board (goal_at t.board k) square None =
    subst (TellsDistance t.board (goal_at t.board k) square) none tells in told n chain

-- a square without a distance to any goal is stuck
pub IsStuck-none : (t : DistanceTable) (goals square : ℕ) → goals ≡ length (goals_of t.board) → IsFilled goals t → square < length t.board.area
    → ((k : ℕ) → k < goals → distance_at t k square ≡ None) → IsStuck t.board square
IsStuck-none t goals square count filled within none = λ g n (k, below, at) chain.
    let inside : k < goals = omega (arith, below, count) in
    let goal_is : g ≡ goal_at t.board k = sym at ∙ get_or_default (goals_of t.board) k g 0 below in
    no_chain t k square n (filled.exact k square inside within) (none k inside) (subst (λ h. Chain t.board square h n) goal_is chain)

chain_told : (b : BoardView) (g square : ℕ) (o : Option ℕ) → TellsDistance b g square o → is_some o ≡ true → (n : ℕ) × Chain b square g n
chain_told b g square (Some d) tells some = (d, tells.0)
chain_told b g square None tells some = absurd (true≢false (sym some))

-- a square with a distance to a goal is not
pub IsStuck-some : (b : BoardView) (k square : ℕ) (o : Option ℕ) → k < length (goals_of b) → TellsDistance b (goal_at b k) square o → is_some o ≡ true
    → IsStuck b square → ⊥
IsStuck-some b k square o below tells some stuck =
    let (n, chain) = chain_told b (goal_at b k) square o tells some in
    stuck (goal_at b k) n (k, below, get_or_default (goals_of b) k (goal_at b k) 0 below) chain

-- which of no squares are stuck
pub TellsStuck-none : (b : BoardView) → TellsStuck b 0 []
TellsStuck-none b = record { whole = refl; exact = λ square below. absurd (omega (arith, below)) }

-- one square more
pub TellsStuck-more : (b : BoardView) (n : ℕ) (list : List Bool) (stuck : Bool) → TellsStuck b n list → IsTrue stuck ↔ IsStuck b n
    → TellsStuck b (n + 1) (list ++ stuck ∷ [])
TellsStuck-more b n list stuck told here = record {
  whole = let longer = length-append list (stuck ∷ []) in let whole = told.whole in omega (arith, longer, whole);
  exact = λ square below. elim (cases_lt square n) [
    | inl before ↦
        let within : square < length list = let whole = told.whole in omega (arith, before, whole) in
        subst (λ v. IsTrue v ↔ IsStuck b square) (sym (get_or_append_left list (stuck ∷ []) false square within)) (told.exact square before)
    | inr last ↦
        let is : n ≡ square = omega (arith, below, last) in
        subst (λ k. IsTrue (get_or (list ++ stuck ∷ []) k false) ↔ IsStuck b k) is
        (subst (λ v. IsTrue v ↔ IsStuck b n) (sym (get_or_push list stuck false n told.whole)) here)
  ];
}

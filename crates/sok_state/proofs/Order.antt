-- The order of pushes.
use Rattle.std.proofs.Common.{ℕ, ◌≡◌, ◌<◌, ◌⊎◌, inl, inr, refl, sym, ap, ◌∙◌, if◌then◌else◌, ◌==◌, arith}
use Rattle.std.proofs.lemmas.Bool.{cases_eq, cases_lt}
use Rattle.sok_rules.specs.declared.cell.Dir.{Dir}
use Rattle.sok_rules.specs.declared.cell.Dir.TheVariants.{Left, Up, Right, Down}
use Rattle.sok_state.specs.declared.push.Push.{Push}
use Rattle.sok_state.specs.Listing.{place}
use Rattle.sok_state.specs.Pushes.{Precedes, rank}

pub rank_below : (d : Dir) → rank d < 4
rank_below Left = omega arith
rank_below Up = omega arith
rank_below Right = omega arith
rank_below Down = omega arith

abbrev ranked : ℕ → Dir
ranked n = if n == 0 then Left else if n == 1 then Up else if n == 2 then Right else Down

ranked-rank : (d : Dir) → ranked (rank d) ≡ d
ranked-rank Left = refl
ranked-rank Up = refl
ranked-rank Right = refl
ranked-rank Down = refl

-- pushes of one place are the same
pub same_place : (p q : Push) → place p ≡ place q → p ≡ q
same_place p q same =
    let p_below = rank_below p.dir in
    let q_below = rank_below q.dir in
    let from : p.from ≡ q.from = omega (arith, same, p_below, q_below) in
    let ranks : rank p.dir ≡ rank q.dir = omega (arith, same, from) in
    let dirs : p.dir ≡ q.dir = sym (ranked-rank p.dir) ∙ ap ranked ranks ∙ ranked-rank q.dir in
    λ i. record { from = from i; dir = dirs i }

-- an earlier place is that of a push before
pub Precedes-place : (p q : Push) → place p < place q → Precedes p q
Precedes-place p q below =
    let p_below = rank_below p.dir in
    let q_below = rank_below q.dir in
    elim (cases_lt p.from q.from) [
      | inl earlier ↦ inl earlier
      | inr later ↦ inr (omega (arith, below, later, p_below, q_below), omega (arith, below, later, p_below, q_below))
    ]

-- of two pushes one precedes the other, or they are the same
pub Precedes-total : (p q : Push) → (p ≡ q) ⊎ Precedes p q ⊎ Precedes q p
Precedes-total p q = elim (cases_eq (place p) (place q)) [
  | inl same ↦ inl (same_place p q same)
  | inr other ↦ elim (cases_lt (place p) (place q)) [
    | inl below ↦ inr (inl (Precedes-place p q below))
    | inr past ↦ inr (inr (Precedes-place q p (omega (arith, other, past))))
  ]
]

-- the order does not turn round
pub Precedes-asym : (p q : Push) → Precedes p q → Precedes q p → ⊥
Precedes-asym p q (inl first) (inl second) = omega (arith, first, second)
Precedes-asym p q (inl first) (inr (same, second)) = omega (arith, first, same)
Precedes-asym p q (inr (same, first)) (inl second) = omega (arith, second, same)
Precedes-asym p q (inr (same, first)) (inr (again, second)) = omega (arith, first, second)

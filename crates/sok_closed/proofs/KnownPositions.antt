-- Positions that are known, each with a depth. Every list that solves from one of them agrees with what is to be shown: otherwise it would lead on without
-- end. The proof is by induction on its pushes, and then on its letters.
use Rattle.std.proofs.Common.{ℕ, ◌≡◌, ◌≤◌, ◌<◌, ◌+◌, ◌-◌, ◌⊎◌, zero, suc, inl, inr, refl, ap, subst, arith, Bool, true, false, IsTrue, List, [], ◌∷◌, Option, Some, None}
use Rattle.std.proofs.Common.{IsSomeAnd}
use Rattle.std.specs.Option.{option_and_then, option_map_or}
use Rattle.std.proofs.lemmas.Bool.{cases_Bool}
use Rattle.sok_rules.specs.declared.cell.Dir.{Dir}
use Rattle.sok_rules.specs.declared.cell.Spot.{Spot}
use Rattle.sok_rules.specs.Squares.{Rows, holds, is_goal}
use Rattle.sok_rules.specs.Play.{Position, After, AllOnGoals, SolvesFrom, one_if, pushes, run, step}
use Rattle.sok_rules.specs.States.{Same}
use Rattle.sok_rules.proofs.Walking.{boxes-Same}

-- positions of one state are solved alike
pub solved-Same : (rows : Rows) (x y : Position) → Same rows x y → AllOnGoals rows y → AllOnGoals rows x
solved-Same rows x y same solved =
    subst (λ (there : Spot → Bool). (s : Spot) → IsTrue (there s) → IsTrue (holds is_goal rows s)) (boxes-Same rows x y same) solved

-- what agrees at a depth with so many pushes agrees before more of them
abbrev pub AgreesBefore : (ℕ → ℕ → Type 0) → Type 0
AgreesBefore Agrees = (depth next more n : ℕ) → next ≤ depth + more → Agrees next n → Agrees depth (more + n)

-- each list that solves from a position agrees
abbrev pub AllAgree : Rows → (ℕ → ℕ → Type 0) → ℕ → Position → Type 0
AllAgree rows Agrees depth x = (w : List Dir) → SolvesFrom rows x w → Agrees depth (pushes rows x w)

-- a box stands off a goal, and what a letter leads to is known: of the same state by a walk, deeper by one by a push
pub record LeadsOn (rows : Rows) (Known : ℕ → Position → Type 0) (depth : ℕ) (x : Position) : Type 0 where
  pub unsolved : AllOnGoals rows x → ⊥
  pub walked : (d : Dir) (a : After) → step rows d x ≡ Some a → a.pushed ≡ false → Known depth a.position
  pub pushed : (d : Dir) (a : After) → step rows d x ≡ Some a → a.pushed ≡ true → Known (depth + 1) a.position

-- a known position, deeper by one, and letters that solve the level from there with at least one push less
pub record Rearranged (rows : Rows) (Known : ℕ → Position → Type 0) (depth : ℕ) (x : Position) (w : List Dir) : Type 0 where
  pub position : Position
  pub known : Known (depth + 1) position
  pub rest : List Dir
  pub solves : SolvesFrom rows position rest
  pub fewer : 1 + pushes rows position rest ≤ pushes rows x w

-- each solution can be rearranged
abbrev pub Rearranges : Rows → (ℕ → Position → Type 0) → ℕ → Position → Type 0
Rearranges rows Known depth x = (w : List Dir) → SolvesFrom rows x w → Rearranged rows Known depth x w

-- each known position agrees, leads on, or has solutions that can be rearranged
abbrev pub AreKnown : Rows → (ℕ → ℕ → Type 0) → (ℕ → Position → Type 0) → Type 0
AreKnown rows Agrees Known =
    (depth : ℕ) (x : Position) → Known depth x → AllAgree rows Agrees depth x ⊎ (LeadsOn rows Known depth x ⊎ Rearranges rows Known depth x)

module _ (rows : Rows) (Agrees : ℕ → ℕ → Type 0) (before : AgreesBefore Agrees) (Known : ℕ → Position → Type 0) (known : AreKnown rows Agrees Known) where
  -- each list that solves with so few pushes agrees
  abbrev AgreeBelow : ℕ → Type 0
  AgreeBelow n = (w : List Dir) (depth : ℕ) (x : Position) → Known depth x → SolvesFrom rows x w → pushes rows x w < n → Agrees depth (pushes rows x w)

  -- one that is rearranged
  agree_rearranged : (n : ℕ) → AgreeBelow n → (w : List Dir) (depth : ℕ) (x : Position) → Rearranged rows Known depth x w → pushes rows x w ≤ n
      → Agrees depth (pushes rows x w)
  agree_rearranged n below w depth x one few =
      let fewer = one.fewer in
      let rest = pushes rows one.position one.rest in
      let more = pushes rows x w - rest in
      let total : more + rest ≡ pushes rows x w = omega (arith, fewer) in
      let agrees = below one.rest (depth + 1) one.position one.known one.solves (omega (arith, fewer, few)) in
      subst (Agrees depth) total (before depth (depth + 1) more rest (omega (arith, fewer)) agrees)

  -- one with this first letter, if it is legal
  agree_after : (n : ℕ) (d : Dir) (w : List Dir)
      → ((depth : ℕ) (y : Position) → Known depth y → SolvesFrom rows y w → pushes rows y w ≤ n → Agrees depth (pushes rows y w))
      → (depth : ℕ) (x : Position) → LeadsOn rows Known depth x → (o : Option After) → step rows d x ≡ o
      → IsSomeAnd (option_and_then (λ after. run rows after.position w) o) (AllOnGoals rows)
      → option_map_or (λ after. one_if after.pushed + pushes rows after.position w) o 0 ≤ n
      → Agrees depth (option_map_or (λ after. one_if after.pushed + pushes rows after.position w) o 0)
  agree_after n d w rest depth x leads None steps solves few = absurd solves
  agree_after n d w rest depth x leads (Some a) steps solves few =
      let agrees : (next : ℕ) → next ≤ depth + one_if a.pushed → Known next a.position → Agrees depth (one_if a.pushed + pushes rows a.position w) =
      λ next near there. before depth next (one_if a.pushed) (pushes rows a.position w) near (rest next a.position there solves (omega (arith, few))) in
      elim (cases_Bool a.pushed) [
        | inl is ↦ let one : one_if a.pushed ≡ 1 = ap one_if is in agrees (depth + 1) (omega (arith, one)) (leads.pushed d a steps is)
        | inr is ↦ agrees depth (omega arith) (leads.walked d a steps is)
      ]

  -- by the letters of the list
  agree_letters : (n : ℕ) → AgreeBelow n → (w : List Dir) (depth : ℕ) (x : Position) → Known depth x → SolvesFrom rows x w → pushes rows x w ≤ n
      → Agrees depth (pushes rows x w)
  agree_letters n below [] depth x here solves few = elim (known depth x here) [
    | inl agree ↦ agree [] solves
    | inr (inl leads) ↦ absurd (leads.unsolved solves)
    | inr (inr arranged) ↦ agree_rearranged n below [] depth x (arranged [] solves) few
  ]
  agree_letters n below (d ∷ w) depth x here solves few = elim (known depth x here) [
    | inl agree ↦ agree (d ∷ w) solves
    | inr (inl leads) ↦ agree_after n d w (agree_letters n below w) depth x leads (step rows d x) refl solves few
    | inr (inr arranged) ↦ agree_rearranged n below (d ∷ w) depth x (arranged (d ∷ w) solves) few
  ]

  -- by the number of pushes
  agree_below : (n : ℕ) → AgreeBelow n
  agree_below zero w depth x here solves less = absurd (omega (arith, less))
  agree_below (suc n) w depth x here solves less = agree_letters n (agree_below n) w depth x here solves (omega (arith, less))

  -- the theorem
  pub all-agree : (w : List Dir) (depth : ℕ) (x : Position) → Known depth x → SolvesFrom rows x w → Agrees depth (pushes rows x w)
  all-agree w depth x here solves = agree_below (pushes rows x w + 1) w depth x here solves (omega arith)

-- Sets of boxes, as ascending lists of the numbers of their squares.
use Rattle.std.specs.Prelude.{ℕ, ◌≡◌, ◌≤◌, ◌↔◌, ◌⊎◌, List, [], ◌∷◌, ◌==◌, not, filter, nat_lt, if◌then◌else◌, Contains, length}
use Rattle.std.specs.List.Sorted.{IsStrictlyIncreasing}
use Rattle.sok_board.specs.Limits.{box_limit}

-- the squares of boxes in ascending order, no more than an area may have
pub record IsBoxList (boxes : List ℕ) : Type 0 where
  pub rising : IsStrictlyIncreasing boxes
  pub few : length boxes ≤ box_limit

-- the squares of a set after a push: without `from` and with `to`
abbrev pub IsMoved : List ℕ → ℕ → ℕ → List ℕ → Type 0
IsMoved boxes from to after = (s : ℕ) → Contains after s ↔ ((s ≡ to) ⊎ (Contains boxes s × (s ≡ from → ⊥)))

-- the rest of an ascending list without `from`, after `to` has been put in its place
abbrev pub without : ℕ → List ℕ → List ℕ
without from boxes = filter (λ s. not (s == from)) boxes

-- the rest of an ascending list without `from` and with `to`, which is yet to be put in its place
unfoldable pub put_in_order : ℕ → ℕ → List ℕ → List ℕ
put_in_order from to [] = to ∷ []
put_in_order from to (s ∷ boxes) =
    if nat_lt to s then to ∷ without from (s ∷ boxes) else if s == from then put_in_order from to boxes else s ∷ put_in_order from to boxes

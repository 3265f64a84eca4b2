-- The pushes of some boxes.
use Rattle.std.proofs.Common.{ℕ, ◌≡◌, ◌==◌, List, Bool, arith, filter, subst, sym, Contains}
use Rattle.std.specs.List.{list_any}
use Rattle.std.proofs.lemmas.Bool.Decides.{nat_tests}
use Rattle.std.proofs.lemmas.List.Folds.{list_any_at}
use Rattle.sok_board.proofs.Lists.{Contains-filter}
use Rattle.sok_state.specs.declared.push.Push.{Push}

abbrev pub is_pushed : List ℕ → Push → Bool
is_pushed boxes push = list_any (λ n. n == push.from) boxes

-- all of them are kept
pub kept-all : (boxes : List ℕ) (old new : List Push) → new ≡ filter (is_pushed boxes) old → (push : Push) → Contains old push → Contains boxes push.from
    → Contains new push
kept-all boxes old new is push among (k, within, there) =
    subst (λ (pushes : List Push). Contains pushes push) (sym is) (Contains-filter (is_pushed boxes) old push among
    (list_any_at (λ n. n == push.from) boxes k push.from within (grind (arith, nat_tests, there))))

use Rattle.std.proofs.Common.{ℕ, ◌≡◌, ◌≤◌, ◌++◌, ◌∷◌, [], refl, sym, subst, Option, Some, IfOk, MatchBool, MatchOption, length}
use Rattle.sok_board.specs.Area.{BoardView}
use Rattle.sok_board.specs.Limits.{box_limit}
use Rattle.sok_closed.specs.declared.placing.Located.{Located}
use Rattle.sok_closed.specs.Fine.{AreEntered, IsFine}
use Rattle.sok_closed.specs.Placing.{IsLocated}
use Rattle.sok_closed.specs.Rolls.{IsPosition}
use Rattle.sok_entry.specs.declared.entry.Inner.{Inner}
use Rattle.sok_bar.specs.Patterns.{IsBarredAlone, inner_node}
use Rattle.sok_bar.proofs.alone.enter_alone.Goals as goal

-- what was located
found-here : (b : BoardView) (count : ℕ) (one : Inner) (o : Option Located) → MatchOption o (IsPosition b count (inner_node one) → ⊥) (IsLocated b count (inner_node one))
    → (found : Located) → o ≡ Some found → IsLocated b count (inner_node one) found
found-here b count one o told found is = subst (λ p. MatchOption p (IsPosition b count (inner_node one) → ⊥) (IsLocated b count (inner_node one))) is told

pub returns-in-None-clause-tells : goal.returns-in-None-clause-tells
returns-in-None-clause-tells c = λ before known fine.
    let b = c.args.setting.now.board.now in
    let one = c.args.one.now in
    let none : IsPosition b c.args.count (inner_node one) → ⊥ =
    subst (λ o. MatchOption o (IsPosition b c.args.count (inner_node one) → ⊥) (IsLocated b c.args.count (inner_node one))) c.in-None.is
    (c.in_ok-located.ensures.found (inner_node one) refl (sym c.as_slice.ensures)) in
    none fine.position

pub enter_located-requires-clause-located : goal.enter_located-requires-clause-located
enter_located-requires-clause-located c =
    let b = c.args.setting.now.board.now in
    let one = c.args.one.now in
    let found = found-here b c.args.count one c.in_ok-located.field-0 (c.in_ok-located.ensures.found (inner_node one) refl (sym c.as_slice.ensures)) c.in-Some.located
    c.in-Some.is in
    subst (λ n. IsLocated b n (inner_node one) c.in-Some.located) (sym found.position.as_many) found

pub enter_located-requires-clause-few : goal.enter_located-requires-clause-few
enter_located-requires-clause-few c =
    let b = c.args.setting.now.board.now in
    let one = c.args.one.now in
    let found = found-here b c.args.count one c.in_ok-located.field-0 (c.in_ok-located.ensures.found (inner_node one) refl (sym c.as_slice.ensures)) c.in-Some.located
    c.in-Some.is in
    subst (λ n. n ≤ box_limit) (sym found.position.as_many) c.requires.few

pub returns-in-Some-clause-tells : goal.returns-in-Some-clause-tells
returns-in-Some-clause-tells c = λ before known.
    let b = c.args.setting.now.board.now in
    let one = c.args.one.now in
    let found = found-here b c.args.count one c.in_ok-located.field-0 (c.in_ok-located.ensures.found (inner_node one) refl (sym c.as_slice.ensures)) c.in-Some.located
    c.in-Some.is in
    subst (λ n. AreEntered inner_node b n (IsBarredAlone b) before c.args.roll.now → IfOk c.enter_located.result (λ fine. MatchBool fine
    (AreEntered inner_node b n (IsBarredAlone b) (before ++ one ∷ []) c.enter_located.new.roll)
    (IsFine inner_node b n (IsBarredAlone b) before (length before) one → ⊥))) found.position.as_many (c.enter_located.ensures.tells before) known

use Rattle.std.proofs.Common.{ℕ, ◌<◌, ◌∙◌, ◌++◌, ◌∷◌, ◌↔◌, [], All, Bool, Err, IfOk, IsOkAnd, IsTrue, MatchBool, Ok, Result, ap, arith, false, length, refl, sym, true, true≢false}
use Rattle.sok_closed.specs.declared.placing.Located.{Located}
use Rattle.sok_board.specs.Area.{BoardView}
use Rattle.sok_closed.specs.Lookup.{Rolled}
use Rattle.sok_closed.specs.Fine.{IsOfBoard}
use Rattle.sok_closed.specs.Placing.{IsLocated}
use Rattle.sok_closed.proofs.Entered.{missing, present}
use Rattle.sok_closed.proofs.Fine.{AreEntered-more, IsOfBoard-more, seen-behind}
use Rattle.sok_entry.specs.declared.entry.Inner.{Inner}
use Rattle.sok_bar.specs.Patterns.{IsBarredAlone, inner_node}
use Rattle.sok_bar.proofs.alone.enter_located.Goals as goal

-- its key is of the board
key-exists : (b : BoardView) (count : ℕ) (one : Inner) (found : Located) (roll : Rolled) → IsLocated b count (inner_node one) found → IsOfBoard b roll
    → All (λ square. square < roll.room) found.key.boxes
key-exists b count one found roll located of_board k d within =
    let below = located.key_is.placed.boxes_exist k d within in
    let wide = of_board.wide in
    omega (arith, below, wide)

pub enter-requires : goal.enter-requires
enter-requires c =
    key-exists c.args.setting.now.board.now (length c.args.one.now.boxes) c.args.one.now c.args.located.now c.args.roll.now c.requires.located c.requires.of_board

-- one that may stand is fine, and another is not
stands-or-not : {A B P E : Type 0} (r : Result Bool E) → IsOkAnd r (λ stands. IsTrue stands ↔ P) → (P → A) → (B → P) → IfOk r (λ fine. MatchBool fine A (B → ⊥))
stands-or-not (Ok true) told made back = made (told.0 refl)
stands-or-not (Ok false) told made back = λ b. true≢false (sym (told.1 (back b)))
stands-or-not (Err e) told made back = tt

pub returns-then-not-branch-clause-tells : goal.returns-then-not-branch-clause-tells
returns-then-not-branch-clause-tells c = λ before known fine.
    let b = c.args.setting.now.board.now in
    let one = c.args.one.now in
    let stays = missing _ _ c.in_ok-enter.field-0 c.in_ok-enter.ensures.entered c.if-not-branch.true in
    let seen = seen-behind inner_node b (length one.boxes) (IsBarredAlone b) before c.args.roll.now c.requires.accepted known one c.args.located.now
    stays.place c.requires.located stays.there in
    fine.new seen.place seen.earlier seen.before seen.there seen.same

pub returns-clause-tells : goal.returns-clause-tells
returns-clause-tells c = λ before known.
    let b = c.args.setting.now.board.now in
    let one = c.args.one.now in
    let came = present _ _ c.in_ok-enter.field-0 c.in_ok-enter.ensures.entered c.if-not-branch.false in
    stands-or-not c.may_stand.result c.may_stand.ensures
    (λ reasoned. AreEntered-more inner_node b (length one.boxes) (IsBarredAlone b) before c.args.roll.now c.requires.accepted known one c.args.located.now
    c.requires.located came.absent c.enter.new.self reasoned came.entries (came.marks ∙ ap (λ mark. c.args.roll.now.marks ++ mark ∷ []) c.is_expanded.ensures))
    (λ fine. fine.reasoned)

pub returns-clause-of_board : goal.returns-clause-of_board
returns-clause-of_board c =
    let b = c.args.setting.now.board.now in
    let one = c.args.one.now in
    let came = present _ _ c.in_ok-enter.field-0 c.in_ok-enter.ensures.entered c.if-not-branch.false in
    IsOfBoard-more b c.requires.accepted (length one.boxes) c.requires.few c.args.roll.now c.enter.new.self (inner_node one) c.args.located.now
    c.requires.located c.requires.of_board came.entries c.in_ok-enter.ensures.room

use Rattle.std.proofs.Common.{ℕ, ◌↔◌, ◌∙◌, refl, ap, sym, subst, List, Bool, Result, Ok, IsTrue, IsOkAnd, MatchBool, not, true, false, true≢false}
use Rattle.sok_rules.specs.Play.{AllOnGoals}
use Rattle.sok_rules.specs.declared.fault.Memory.{Memory}
use Rattle.sok_board.specs.Area.{BoardView, position_of}
use Rattle.sok_entry.specs.declared.entry.InnerReason.{InnerReason}
use Rattle.sok_entry.specs.declared.entry.InnerReason.TheVariants.{Expanded, Crowd, Frozen}
use Rattle.sok_bar.specs.Patterns.{BarsAlone, is_expanded}
use Rattle.sok_bar.proofs.alone.may_stand.Goals as goal

-- what is told of a reason
abbrev Tells : BoardView → ℕ → Result Bool Memory → List ℕ → InnerReason → Type 0
Tells b player result boxes reason = IsOkAnd result (λ stands. IsTrue stands
    ↔ MatchBool (is_expanded reason) (AllOnGoals b.rows (position_of b player boxes) → ⊥) (BarsAlone b boxes reason))

-- what is not so, by a test
not-so : (P : Type 0) (t : Bool) → IsTrue t ↔ P → IsTrue (not t) ↔ (P → ⊥)
not-so P true told = (λ wrong _. true≢false (sym wrong), λ none. absurd (none (told.0 refl)))
not-so P false told = (λ _ p. true≢false (sym (told.1 p)), λ _. refl)

pub returns-in-Expanded : goal.returns-in-Expanded
returns-in-Expanded c =
    let b = c.args.setting.now.board.now in
    let one = c.args.one.now in
    let solved = AllOnGoals b.rows (position_of b one.player c.args.boxes.now) in
    let told : Tells b one.player (Ok (not c.is_solved.result)) c.args.boxes.now Expanded = not-so solved c.is_solved.result (c.is_solved.ensures one.player) in
    subst (λ bs. Tells b one.player (Ok (not c.is_solved.result)) bs one.reason) c.requires.boxes
    (subst (Tells b one.player (Ok (not c.is_solved.result)) c.args.boxes.now) (sym c.in-Expanded.is) told)

pub returns-in-Crowd : goal.returns-in-Crowd
returns-in-Crowd c =
    let b = c.args.setting.now.board.now in
    let one = c.args.one.now in
    let result = c.holds.result in
    subst (λ bs. Tells b one.player result bs one.reason) c.requires.boxes
    (subst (Tells b one.player result c.args.boxes.now) (ap Crowd c.as_slice-members.ensures ∙ sym c.in-Crowd.is) c.holds.ensures.exact)

pub returns-in-Frozen : goal.returns-in-Frozen
returns-in-Frozen c =
    let b = c.args.setting.now.board.now in
    let one = c.args.one.now in
    let result = c.holds-in-Frozen.result in
    subst (λ bs. Tells b one.player result bs one.reason) c.requires.boxes
    (subst (Tells b one.player result c.args.boxes.now) (ap Frozen c.as_slice-members-in-Frozen.ensures ∙ sym c.in-Frozen.is) c.holds-in-Frozen.ensures.exact)

use Rattle.std.proofs.Common.{ℕ, List, MatchBool, true≢false, sym, ◌∙◌, subst, arith}
use Rattle.std.proofs.lemmas.Grind.{common_steps}
use Rattle.sok_rules.specs.Play.{AllOnGoals}
use Rattle.sok_board.specs.Area.{position_of}
use Rattle.sok_cert.specs.Closed.{IsBarredBy, entry_position}
use Rattle.sok_cert.proofs.judging.judge.Goals as goal

pub returns-then-is_solved-clause-found : goal.returns-then-is_solved-clause-found
returns-then-is_solved-clause-found c = (
  sym c.is_expanded.ensures ∙ c.if-is_expanded.true,
  subst (λ (bs : List ℕ). AllOnGoals c.args.setting.now.board.now.rows (position_of c.args.setting.now.board.now c.args.entry.now.player bs)) c.requires.boxes
      ((c.is_solved.ensures c.args.entry.now.player).0 c.if-is_solved.true),
)

pub returns-then-is_expanded-clause-found : goal.returns-then-is_expanded-clause-found
returns-then-is_expanded-clause-found c =
    let b = c.args.setting.now.board.now in
    let e = c.args.entry.now in
    subst (λ p. MatchBool p (AllOnGoals b.rows (entry_position b e) → ⊥) (IsBarredBy b c.args.claim e))
    (sym (sym c.is_expanded.ensures ∙ c.if-is_expanded.true))
    (λ solved. true≢false (sym ((c.is_solved.ensures e.player).1
    (subst (λ (bs : List ℕ). AllOnGoals b.rows (position_of b e.player bs)) (sym c.requires.boxes) solved)) ∙ c.if-is_solved.false))

pub returns-clause-found : goal.returns-clause-found
returns-clause-found c = grind (arith, common_steps)

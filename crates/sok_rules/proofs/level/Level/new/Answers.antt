use Rattle.std.proofs.Common.{◌≡◌, ap, sym, ◌∙◌, subst, refl, map, Ok, Some, None, true≢false}
use Rattle.std.proofs.lemmas.Option.{none-some}
use Rattle.sok_rules.specs.Levels.{cells_of, trimmed, fault_of, IsLevel}
use Rattle.sok_rules.proofs.Proper.{IsProper-from_none, none-from_IsProper, level_of-none, level_of-some}
use Rattle.sok_rules.proofs.Rows.{all_trimmed}
use Rattle.sok_rules.proofs.level.Level.new.Goals as goal

none : (c : goal.In-None) → fault_of (map trimmed (cells_of c.args.rows.items)) ≡ None
none c =
    ap fault_of (sym c.trim_all-rows.ensures) ∙ ap (λ rows. fault_of (cells_of rows)) (sym c.deref.ensures.value) ∙ sym c.in-None.ensures

some : (c : goal.After-drop-rows) → fault_of (map trimmed (cells_of c.args.rows.items)) ≡ Some c.in-Some.fault
some c =
    ap fault_of (sym c.trim_all-rows.ensures) ∙ ap (λ rows. fault_of (cells_of rows)) (sym c.deref.ensures.value) ∙ sym c.in-Some.ensures

pub invariant_of-result : goal.invariant_of-result
invariant_of-result c =
    subst IsLevel (sym c.trim_all-rows.ensures) (record { proper = IsProper-from_none _ (none c); trimmed = all_trimmed (cells_of c.args.rows.items) })

pub returns-in-None-clause-made : goal.returns-in-None-clause-made
returns-in-None-clause-made c = ap Ok c.trim_all-rows.ensures ∙ sym (level_of-none _ (none c))

pub returns-in-None-clause-proper : goal.returns-in-None-clause-proper
returns-in-None-clause-proper c = (λ _. IsProper-from_none _ (none c), λ _. refl)

pub returns-in-Some-clause-made : goal.returns-in-Some-clause-made
returns-in-Some-clause-made c = sym (level_of-some _ _ (some c))

pub returns-in-Some-clause-proper : goal.returns-in-Some-clause-proper
returns-in-Some-clause-proper c = (λ e. absurd (true≢false (sym e)), λ proper. absurd (none-some _ (sym (none-from_IsProper _ proper) ∙ some c)))

-- There is one answer at most, where there is one to what is asked of the input.
use Rattle.std.proofs.Common.{ℕ, ◌∙◌, List, Result, Ok, Err, Bool, true, false, length, nat_lt, sym}
use Rattle.sok_rules.specs.declared.fault.LevelFault.{LevelFault}
use Rattle.sok_rules.specs.Squares.{Rows}
use Rattle.sok_engine.specs.Inputs.{UnlessMuch, Within, OnLevel}
use Rattle.sok_engine.specs.Written.{Answers, HasOne}

UnlessMuch-one : (P : Answers) → HasOne P → (much : Bool) → HasOne (UnlessMuch much P)
UnlessMuch-one P one true a b is_a is_b = is_a ∙ sym is_b
UnlessMuch-one P one false a b is_a is_b = one a b is_a is_b

pub Within-one : (limit : ℕ) (P : List ℕ → Answers) → ((bytes : List ℕ) → HasOne (P bytes)) → (bytes : List ℕ) → HasOne (Within limit P bytes)
Within-one limit P one bytes = UnlessMuch-one (P bytes) (one bytes) (nat_lt limit (length bytes))

pub OnLevel-one : (P : Rows → Answers) → ((rows : Rows) → HasOne (P rows)) → (level : Result Rows LevelFault) → HasOne (OnLevel P level)
OnLevel-one P one (Err fault) a b is_a is_b = is_a ∙ sym is_b
OnLevel-one P one (Ok rows) a b is_a is_b = one rows a b is_a is_b

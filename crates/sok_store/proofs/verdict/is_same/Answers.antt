use Rattle.std.proofs.Common.{◌∙◌}
use Rattle.std.proofs.lemmas.Bool.Decides.{Decides-eqb}
use Rattle.std.proofs.lemmas.Slice.Eq.{slice_eq-Decides}
use Rattle.sok_rules.specs.Levels.{IsLevel}
use Rattle.sok_store.proofs.Verdicts.{same_levels}
use Rattle.sok_store.proofs.verdict.is_same.Goals as goal

pub returns : goal.returns
returns c =
    let level : IsLevel c.args.level.now = record { proper = c.rows-rows.ensures.proper; trimmed = c.rows-rows.ensures.trimmed } in
    let of_other : IsLevel c.args.other.now = record { proper = c.rows-other_rows.ensures.proper; trimmed = c.rows-other_rows.ensures.trimmed } in
    same_levels c.args.level.now c.args.other.now level of_other c.as_bytes.result.now c.as_bytes-2.result.now
    (c.as_bytes.ensures.value ∙ c.in_ok-text.ensures) (c.as_bytes-2.ensures.value ∙ c.in_ok-other_text.ensures) c.eq.result
    (slice_eq-Decides Decides-eqb _ _ _ c.eq.ensures)

-- What is done in a session of play.
use Rattle.std.specs.Prelude.{◌≡◌, [], Bool, true, Result, Ok, IsOkAnd, MatchBool, MatchResult}
use Rattle.sok_rules.specs.declared.fault.PlayFault.{PlayFault}
use Rattle.sok_rules.specs.Session.{Letters, Redoes, StaysAt, StepsOn, Undoes, at_start}
use Rattle.sok_sketch.specs.declared.acts.Act.{Act}
use Rattle.sok_sketch.specs.declared.acts.Act.TheVariants.{Play, Undo, Redo, Reset}

-- what an act makes of a session, and what it returns
abbrev pub Acts : Act → Letters → Letters → Result Bool PlayFault → Type 0
Acts (Play d) old new result = MatchResult result (StepsOn old d new) (StaysAt old d new)
Acts Undo old new result = IsOkAnd result (λ undone. MatchBool undone (Undoes old new) ((old.played ≡ []) × (new ≡ old)))
Acts Redo old new result = IsOkAnd result (λ played. MatchBool played (Redoes old new) ((old.undone ≡ []) × (new ≡ old)))
Acts Reset old new result = (result ≡ Ok true) × (new ≡ at_start old.rows)

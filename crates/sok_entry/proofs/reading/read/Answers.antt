use Rattle.std.proofs.Common.{inl, inr}
use Rattle.std.proofs.lemmas.Result.{MatchResult-weaker}
use Rattle.sok_entry.proofs.Readings.{Spells-one, Spells-GoesWrong}
use Rattle.sok_entry.proofs.reading.read.Goals as goal

pub returns-clause-only : goal.returns-clause-only
returns-clause-only c =
    let text = c.args.text.now in
    λ claim entries spells. MatchResult-weaker c.certificate_of.result c.certificate_of.ensures
    (λ found spelled. Spells-one text found.claim claim found.entries.items entries spelled spells)
    (λ fault wrong. elim wrong [ inl memory ↦ memory | inr goes ↦ absurd (Spells-GoesWrong text claim entries fault spells goes) ])

use Rattle.std.proofs.Common.{subst, sym, arith}
use Rattle.std.proofs.lemmas.Grind.{common_steps}
use Rattle.sok_entry.specs.Text.{SpellsCertificate}
use Rattle.sok_entry.proofs.Printable.{Spells-text_of}
use Rattle.sok_entry.proofs.writing.write.Goals as goal

pub returns-clause-exact : goal.returns-clause-exact
returns-clause-exact c = grind (arith, common_steps)

pub returns-clause-spells : goal.returns-clause-spells
returns-clause-spells c =
    let claim = c.args.certificate.now.claim in
    let entries = c.args.certificate.now.entries.items in
    subst (λ text. SpellsCertificate text claim entries) (sym (returns-clause-exact c)) (Spells-text_of claim entries c.requires)

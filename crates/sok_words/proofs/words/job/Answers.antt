use Rattle.std.proofs.Common.{◌∙◌, ap, ap₂}
use Rattle.clap.specs.Words.{is_simple, subcommand_of, takes}
use Rattle.sok_words.proofs.Forms.{reads}
use Rattle.sok_words.proofs.Lines.{simple}
use Rattle.sok_words.proofs.words.job.Goals as goal

pub returns-in-Ok-try_get_matches_from-clause-answers : goal.returns-in-Ok-try_get_matches_from-clause-answers
returns-in-Ok-try_get_matches_from-clause-answers c = λ program form plain words.
    let r = reads program form plain in
    let app = c.in-Ok.ensures.app_is in
    let found = (c.in-Ok-try_get_matches_from.ensures.matches (ap is_simple app ∙ simple)).1 in
    c.allowed.ensures.answers form plain (c.job_in.ensures form r.name r.rows (found ∙ ap₂ subcommand_of app words ∙ r.enters) r.values)

pub returns-in-Err-try_get_matches_from-clause-answers : goal.returns-in-Err-try_get_matches_from-clause-answers
returns-in-Err-try_get_matches_from-clause-answers c = λ program form plain words.
    let r = reads program form plain in
    let app = c.in-Ok.ensures.app_is in
    c.refused.ensures (c.in-Err-try_get_matches_from.ensures.passes (ap₂ takes app words ∙ r.takes))

use Rattle.std.proofs.Common.{◌≡◌, arith}
use Rattle.sqlite.specs.Held.{state}
use Rattle.sok_files.specs.Files.{files_by}
use Rattle.sok_tool.specs.Databases.{databases_by}
use Rattle.sok_tool.proofs.Serving.{Serves-memory, too_few}
use Rattle.sok_tool.proofs.program.run.Goals as goal

pub served-requires-clause-makes : goal.served-requires-clause-makes
served-requires-clause-makes g c = λ path makes. c.requires.makes (omega (arith, c.if-words-le1.false)) path c.in-Ok.job c.in-Ok.ensures.answers makes

pub served-requires-clause-changes : goal.served-requires-clause-changes
served-requires-clause-changes g c = λ path changes. c.requires.changes (omega (arith, c.if-words-le1.false)) path c.in-Ok.job c.in-Ok.ensures.answers changes

pub returns-in-Err-clause-serves : goal.returns-in-Err-clause-serves
returns-in-Err-clause-serves g c = λ program form plain words.
    let memory : c.in-Err.refusal.status ≡ 6 = c.in-Err.ensures.answers program form plain words in
    let rt = c.args.rt.now in
    let files = files_by g.F.Output.Write.contents (g.F.Folder.files rt) in
    let databases = databases_by (state g.S.Store) (g.F.Databases.databases rt) in
    Serves-memory files databases _ _ c.refused.result form (c.refused.ensures.memory memory) (c.refused.ensures.silent (λ none. omega (arith, memory, none)))

pub returns-in-Ok-clause-serves : goal.returns-in-Ok-clause-serves
returns-in-Ok-clause-serves g c = λ program form plain words. c.served.ensures form plain (c.in-Ok.ensures.answers program form plain words)

pub returns-then-words-le1-clause-plays : goal.returns-then-words-le1-clause-plays
returns-then-words-le1-clause-plays g c = λ _. (c.play_bytes.result, c.play_bytes.ensures, c.ended.ensures)

pub returns-then-words-le1-clause-serves : goal.returns-then-words-le1-clause-serves
returns-then-words-le1-clause-serves g c = λ program form plain is. absurd (too_few _ program form c.if-words-le1.true is)

pub returns-in-Err-clause-plays : goal.returns-in-Err-clause-plays
returns-in-Err-clause-plays g c = λ few. absurd (omega (arith, few, c.if-words-le1.false))

pub returns-in-Ok-clause-plays : goal.returns-in-Ok-clause-plays
returns-in-Ok-clause-plays g c = λ few. absurd (omega (arith, few, c.if-words-le1.false))

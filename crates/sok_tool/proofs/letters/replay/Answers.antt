use Rattle.sok_engine.specs.Inputs.{Within}
use Rattle.sok_engine.specs.Limits.{input_limit}
use Rattle.sok_engine.specs.Written.{Writes}
use Rattle.sok_files.specs.Files.{OfFile}
use Rattle.sok_play.specs.Plays.{IsReplay}
use Rattle.sok_tool.proofs.Plain.{none_read, on_read}
use Rattle.sok_tool.proofs.letters.replay.Goals as goal

pub returns-in_err-letters : goal.returns-in_err-letters
returns-in_err-letters g c = none_read _ _ _ _ _ _ c.from_residual.ensures.1 c.in_err-letters.ensures.unread

pub returns : goal.returns
returns g c =
    on_read _ _ (λ letters. Writes (OfFile ((g.F.Folder.files c.args.rt.now).reads c.args.path.now) (Within input_limit (IsReplay c.args.n letters)))
    (g.W.Write.contents c.args.out.now) (g.W.Write.contents c.replay.new.out) c.replay.result) _ _ _ c.as_slice.result.now c.as_slice.ensures.value
    c.in_ok-letters.ensures.letters c.replay.ensures

use Rattle.std.proofs.Common.{◌≡◌, ◌∙◌, sym}
use Rattle.std.specs.Fmt.InlineText.{IsIntact, inline_text}
use Rattle.sok_engine.specs.FaultLines.{fault_words}
use Rattle.sok_files.specs.Endings.{fault_line}
use Rattle.sok_files.proofs.Telling.{AppendsUpTo-written, line-of}
use Rattle.sok_files.proofs.ending.tell.Goals as goal

pub returns-then-is_ok : goal.returns-then-is_ok
returns-then-is_ok g c =
    let told : c.as_bytes.result.now ≡ fault_line c.args.fault =
    c.as_bytes.ensures.value ∙ c.as_str.ensures.value
    ∙ line-of IsIntact inline_text (fault_words c.args.fault) c.new-line.result c.writeln.new.self c.writeln.result c.new-line.ensures.intact
    c.new-line.ensures.text (sym c.is_ok.ensures.value ∙ c.if-is_ok.true) c.writeln.ensures.writes in
    AppendsUpTo-written _ _ _ _ c.write_whole.result told c.write_whole.ensures.ok c.write_whole.ensures.err

use Rattle.std.proofs.Common.{◌≡◌, ◌==◌, ◌∙◌, ◌+◌, ◌++◌, ap, length, map, sym, subst, vec_len, arith, rules}
use Rattle.sok_entry.specs.Stages.{IsStage, MayClaim}
use Rattle.sok_entry.specs.Text.{inner_line, inner_text}
use Rattle.sok_entry.proofs.EntryNumbers.{no_elements}
use Rattle.sok_cert.specs.Parts.{progressed_of, rostered_of}
use Rattle.sok_cert.specs.Streams.{Progressed}
use Rattle.sok_cert.proofs.Streaming.{IsReadSo-unless, IsTaken-start, stands-inner}
use Rattle.sok_cert.proofs.progress.Progress.pass_known.Goals as goal

pub returns-then-is_some-clause-takes : goal.returns-then-is_some-clause-takes
returns-then-is_some-clause-takes c = IsTaken-start c.args.setting.now.board.now (progressed_of c.args.self.now) c.args.rest.now

pub returns-clause-takes : goal.returns-clause-takes
returns-clause-takes c =
    let b = c.args.setting.now.board.now in
    let p = progressed_of c.args.self.now in
    let next : Progressed = record {
      stage = c.judge_read.new.stage;
      lines = vec_len c.resize.new.self;
      line = c.args.self.now.line.items;
      wrong = c.in_ok-self.field-0;
      roster = rostered_of c.judge_read.new.roster;
    } in
    let inner = c.in-Some-at.inner.now in
    let front = c.in-Some-at.ensures in
    let size : length p.line ≡ vec_len c.args.self.now.line = search rules in
    let none = no_elements p.line (ap (λ n. n == 0) size ∙ sym c.is_empty.ensures ∙ c.if-not-is_empty.false) in
    let many : next.lines ≡ p.lines + length inner = omega (arith, c.in_ok-resize.ensures.len, c.len.ensures, ap length c.as_slice.ensures) in
    let same = c.replace-now.ensures.value in
    record {
      done = inner_text inner;
      whole = front.begins;
      stands = λ text stands.
          let so = IsReadSo-unless b p text (sym c.is_some.ensures ∙ c.if-is_some.false) stands in
          let read = c.in_ok-read.ensures so.passed so.entries front.fits (subst (IsStage so.passed so.entries) (sym same) so.judged.at) in
          stands-inner b text p next so inner none none many front.fits
          (c.in_ok-self.ensures.judged c.replace-now.result (so.passed ++ map inner_line inner) so.entries
          (λ claim may. so.judged.tells claim (subst (λ s. MayClaim s claim) same may)) read);
    }

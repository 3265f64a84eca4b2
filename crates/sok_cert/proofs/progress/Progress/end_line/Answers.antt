use Rattle.std.proofs.Common.{◌≡◌, ◌∙◌, ◌++◌, ◌∷◌, [], List, MatchOption, ap, sym, subst, vec_len}
use Rattle.std.specs.Str.Lines.{strip_carriage_return}
use Rattle.sok_entry.specs.declared.entry.Entry.{Entry}
use Rattle.sok_entry.specs.Stages.{AreWrong}
use Rattle.sok_cert.specs.Parts.{progressed_of, rostered_of}
use Rattle.sok_cert.specs.Streams.{AreJudged}
use Rattle.sok_cert.proofs.Streaming.{wrong-stays, IsReadSo-unless, IsReadSo-more, stands-end}
use Rattle.sok_cert.proofs.progress.Progress.end_line.Goals as goal

pub returns-then-is_some-clause-stands : goal.returns-then-is_some-clause-stands
returns-then-is_some-clause-stands c = λ text stands.
    let b = c.args.setting.now.board.now in
    let p = progressed_of c.args.self.now in
    let some = sym c.is_some.ensures ∙ c.if-is_some.true in
    wrong-stays b p (text ++ c.args.part.now) (10 ∷ []) some (wrong-stays b p text c.args.part.now some stands)

pub returns-clause-stands : goal.returns-clause-stands
returns-clause-stands c = λ text stands.
    let b = c.args.setting.now.board.now in
    let p = progressed_of c.args.self.now in
    let part = c.args.part.now in
    let line = c.extend_from_slice.new.self.items in
    let so = IsReadSo-unless b p text (sym c.is_some.ensures ∙ c.if-is_some.false) stands in
    let whole = IsReadSo-more b text part line p so c.requires.unended c.in_ok-extend_from_slice.ensures.items in
    let is : c.without_return-line.result.now ≡ strip_carriage_return line = c.without_return-line.ensures ∙ ap strip_carriage_return c.as_slice.ensures.value in
    let told = c.in_ok-self.ensures.judged whole.passed whole.entries (whole.count ∙ sym c.len-lines.ensures) whole.judged in
    stands-end b (text ++ part) (record p { line = line })
    (record {
      stage = c.judge_line.new.stage;
      lines = vec_len c.push.new.self;
      line = c.clear.new.self.items;
      wrong = c.in_ok-self.field-0;
      roster = rostered_of c.judge_line.new.roster;
    }) whole c.clear.ensures.items c.in_ok-push.ensures.len
    (subst (λ last. MatchOption c.in_ok-self.field-0
    ((es : List Entry) × AreJudged b c.judge_line.new.stage (rostered_of c.judge_line.new.roster) (whole.passed ++ last ∷ []) es)
    (AreWrong (whole.passed ++ last ∷ []))) is told)

use Rattle.std.proofs.Common.{◌∙◌, ◌++◌, refl, sym, subst}
use Rattle.sok_entry.specs.Stages.{IsSplit}
use Rattle.sok_cert.specs.Parts.{progressed_of}
use Rattle.sok_cert.proofs.Streaming.{wrong-stays, stands-more, IsReadSo-more, IsReadSo-unless}
use Rattle.sok_cert.proofs.progress.Progress.keep.Goals as goal

pub returns-then-is_some-clause-stands : goal.returns-then-is_some-clause-stands
returns-then-is_some-clause-stands c = λ b text stands.
    wrong-stays b (progressed_of c.args.self.now) text c.args.part.now (sym c.is_some.ensures ∙ c.if-is_some.true) stands

pub returns-then-is_too_long-clause-stands : goal.returns-then-is_too_long-clause-stands
returns-then-is_too_long-clause-stands c = λ b text stands.
    let p = progressed_of c.args.self.now in
    let part = c.args.part.now in
    let read = IsReadSo-unless b p text (sym c.is_some.ensures ∙ c.if-is_some.false) stands in
    let so = IsReadSo-more b text part c.extend_from_slice.new.self.items p read c.requires.unended c.in_ok-extend_from_slice.ensures.items in
    c.if-is_too_long.ensures refl (text ++ part) so.passed so.entries (subst (IsSplit (text ++ part) so.passed) (sym c.as_slice.ensures.value) so.split)
    so.judged.at

pub returns-clause-stands : goal.returns-clause-stands
returns-clause-stands c = λ b text stands.
    stands-more b text c.args.part.now c.extend_from_slice.new.self.items (progressed_of c.args.self.now) (sym c.is_some.ensures ∙ c.if-is_some.false)
    c.requires.unended c.in_ok-extend_from_slice.ensures.items stands

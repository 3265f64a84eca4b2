use Rattle.std.proofs.Common.{ℕ, Result, Ok, Err, OnErr, ◌≡◌, ◌+◌, [], ◌∷◌, ◌++◌, refl, sym, ap, ◌∙◌, subst, arith}
use Rattle.std.proofs.lemmas.Bool.{ne_eqb}
use Rattle.std.proofs.lemmas.List.{length-append}
use Rattle.std.specs.Str.Lines.{strip_carriage_return}
use Rattle.arrayvec.specs.ArrayVec.{ArrayVec}
use Rattle.sok_near.specs.NearLines.{near_at, near_from, near_place}
use Rattle.sok_near.specs.Scans.{HasFound, HasPassed}
use Rattle.sok_near.proofs.Passing.{found-few, passed-byte, passed-line, take-pushed}
use Rattle.sok_near.proofs.scan.NearScan.step.Goals as goal

pub returns-then-byte-eq10 : goal.returns-then-byte-eq10
returns-then-byte-eq10 c = λ before text short passed.
    let old = c.args.self.now in
    let all = before ++ near_from 1 passed.done in
    let few = found-few before text old passed (omega (arith, short, length-append text (c.args.byte ∷ []))) in
    let place : c.near_place-place.result ≡ near_place (strip_carriage_return old.front.items) =
    c.near_place-place.ensures.place ∙ ap near_place (c.without_return.ensures ∙ ap strip_carriage_return c.as_slice.ensures.value) in
    let found = subst (λ place. HasFound (all ++ near_at (old.ended + 1) place) c.end_line.new.self) place
    (c.end_line.ensures.found all few.0 few.1 passed.found) in
    subst (λ byte. HasPassed before (text ++ byte ∷ []) c.end_line.new.self) (sym c.if-byte-eq10.true)
    (passed-line before text old c.end_line.new.self passed c.end_line.ensures.anew (c.end_line.ensures.ended few.0) found)

-- where no byte was pushed the items are as before
refused : {E : Type 0} (old new : ArrayVec ℕ) (result : Result (Unit {0}) E) → OnErr result (new ≡ old) → OnErr result (new.items ≡ old.items)
refused old new (Ok done) err = tt
refused old new (Err full) err = ap (λ (v : ArrayVec ℕ). v.items) err

pub returns : goal.returns
returns c = λ before text short passed.
    let old = c.args.self.now in
    let kept = take-pushed 1002 old.front.items c.try_push.new.self.items passed.front c.args.byte c.try_push.result passed.kept c.try_push.ensures.variant
    c.try_push.ensures.ok (refused old.front c.try_push.new.self c.try_push.result c.try_push.ensures.err) c.try_push.ensures.full in
    passed-byte before text c.args.byte old _ (ne_eqb c.args.byte 10 c.if-byte-eq10.false) passed kept refl
    (record { first = passed.found.first; count = passed.found.count })

use Rattle.std.proofs.Common.{◌≡◌, ◌+◌, ◌<◌, [], ◌∷◌, ◌++◌, length, take, get_or, sym, ap, ◌∙◌, subst, arith}
use Rattle.std.proofs.lemmas.List.{append_assoc, append-nil, length-append, length-take, take_all, take_more}
use Rattle.sok_near.specs.Scans.{HasPassed, IsShort}
use Rattle.sok_near.proofs.scan.NearScan.pass.Goals as goal

pub loop-byte-init : goal.loop-byte-init
loop-byte-init c = λ before text short passed. subst (λ all. HasPassed before all c.args.self.now) (sym (append-nil text)) passed

pub loop-byte-preserved : goal.loop-byte-preserved
loop-byte-preserved c = λ before text short passed.
    let bytes = c.args.bytes.now in
    let i = c.loop-byte.byte-index in
    let within : i < length bytes = omega arith in
    let next : (text ++ take i bytes) ++ get_or bytes i 0 ∷ [] ≡ text ++ take (i + 1) bytes =
    append_assoc text (take i bytes) (get_or bytes i 0 ∷ []) ∙ ap (λ front. text ++ front) (sym (take_more bytes i 0 within)) in
    let fits : IsShort before ((text ++ take i bytes) ++ get_or bytes i 0 ∷ []) = omega (
      arith,
      short,
      ap length next,
      length-append text (take (i + 1) bytes),
      length-append text bytes,
      length-take (i + 1) bytes,
    ) in
    subst (λ all. HasPassed before all c.step.new.self) next
    (c.step.ensures before (text ++ take i bytes) fits (c.loop-byte.invariant before text short passed))

pub returns : goal.returns
returns c = λ before text short passed.
    let all = take_all c.loop-byte.byte-index c.args.bytes.now (omega arith) in
    subst (λ front. HasPassed before (text ++ front) c.loop-byte.self) all (c.loop-byte.invariant before text short passed)

use Rattle.std.proofs.Common.{refl, sym, true≢false}
use Rattle.sok_search.specs.Views.{progress_of}
use Rattle.sok_search.proofs.Concluding.{and-none, cut-short, fewer-beaten, no-fewer, not-beaten}
use Rattle.sok_search.proofs.solve.halted.Goals as goal

pub returns-then-is_beaten : goal.returns-then-is_beaten
returns-then-is_beaten c = λ b accepted cut.
    let least = c.least_open-least.result in
    let upper = c.args.search.now.aim.upper in
    no-fewer b accepted c.args.limit (progress_of c.args.search.now) cut.search least c.least_open-least.ensures upper refl
    (and-none upper least (c.if-is_beaten.ensures.0 refl))

pub returns : goal.returns
returns c = λ b accepted cut.
    let least = c.least_open-least.result in
    let upper = c.args.search.now.aim.upper in
    let fewer = not-beaten upper least (λ beaten. true≢false (sym (c.if-is_beaten.ensures.1 beaten))) in (
      cut-short b accepted c.args.limit (progress_of c.args.search.now) cut.search cut.more least c.least_open-least.ensures upper refl
          (fewer-beaten upper least fewer),
      fewer,
    )

use Rattle.std.proofs.Common.{◌++◌, refl, ap, ◌∙◌}
use Rattle.sok_near.specs.NearLines.{near_lines, near_place}
use Rattle.sok_near.proofs.Passing.{found-end, passed-none}
use Rattle.sok_near.proofs.scan.NearScan.end.Goals as goal

pub returns-clause-found : goal.returns-clause-found
returns-clause-found c = λ before text short passed.
    let place = c.near_place-place.ensures.place ∙ ap near_place c.as_slice.ensures.value in
    let told = found-end before text c.near_place-place.result c.args.self.now c.end_line.new.self short passed place c.end_line.ensures.found in
    record { first = told.first; count = told.count }

pub returns-clause-anew : goal.returns-clause-anew
returns-clause-anew c = λ before text short passed.
    let place = c.near_place-place.ensures.place ∙ ap near_place c.as_slice.ensures.value in
    let told = found-end before text c.near_place-place.result c.args.self.now c.end_line.new.self short passed place c.end_line.ensures.found in
    passed-none (before ++ near_lines text) _ c.end_line.ensures.anew refl (record { first = told.first; count = told.count })

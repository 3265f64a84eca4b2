use Rattle.std.proofs.Common.{◌≡◌, sym, ◌∙◌, Some, Err, Ok, true≢false, slice_get}
use Rattle.sok_bar.proofs.Rising.{found, member_found, Contains-member}
use Rattle.sok_bar.proofs.members.is_member.Goals as goal

pub returns-in-Ok : goal.returns-in-Ok
returns-in-Ok c =
    let at : slice_get c.args.boxes.now c.in-Ok.index ≡ Some c.args.square =
    found c.args.boxes.now c.args.square (Ok c.in-Ok.index) c.requires.rising c.in-Ok.ensures.position in
    let (there, back) = member_found c.args.boxes.now c.args.members.now c.args.square c.in-Ok.index c.binary_search-in-Ok.result c.requires.rising
    c.requires.listed at c.binary_search-in-Ok.ensures.position in
    ((λ e. there (sym c.is_ok.ensures.value ∙ e)), λ one. c.is_ok.ensures.value ∙ back one)

pub returns-in-Err : goal.returns-in-Err
returns-in-Err c = (
  (λ e. absurd (true≢false (sym e))),
  λ one. absurd (found c.args.boxes.now c.args.square (Err c.in-Err.field-0) c.requires.rising c.in-Err.ensures.position
      (Contains-member c.args.boxes.now c.args.members.now c.args.square one)),
)

use Rattle.std.proofs.Common.{◌∙◌, ◌++◌, ap}
use Rattle.sok_play.proofs.listing.push_fault.Goals as goal

pub returns-in_ok-extend_from_slice-in_default : goal.returns-in_ok-extend_from_slice-in_default
returns-in_ok-extend_from_slice-in_default c = (
  c.in_default.not-Memory,
  λ title. c.in_ok-extend_from_slice-in_default.ensures.items
      ∙ ap (λ line. c.args.text.now.items ++ line) (c.as_bytes.ensures.value ∙ c.in_ok-line-in_default.ensures title),
)

use Rattle.std.proofs.Common.{◌∙◌, append_assoc}
use Rattle.sok_play.proofs.listing.push_level.Goals as goal

pub returns : goal.returns
returns c =
    c.in_ok-push.ensures.items
    ∙ rw (c.in_ok-push_title.ensures, c.in_ok-extend_from_slice.ensures.items, c.as_bytes.ensures.value, c.in_ok-numbers.ensures) (simp append_assoc)

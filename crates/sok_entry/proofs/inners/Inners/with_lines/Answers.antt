use Rattle.std.proofs.Common.{◌++◌, ◌∙◌}
use Rattle.sok_entry.specs.Text.{inner_text}
use Rattle.sok_entry.proofs.Inside.{lines_inside-same}
use Rattle.sok_entry.proofs.inners.Inners.with_lines.Goals as goal

pub of-requires : goal.of-requires
of-requires c =
    c.in_ok-push_inner_lines.ensures.lines ∙ (λ i. c.new-lines.ensures.items i ++ inner_text (c.deref.ensures.value i))
    ∙ lines_inside-same c.args.items.items

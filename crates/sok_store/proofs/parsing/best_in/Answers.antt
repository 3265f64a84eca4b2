use Rattle.std.proofs.Common.{◌≡◌, ◌∙◌, ap, sym, Some, option_map, string_bytes}
use Rattle.sok_sql.specs.Leaves.{Leaf}
use Rattle.sok_store.proofs.Parsed.{best_read}
use Rattle.sok_store.proofs.parsing.best_in.Goals as goal

pub returns-in_ok-letters_in-in-Some : goal.returns-in_ok-letters_in-in-Some
returns-in_ok-letters_in-in-Some c page kept is =
    let inside = c.columns.view_is ∙ is in
    let text : Some (string_bytes c.in-Some.lurd) ≡ _ = ap (option_map string_bytes) (sym c.in-Some.is) ∙ ap (λ (l : Leaf). l.lurd) inside in
    rw (c.unwrap_or.ensures, c.unwrap_or-in-Some.ensures) (best_read page.level page.best kept.best (string_bytes c.in-Some.lurd) c.columns.inside.pushes c.columns.inside.moves text
    (ap (λ (l : Leaf). l.pushes) inside) (ap (λ (l : Leaf). l.moves) inside) c.in_ok-letters_in-in-Some.field-0.items
    (λ w spelled. c.in_ok-letters_in-in-Some.ensures w (rw c.as_bytes.ensures.value spelled)))

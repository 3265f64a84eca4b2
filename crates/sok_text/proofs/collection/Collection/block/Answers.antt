use Rattle.std.proofs.Common.{◌≡◌, ◌≤◌, ◌<◌, ◌-◌, Some, option_map, slice_get, length, sym, ◌∙◌, ap, refl, arith}
use Rattle.std.proofs.lemmas.Option.{slice_get_past, slice_get_read}
use Rattle.std.proofs.lemmas.Bool.Decides.{nat_tests}
use Rattle.std.specs.Str.Lines.{lines}
use Rattle.sok_text.specs.Collections.{block_at, block_of}
use Rattle.sok_text.proofs.Blocks.{before_of, before-first, before-later, block_at-none, block_at-some, one_less}
use Rattle.sok_text.proofs.collection.Collection.block.Goals as goal
use Rattle.sok_text.proofs.collection.Collection.block.Goals.{then-n-eq1, else-n-eq1}

pub returns-in_err-part : goal.returns-in_err-part
returns-in_err-part c =
    let i = c.in_ok-checked_sub.field-0 in
    let counted = one_less c.checked_sub.result c.args.n i c.checked_sub.ensures c.in_ok-checked_sub.was in
    let past : length c.deref.result.now ≤ i = grind (arith, nat_tests, c.get.ensures.lookup.0) in
    ap (option_map (λ texts. block_of texts.before.now texts.board.now texts.after.now)) c.from_residual-in_err-part.ensures
    ∙ sym (block_at-none (λ p. record { board = lines p.board.now; after = lines p.after.now })
    (lines c.self.inside.notes.now) c.self.inside.parts.items c.args.n i
    counted (ap (λ items. slice_get items i) (sym c.deref.ensures.value) ∙ slice_get_past c.deref.result.now i past))
    ∙ ap (λ blocks. block_at blocks c.args.n) c.self.view_is

pub returns : goal.returns
returns c =
    let i = c.in_ok-checked_sub.field-0 in
    let n = c.args.n in
    let part = c.in_ok-part.part.now in
    let parts = c.self.inside.parts.items in
    let notes = lines c.self.inside.notes.now in
    let counted = one_less c.checked_sub.result n i c.checked_sub.ensures c.in_ok-checked_sub.was in
    let within : i < length c.deref.result.now = grind (arith, nat_tests, c.in_ok-part.ensures.lookup.0) in
    let before_is : lines c.if-n-eq1.before.now ≡ before_of (λ p. record { board = lines p.board.now; after = lines p.after.now }) notes i parts =
    elim c.if-n-eq1.branch [
      | then-n-eq1 w ↦ (λ j. lines (w.before-is j).now)
          ∙ sym (before-first (λ p. record { board = lines p.board.now; after = lines p.after.now }) notes parts i (omega (arith, counted)))
      | else-n-eq1 w ↦ (λ j. lines (w.before-is j).now)
          ∙ sym (before-later (λ p. record { board = lines p.board.now; after = lines p.after.now }) notes parts i (n - 2) w.index.result.now
          (omega (arith, counted))
          (slice_get_read parts (length parts) (n - 2) w.index.result.now refl
          (omega (arith, counted, within, ap length c.deref.ensures.value)) w.index.ensures))
    ] in
    (λ j. Some (record { before = before_is j; board = lines part.board.now; after = lines part.after.now }))
    ∙ sym (block_at-some (λ p. record { board = lines p.board.now; after = lines p.after.now }) notes parts n i part
    counted (ap (λ items. slice_get items i) (sym c.deref.ensures.value)
    ∙ slice_get_read c.deref.result.now (length c.deref.result.now) i part refl within c.in_ok-part.ensures.lookup.1))
    ∙ ap (λ blocks. block_at blocks n) c.self.view_is

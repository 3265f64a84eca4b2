use Rattle.std.proofs.Common.{arith, ap, sym, ◌∙◌, get_or, unwrap_or, option_map}
use Rattle.sok_board.proofs.Tables.{entry-past, entry-within}
use Rattle.sok_board.proofs.table.entry.Goals as goal

pub returns-then-spot-ge-SIDE : goal.returns-then-spot-ge-SIDE
returns-then-spot-ge-SIDE g c = sym (entry-past c.args.other c.args.table.now c.args.spot (omega arith))

pub returns-in-Some : goal.returns-in-Some
returns-in-Some g c =
    sym (ap (λ o. unwrap_or (option_map (λ x. x.now) o) c.args.other) c.in-Some.is) ∙ c.get.ensures.lookup.4 (omega arith) c.args.other
    ∙ ap (λ n. get_or c.args.table.now n c.args.other) c.place.ensures ∙ sym (entry-within c.args.other c.args.table.now c.args.spot (omega arith))

pub returns-in-None : goal.returns-in-None
returns-in-None g c =
    sym (ap (λ o. unwrap_or (option_map (λ x. x.now) o) c.args.other) c.in-None.is) ∙ c.get.ensures.lookup.4 (omega arith) c.args.other
    ∙ ap (λ n. get_or c.args.table.now n c.args.other) c.place.ensures ∙ sym (entry-within c.args.other c.args.table.now c.args.spot (omega arith))

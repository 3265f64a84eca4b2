use Rattle.sok_state.proofs.Moves.{next-found}
use Rattle.sok_state.proofs.packed_table.PackedTable.get_next.Goals as goal

pub returns : goal.returns
returns g c =
    let args = c.args in
    next-found args.self.now.entries args.index args.from args.to args.least _ _ c.packed.ensures.there c.moved-next.ensures.next c.find.result c.find.ensures

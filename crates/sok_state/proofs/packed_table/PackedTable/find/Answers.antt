use Rattle.std.proofs.Common.{subst, Contains, MatchOption}
use Rattle.std.specs.Map.{keys_of}
use Rattle.sok_state.specs.PackedKeys.{Stored}
use Rattle.sok_state.specs.Tables.{IsAt}
use Rattle.sok_state.proofs.PackedTables.{found-packed}
use Rattle.sok_state.proofs.packed_table.PackedTable.find.Goals as goal

pub returns : goal.returns
returns g c =
    let key = c.args.key.now in
    let r = c.get_index_of.result in
    let found = found-packed g.K.Packed.state_of g.K.Packed.fits c.self.inside.keys.keys c.self.inside.depths.items c.self.invariant _ g.met.K.Packed.tells key r c.requires
    c.get_index_of.ensures.index in
    subst (λ (table : Stored). MatchOption r (Contains (keys_of table.entries) (g.K.Packed.state_of key) → ⊥) (IsAt table.entries (g.K.Packed.state_of key))) c.self.view_is found

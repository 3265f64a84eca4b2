use Rattle.std.proofs.Common.{ap, sym, ◌∙◌, subst, length}
use Rattle.sok_state.specs.PackedKeys.{Stored}
use Rattle.sok_state.specs.Tables.{HasDistinctKeys}
use Rattle.sok_state.proofs.PackedTables.{length-entries_of, distinct-states}
use Rattle.sok_state.proofs.packed_table.PackedTable.len.Goals as goal

pub returns-clause-count : goal.returns-clause-count
returns-clause-count g c =
    let inside = c.self.inside in
    c.len.ensures.len ∙ sym (length-entries_of g.K.Packed.state_of inside.keys.keys inside.depths.items c.self.invariant.a_depth_each) ∙ ap (λ (table : Stored). length table.entries)
    c.self.view_is

pub returns-clause-distinct : goal.returns-clause-distinct
returns-clause-distinct g c =
    let inside = c.self.inside in
    subst (λ (table : Stored). HasDistinctKeys table.entries) c.self.view_is
    (distinct-states g.K.Packed.state_of g.K.Packed.fits inside.keys.keys inside.depths.items c.self.invariant _ g.met.K.Packed.tells c.len.ensures.unique)

use Rattle.std.proofs.Common.{arith, ap, sym, ◌∙◌, slice_get, Some}
use Rattle.std.specs.Map.{values_of}
use Rattle.std.proofs.lemmas.Option.{slice_get-get_or}
use Rattle.sok_state.specs.PackedKeys.{Stored}
use Rattle.sok_state.proofs.PackedTables.{depth-within, values-entries_of}
use Rattle.sok_state.proofs.packed_table.PackedTable.depth.Goals as goal

pub index-requires : goal.index-requires
index-requires g c =
    let within = depth-within g.K.Packed.state_of g.K.Packed.fits c.self.inside.keys.keys c.self.inside.depths.items c.self.invariant _ c.args.index c.self.view_is c.requires.exists in
    omega (arith, within)

pub returns : goal.returns
returns g c =
    let inside = c.self.inside in
    let within = depth-within g.K.Packed.state_of g.K.Packed.fits inside.keys.keys inside.depths.items c.self.invariant _ c.args.index c.self.view_is c.requires.exists in
    let values = sym (values-entries_of g.K.Packed.state_of inside.keys.keys inside.depths.items c.self.invariant.a_depth_each) ∙
    ap (λ (table : Stored). values_of table.entries) c.self.view_is in
    ap (λ ds. slice_get ds c.args.index) (sym values) ∙ slice_get-get_or inside.depths.items c.args.index c.index.result.now within ∙ ap Some
    (sym c.index.ensures)

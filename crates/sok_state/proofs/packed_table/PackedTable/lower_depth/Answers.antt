use Rattle.std.proofs.Common.{true, false, ◌∙◌, subst, arith, slice_set}
use Rattle.std.proofs.lemmas.List.{get_or_default}
use Rattle.sok_state.specs.PackedKeys.{Stored, entries_of}
use Rattle.sok_state.specs.Tables.{Lowers}
use Rattle.sok_state.proofs.PackedTables.{depth-within, Lowers-packed, Lowers-kept}
use Rattle.sok_state.proofs.packed_table.PackedTable.lower_depth.Goals as goal

pub index-requires : goal.index-requires
index-requires g c =
    let within = depth-within g.K.Packed.state_of g.K.Packed.fits c.self.inside.keys.keys c.self.inside.depths.items c.self.invariant _ c.args.index c.self.view_is c.requires.exists in
    omega (arith, within)

pub index_mut-requires : goal.index_mut-requires
index_mut-requires g c =
    let within = depth-within g.K.Packed.state_of g.K.Packed.fits c.self.inside.keys.keys c.self.inside.depths.items c.self.invariant _ c.args.index c.self.view_is c.requires.exists in
    omega (arith, within)

pub returns-then-depth-index-clause-lowered : goal.returns-then-depth-index-clause-lowered
returns-then-depth-index-clause-lowered g c =
    let keys = c.self.inside.keys.keys in
    let depths = c.self.inside.depths.items in
    let index = c.args.index in
    let long = c.self.invariant.a_depth_each in
    let within = depth-within g.K.Packed.state_of g.K.Packed.fits keys depths c.self.invariant _ index c.self.view_is c.requires.exists in
    let deep = c.index.ensures ∙ get_or_default depths index c.index.result.now 0 within in
    let below = c.if-depth-index.true in
    subst (λ (table : Stored). Lowers table.entries index c.args.depth true (entries_of g.K.Packed.state_of keys (slice_set depths index c.args.depth))) c.self.view_is
    (Lowers-packed g.K.Packed.state_of g.K.Packed.fits keys depths c.self.invariant index c.args.depth (omega (arith, within, long)) (omega (arith, deep, below)))

pub returns-clause-lowered : goal.returns-clause-lowered
returns-clause-lowered g c =
    let keys = c.self.inside.keys.keys in
    let depths = c.self.inside.depths.items in
    let index = c.args.index in
    let within = depth-within g.K.Packed.state_of g.K.Packed.fits keys depths c.self.invariant _ index c.self.view_is c.requires.exists in
    let deep = c.index.ensures ∙ get_or_default depths index c.index.result.now 0 within in
    let above = c.if-depth-index.false in
    subst (λ (table : Stored). Lowers table.entries index c.args.depth false table.entries) c.self.view_is
    (Lowers-kept g.K.Packed.state_of g.K.Packed.fits keys depths c.self.invariant index c.args.depth (omega (arith, deep, above)))

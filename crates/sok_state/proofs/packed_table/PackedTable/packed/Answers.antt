use Rattle.std.proofs.Common.{◌≡◌, ap, sym, ◌∙◌, subst, arith, length, slice_get, Some}
use Rattle.std.specs.Option.{option_copied}
use Rattle.sok_state.specs.PackedKeys.{Stored}
use Rattle.sok_state.specs.Tables.{IsAt}
use Rattle.sok_state.proofs.PackedTables.{length-entries_of, IsAt-packed}
use Rattle.sok_state.proofs.packed_table.PackedTable.packed.Goals as goal

pub unwrap-requires : goal.unwrap-requires
unwrap-requires g c =
    let inside = c.self.inside in
    let all = length-entries_of g.K.Packed.state_of inside.keys.keys inside.depths.items c.self.invariant.a_depth_each in
    let seen = ap (λ (table : Stored). length table.entries) c.self.view_is in
    let within = c.requires.exists in
    c.get_index.ensures.found.1 (omega (arith, all, seen, within))

pub returns-clause-there : goal.returns-clause-there
returns-clause-there g c =
    let inside = c.self.inside in
    let key = c.unwrap.result.now in
    let at : slice_get inside.keys.keys c.args.index ≡ Some key = sym c.get_index.ensures.key ∙ ap option_copied c.unwrap.ensures in
    subst (λ (table : Stored). IsAt table.entries (g.K.Packed.state_of key) c.args.index) c.self.view_is
    (IsAt-packed g.K.Packed.state_of g.K.Packed.fits inside.keys.keys inside.depths.items c.self.invariant key c.args.index at)

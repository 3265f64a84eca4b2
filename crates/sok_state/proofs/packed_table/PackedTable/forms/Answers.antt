use Rattle.std.proofs.Common.{◌≡◌, subst, Contains}
use Rattle.std.specs.Map.{keys_of}
use Rattle.sok_state.specs.declared.key.Key.{Key}
use Rattle.sok_state.specs.PackedKeys.{Stored}
use Rattle.sok_state.proofs.PackedTables.{forms}
use Rattle.sok_state.proofs.packed_table.PackedTable.forms.Goals as goal

pub returns : goal.returns
returns g c =
    let inside = c.self.inside in
    subst (λ (table : Stored). (key : Key) → Contains (keys_of table.entries) key → (form : _) × g.K.Packed.fits form × (g.K.Packed.state_of form ≡ key)) c.self.view_is
    (forms g.K.Packed.state_of g.K.Packed.fits inside.keys.keys inside.depths.items c.self.invariant)

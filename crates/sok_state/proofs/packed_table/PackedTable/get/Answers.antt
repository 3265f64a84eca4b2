use Rattle.std.proofs.Common.{subst, Contains, MatchOption}
use Rattle.std.specs.Map.{keys_of}
use Rattle.sok_state.specs.declared.key.Key.{Key}
use Rattle.sok_state.specs.Tables.{IsAt}
use Rattle.sok_state.proofs.packed_table.PackedTable.get.Goals as goal

pub returns : goal.returns
returns g c =
    subst (λ (key : Key). MatchOption c.find.result (Contains (keys_of c.args.self.now.entries) key → ⊥) (IsAt c.args.self.now.entries key))
    c.of.ensures.state c.find.ensures

use Rattle.std.proofs.Common.{ℕ, ◌≡◌, ◌++◌, ◌∷◌, [], true, false, ap, sym, ◌∙◌, subst, List, slice_get, if◌then◌else◌, Contains, None, Some}
use Rattle.std.specs.Map.{keys_of}
use Rattle.std.specs.List.{list_any}
use Rattle.std.proofs.lemmas.Bool.{not-false, not-true}
use Rattle.sok_state.specs.PackedKeys.{ArePacked, Stored, entries_of}
use Rattle.sok_state.specs.Tables.{Enters, GoesLast, IsAt, Stays}
use Rattle.sok_state.proofs.PackedTables.{on_err, ArePacked-more, GoesLast-packed, Stays-packed, absent-packed, found-packed}
use Rattle.sok_state.proofs.packed_table.PackedTable.enter.Goals as goal

pub invariant_of-self-then-new : goal.invariant_of-self-then-new
invariant_of-self-then-new g c =
    let keys : List _ = c.self.inside.keys.keys in
    let depths : List ℕ = c.self.inside.depths.items in
    let key = c.args.key in
    let none : list_any (g.K.PartialEq.eq key) keys ≡ false = not-true (list_any (g.K.PartialEq.eq key) keys) (sym c.in_ok-index.ensures.added ∙ c.if-new.true) in
    let new_keys : c.insert_full.new.self.keys ≡ keys ++ key ∷ [] = c.in_ok-index.ensures.keys ∙ ap (λ t. if t then keys else keys ++ key ∷ []) none in
    let new_depths : c.push_reserved.new.self.items ≡ depths ++ c.args.depth ∷ [] = ◌∙◌ {A = List ℕ} c.push_reserved.ensures.items
    (ap (λ (ds : List ℕ). ds ++ c.args.depth ∷ []) c.reserve.ensures.items) in
    subst (λ ks. ArePacked g.K.Packed.state_of g.K.Packed.fits ks c.push_reserved.new.self.items) (sym new_keys) (subst (λ ds. ArePacked g.K.Packed.state_of g.K.Packed.fits (keys ++ key ∷ []) ds) (sym new_depths)
    (ArePacked-more g.K.Packed.state_of g.K.Packed.fits keys depths c.self.invariant key c.args.depth c.requires.fits c.requires.few))

pub returns-in_default-clause-refused_new : goal.returns-in_default-clause-refused_new
returns-in_default-clause-refused_new g c =
    subst (λ (table : Stored). Contains (keys_of table.entries) (g.K.Packed.state_of c.args.key) → ⊥) c.self.view_is
    (found-packed g.K.Packed.state_of g.K.Packed.fits c.self.inside.keys.keys c.self.inside.depths.items c.self.invariant _ g.met.K.Packed.tells c.args.key None c.requires.fits
    (sym c.in_default.is ∙ c.get_index_of.ensures.index))

pub returns-then-is_err-clause-inserted : goal.returns-then-is_err-clause-inserted
returns-then-is_err-clause-inserted g c =
    let at = found-packed g.K.Packed.state_of g.K.Packed.fits c.self.inside.keys.keys c.self.inside.depths.items c.self.invariant _ g.met.K.Packed.tells c.args.key (Some c.in-Some.index)
    c.requires.fits (sym c.in-Some.is ∙ c.get_index_of.ensures.index) in
    record {
      there = subst (λ (table : Stored). IsAt table.entries (g.K.Packed.state_of c.args.key) c.in-Some.index) c.self.view_is at;
      unchanged = ap (entries_of g.K.Packed.state_of c.self.inside.keys.keys) c.reserve.ensures.items ∙ (λ i. (c.self.view_is i).entries);
    }

pub returns-in_err-index-clause-refused_new : goal.returns-in_err-index-clause-refused_new
returns-in_err-index-clause-refused_new g c = on_err (Contains (keys_of c.args.self.now.entries) (g.K.Packed.state_of c.args.key) → ⊥) c.from_residual.result
    (subst (λ (table : Stored). Contains (keys_of table.entries) (g.K.Packed.state_of c.args.key) → ⊥) c.self.view_is
    (absent-packed g.K.Packed.state_of g.K.Packed.fits c.self.inside.keys.keys c.self.inside.depths.items c.self.invariant _ g.met.K.Packed.tells c.args.key c.requires.fits
    c.in_err-index.ensures.absent))

pub returns-then-new-clause-inserted : goal.returns-then-new-clause-inserted
returns-then-new-clause-inserted g c =
    let keys : List _ = c.self.inside.keys.keys in
    let depths : List ℕ = c.self.inside.depths.items in
    let key = c.args.key in
    let depth = c.args.depth in
    let index = c.in_ok-index.index in
    let none : list_any (g.K.PartialEq.eq key) keys ≡ false = not-true (list_any (g.K.PartialEq.eq key) keys) (sym c.in_ok-index.ensures.added ∙ c.if-new.true) in
    let new_keys : c.insert_full.new.self.keys ≡ keys ++ key ∷ [] = c.in_ok-index.ensures.keys ∙ ap (λ t. if t then keys else keys ++ key ∷ []) none in
    let new_depths : c.push_reserved.new.self.items ≡ depths ++ c.args.depth ∷ [] = ◌∙◌ {A = List ℕ} c.push_reserved.ensures.items
    (ap (λ (ds : List ℕ). ds ++ depth ∷ []) c.reserve.ensures.items) in
    let last = GoesLast-packed g.K.Packed.state_of g.K.Packed.fits keys depths c.self.invariant _ g.met.K.Packed.tells key depth index c.requires.fits none
    c.in_ok-index.ensures.index in
    let seen : GoesLast c.args.self.now.entries (g.K.Packed.state_of key) depth index (entries_of g.K.Packed.state_of c.insert_full.new.self.keys c.push_reserved.new.self.items) =
    subst (λ ks. GoesLast c.args.self.now.entries (g.K.Packed.state_of key) depth index (entries_of g.K.Packed.state_of ks c.push_reserved.new.self.items)) (sym new_keys)
    (subst (λ ds. GoesLast c.args.self.now.entries (g.K.Packed.state_of key) depth index (entries_of g.K.Packed.state_of (keys ++ key ∷ []) ds)) (sym new_depths)
    (subst (λ (table : Stored). GoesLast table.entries (g.K.Packed.state_of key) depth index (entries_of g.K.Packed.state_of (keys ++ key ∷ []) (depths ++ depth ∷ []))) c.self.view_is last)) in
    subst (λ t. Enters c.args.self.now.entries (g.K.Packed.state_of key) depth index t (entries_of g.K.Packed.state_of c.insert_full.new.self.keys c.push_reserved.new.self.items))
    (sym c.if-new.true) seen

pub returns-else-new-clause-inserted : goal.returns-else-new-clause-inserted
returns-else-new-clause-inserted g c =
    let keys : List _ = c.self.inside.keys.keys in
    let depths : List ℕ = c.self.inside.depths.items in
    let key = c.args.key in
    let index = c.in_ok-index.index in
    let some : list_any (g.K.PartialEq.eq key) keys ≡ true = not-false (list_any (g.K.PartialEq.eq key) keys) (sym c.in_ok-index.ensures.added ∙ c.if-new.false) in
    let same_keys : c.insert_full.new.self.keys ≡ keys = c.in_ok-index.ensures.keys ∙ ap (λ t. if t then keys else keys ++ key ∷ []) some in
    let (stored, there, equal) = c.in_ok-index.ensures.stored in
    let stays = Stays-packed g.K.Packed.state_of g.K.Packed.fits keys depths c.self.invariant _ g.met.K.Packed.tells key stored index c.requires.fits (ap (λ ks. slice_get ks index) (sym same_keys) ∙ there) equal in
    let seen : Stays c.args.self.now.entries (g.K.Packed.state_of key) index (entries_of g.K.Packed.state_of c.insert_full.new.self.keys c.reserve.new.self.items) =
    subst (λ ks. Stays c.args.self.now.entries (g.K.Packed.state_of key) index (entries_of g.K.Packed.state_of ks c.reserve.new.self.items)) (sym same_keys)
    (subst (λ ds. Stays c.args.self.now.entries (g.K.Packed.state_of key) index (entries_of g.K.Packed.state_of keys ds)) (sym {A = List ℕ} c.reserve.ensures.items)
    (subst (λ (table : Stored). Stays table.entries (g.K.Packed.state_of key) index (entries_of g.K.Packed.state_of keys depths)) c.self.view_is stays)) in
    subst (λ t. Enters c.args.self.now.entries (g.K.Packed.state_of key) c.args.depth index t (entries_of g.K.Packed.state_of c.insert_full.new.self.keys c.reserve.new.self.items))
    (sym c.if-new.false) seen

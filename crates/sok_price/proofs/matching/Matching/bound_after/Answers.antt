use Rattle.sok_price.proofs.Words.{All-contains, CanMove, Contains, IsWhole, KeptMatching, List, sym, ◌∙◌, arith, subst, ℕ, AreMoved, HasRoom, Holds}
use Rattle.sok_price.proofs.Words.{TellsLeast, ap, get_or, length, ◌≡◌}
use Rattle.sok_price.proofs.Sparing.{IsWhole-copied, HasWorth-whole, AreKept-moved, IsBounded-closed, TellsLeast-whole}
use Rattle.sok_price.proofs.matching.Matching.bound_after.Goals as goal
use Rattle.sok_price.proofs.matching.Matching.bound_after.Goals.{then-matched, else-matched}

pub row_of-row-requires : goal.row_of-row-requires
row_of-row-requires c =
    let can = subst (λ (kept : KeptMatching). CanMove kept c.args.from c.args.to) (sym c.self.view_is) c.requires.moves in
    subst (λ (rows : List ℕ). Contains rows c.args.from) (sym c.deref.ensures.value)
    (All-contains (Contains c.self.inside.rows.items) can.boxes c.args.from can.holds.exactly.each can.there)

pub exchange-matched-requires-clause-whole : goal.exchange-matched-requires-clause-whole
exchange-matched-requires-clause-whole c =
    let can = subst (λ (kept : KeptMatching). CanMove kept c.args.from c.args.to) (sym c.self.view_is) c.requires.moves in
    subst (λ (rows : List ℕ). IsWhole c.self.inside.costs rows c.copy_matching.new.to) (sym (c.copy_from_slice.ensures.items ∙ c.deref-2.ensures.value))
    (IsWhole-copied c.self.inside.costs c.self.inside.rows.items c.self.inside.search c.self.inside.trial c.copy_matching.new.to
    (c.self.invariant.whole can.holds.matched) c.self.invariant.trial_shaped c.copy_matching.ensures.copied)

pub exchange-matched-requires-clause-room : goal.exchange-matched-requires-clause-room
exchange-matched-requires-clause-room c =
    subst (λ n. HasRoom n c.copy_matching.new.to) (sym (ap (λ (rows : List ℕ). length rows) (c.copy_from_slice.ensures.items ∙ c.deref-2.ensures.value)))
    (c.copy_matching.ensures.copied.room (length c.self.inside.rows.items) c.self.invariant.trial_shaped.room)

pub worth-requires : goal.worth-requires
worth-requires c =
    let tried = c.exchange-matched in
    let is = tried.ensures.tells.whole c.if-matched.true in
    let moved = tried.ensures.moved in
    let square : length tried.new.rows.items ≡ c.self.inside.costs.goals =
    omega (arith, moved.whole, moved.kept, c.self.invariant.as_many, c.self.invariant.square, c.copy_from_slice.ensures.len) in
    HasWorth-whole is square

pub returns-clause-least : goal.returns-clause-least
returns-clause-least c = λ b boxes after holds moved exist rising.
    let own = c.self.inside in
    let can = subst (λ (kept : KeptMatching). CanMove kept c.args.from c.args.to) (sym c.self.view_is) c.requires.moves in
    let here = subst (Holds b boxes) (sym c.self.view_is) holds in
    let tried = c.exchange-matched in
    let row = c.row_of-row.result in
    let long = ap (λ (rows : List ℕ). length rows) c.deref.ensures.value in
    let before : KeptMatching = record { squares = own.squares; costs = own.costs; rows = own.rows.items; search = own.search; matched = own.matched } in
    let kept = AreKept-moved b before boxes after tried.new.rows.items row c.args.from c.args.to c.self.invariant.are_rows c.self.invariant.square here can
    (omega (arith, c.row_of-row.ensures.within, long))
    (ap (λ (rows : List ℕ). get_or rows row 0) (sym c.deref.ensures.value) ∙ c.row_of-row.ensures.row)
    (subst (λ rows. AreMoved row c.args.to rows tried.new.rows.items) (c.copy_from_slice.ensures.items ∙ c.deref-2.ensures.value) tried.ensures.moved)
    moved exist rising in
    elim c.if-matched.branch [
      | then-matched w ↦ subst (TellsLeast b after) (sym w.result-is) (TellsLeast-whole b own.costs tried.new.rows.items tried.new.search w.worth.result
          after kept (tried.ensures.tells.whole w.if-matched.true) w.worth.ensures)
      | else-matched w ↦ subst (TellsLeast b after) (sym w.result-is) (IsBounded-closed b own.costs tried.new.rows.items tried.new.search after kept
          tried.ensures.tells w.if-matched.false)
    ]

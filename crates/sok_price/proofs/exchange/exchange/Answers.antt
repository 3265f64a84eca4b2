use Rattle.sok_price.proofs.Words.{HasRoom, List, ap, arith, length, subst, ℕ, ◌≡◌}
use Rattle.sok_price.proofs.exchange.exchange.Goals as goal

pub match_all-requires-clause-room : goal.match_all-requires-clause-room
match_all-requires-clause-room c =
    let moved = c.open_row.ensures.moved in
    let long = ap (λ (rows : List ℕ). length rows) c.deref.ensures.value in
    let same : length c.args.rows.now.items ≡ length c.deref.result.now = omega (arith, moved.whole, moved.kept, long) in
    subst (λ n. HasRoom n c.open_row.new.search) same (c.open_row.ensures.room (length c.args.rows.now.items) c.requires.room)

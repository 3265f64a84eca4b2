use Rattle.sok_price.proofs.Words.{All, All-weaker, ap, arith, get_or, subst, sym, ◌≤◌, ◌∙◌}
use Rattle.sok_price.proofs.Sparing.{HasWorth-whole, IsFloor, less}
use Rattle.sok_price.proofs.Telling.{ArePrices-read}
use Rattle.sok_price.proofs.reading.read.Goals as goal

pub worth-total-requires : goal.worth-total-requires
worth-total-requires c = let (costs, is, square) = c.requires.whole in HasWorth-whole is square

pub returns : goal.returns
returns c = λ b costs kept is.
    let search = c.args.search.now in
    let m = c.lowest-floor.result in
    let floor : IsFloor m search.u.items search.v.items = record {
      below = subst (All (λ price. m ≤ price)) c.deref.ensures.value c.lowest-floor.ensures.bottom;
      most = λ k within all.
          let here = is.ready.low.boxes k 0 within in
          c.lowest-floor.ensures.most (get_or search.u.items k 0) (omega (arith, here, is.shaped.few, is.ready.bounded))
          (subst (All (λ price. get_or search.u.items k 0 ≤ price)) (sym c.deref.ensures.value) all);
    } in
    let limit : c.highest-2.result ≤ 1000000 = omega arith in
    ArePrices-read kept is c.worth-total.ensures floor c.in_ok-u.ensures (c.in_ok-v.ensures ∙ ap (less m) c.deref-2.ensures.value)
    (All-weaker (λ price. price ≤ c.highest.result) (λ price. price ≤ 1000000) (λ price bound. omega (arith, bound, c.highest-2.ensures.risen, limit))
    c.in_ok-u.u.items (subst (All (λ price. price ≤ c.highest.result)) c.deref-3.ensures.value c.highest.ensures.top))
    (All-weaker (λ price. price ≤ c.highest-2.result) (λ price. price ≤ 1000000) (λ price bound. omega (arith, bound, limit)) c.in_ok-v.v.items
    (subst (All (λ price. price ≤ c.highest-2.result)) c.deref-4.ensures.value c.highest-2.ensures.top))

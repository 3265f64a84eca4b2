use Rattle.sok_price.proofs.Words.{All, AreExactly, AreRows, arith, subst, sym, ◌<◌, AreCosts, IsWhole, Tells}
use Rattle.sok_price.proofs.{Exchanging.AreExactly-listed, Exchanging.AreRows-listed, Exchanging.AreSet-listed, Sparing.IsBounded-closed}
use Rattle.sok_price.proofs.settle.match_boxes.Goals as goal

pub returns-clause-kept : goal.returns-clause-kept
returns-clause-kept c =
    AreSet-listed c.requires.can.exist c.list_rows.ensures (sym c.settle.ensures.kept.whole) c.requires.can.costs_are c.requires.rising c.requires.can.entries

pub match_anew-requires-clause-costs : goal.match_anew-requires-clause-costs
match_anew-requires-clause-costs c =
    let set = AreSet-listed c.requires.can.exist c.list_rows.ensures (sym c.settle.ensures.kept.whole) c.requires.can.costs_are c.requires.rising
    c.requires.can.entries in
    subst (AreCosts c.args.costs.now) (sym c.deref.ensures.value) set.shaped

pub returns-clause-settled : goal.returns-clause-settled
returns-clause-settled c = λ yes. record {
  whole = subst (λ rows. IsWhole c.args.costs.now rows c.match_anew.new.search) c.deref.ensures.value (c.match_anew.ensures.tells.whole yes);
  low = omega (arith, c.match_anew.ensures.floor);
  exactly = AreExactly-listed c.requires.can.exist c.list_rows.ensures (omega (arith, c.settle.ensures.kept.whole, c.requires.enough));
}

pub returns-clause-crowd : goal.returns-clause-crowd
returns-clause-crowd c = λ no b area tabled.
    let boxes = c.args.boxes.now in
    let rows = c.list_rows.new.rows.items in
    let exactly = AreExactly-listed c.requires.can.exist c.list_rows.ensures (omega (arith, c.settle.ensures.kept.whole, c.requires.enough)) in
    IsBounded-closed b c.args.costs.now rows c.match_anew.new.search boxes (record {
      tabled = tabled;
      square = omega (arith, c.list_rows.ensures.whole, c.settle.ensures.kept.whole, c.requires.square);
      are_rows = subst (λ n. AreRows n rows) (sym area) (AreRows-listed c.requires.can.exist c.list_rows.ensures c.requires.rising);
      exactly = subst (λ n. AreExactly n rows boxes) (sym area) exactly;
      exist = subst (λ n. All (λ square. square < n) boxes) (sym area) c.requires.can.exist;
      rising = c.requires.rising;
    }) (subst (λ rows. Tells c.args.costs.now rows c.match_anew.new.search c.match_anew.result) c.deref.ensures.value c.match_anew.ensures.tells) no

use Rattle.sok_price.proofs.Words.{All, Contains, IsMatchedTo, IsWhole, List, ap, length, subst, sym, ◌∙◌, ℕ}
use Rattle.sok_price.specs.contracts.matching.Matching.{the_view}
use Rattle.sok_price.proofs.matching.Matching.assign.Goals as goal

-- the matching that is read is one of the boxes
matched : (c : goal.After-read-arg-1) → IsMatchedTo c.list-boxes.result.now (the_view c.self.inside)
matched c = subst (IsMatchedTo c.list-boxes.result.now) (sym c.self.view_is) (c.match_to.ensures.matched c.if-not-match_to.false)

pub read-requires-clause-whole : goal.read-requires-clause-whole
read-requires-clause-whole c =
    let own = c.self.inside in
    let is = matched c in (
      own.costs,
      subst (λ rows. IsWhole own.costs rows own.search) (sym c.deref.ensures.value) is.whole,
      ap (λ (rows : List ℕ). length rows) c.deref.ensures.value ∙ is.square,
    )

pub read-requires-clause-rows : goal.read-requires-clause-rows
read-requires-clause-rows c = subst (λ rows. All (Contains rows) c.list-boxes.result.now) (sym c.deref.ensures.value) (matched c).exactly.each

-- The answer to an offer.
use Rattle.std.specs.Prelude.{ℕ, ◌≡◌, List, Some, IsSomeAnd, false}
use Rattle.sok_rules.specs.declared.cell.Dir.{Dir}
use Rattle.sok_book.specs.Books.{Book, Page, Solution, page_at}
use Rattle.sok_book.specs.declared.record.Offer.TheVariants.{Kept}
use Rattle.sok_book.specs.Commands.{Offers, is_better}
use Rattle.sok_store.specs.declared.standing.Standing.{Standing}

-- letters are offered; the answer says what became of them, with the pushes and moves of the best solution after that
pub record OffersTelling (book : Book) (id : ℕ) (letters : List Dir) (told : Standing) (after : Book) : Type 0 where
  pub offered : Offers book id letters told.offer after
  pub best : Solution
  pub has : IsSomeAnd (page_at after id) (λ page. page.best ≡ Some best)
  pub pushes : told.pushes ≡ best.pushes
  pub moves : told.moves ≡ best.moves

-- a solution with this many pushes has no fewer than the best solution of a page, which the answer states
pub record StaysBest (page : Page) (pushed : ℕ) (told : Standing) : Type 0 where
  pub best : Solution
  pub has : page.best ≡ Some best
  pub worse : is_better pushed (Some best.pushes) ≡ false
  pub offer : told.offer ≡ Kept
  pub pushes : told.pushes ≡ best.pushes
  pub moves : told.moves ≡ best.moves

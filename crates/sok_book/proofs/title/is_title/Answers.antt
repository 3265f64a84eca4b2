use Rattle.std.proofs.lemmas.Bool.Decides.{Decides-eqb}
use Rattle.std.proofs.lemmas.Slice.Eq.{slice_eq-Decides}
use Rattle.sok_book.proofs.Titles.{none-from_kept, title-from_kept}
use Rattle.sok_book.proofs.title.is_title.Goals as goal

pub returns-in-Some : goal.returns-in-Some
returns-in-Some c =
    title-from_kept c.args.text.now c.in-Some.title.now c.eq.result c.in-Some.ensures
    (slice_eq-Decides Decides-eqb c.in-Some.title.now c.args.text.now c.eq.result c.eq.ensures)

pub returns-in-None : goal.returns-in-None
returns-in-None c = none-from_kept c.args.text.now c.in-None.ensures

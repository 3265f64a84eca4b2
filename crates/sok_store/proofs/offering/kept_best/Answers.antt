use Rattle.std.proofs.Common.{◌≡◌, sym, ◌∙◌, ap, refl, Some}
use Rattle.sok_book.specs.Books.{PageWithId, Solution}
use Rattle.sok_book.specs.Commands.{is_better}
use Rattle.sok_store.proofs.offering.kept_best.Goals as goal

pub returns-else-is_better : goal.returns-else-is_better
returns-else-is_better c =
    let best : c.kept.inside.best ≡ c.args.kept.now.page.best = ap (λ (k : PageWithId). k.page.best) c.kept.view_is in
    let pushes : c.there.inside.pushes ≡ c.in-Some.there.pushes = ap (λ (s : Solution). s.pushes) c.there.view_is in
    let moves : c.there.inside.moves ≡ c.in-Some.there.moves = ap (λ (s : Solution). s.moves) c.there.view_is in record {
      best = c.in-Some.there;
      has = sym best ∙ c.in-Some.is;
      worse = ap (λ n. is_better c.args.pushes (Some n)) (sym pushes) ∙ sym (λ i. is_better (c.from.ensures i) (Some (c.from-in-Some.ensures i)))
          ∙ sym c.if-is_better.ensures;
      offer = refl;
      pushes = pushes;
      moves = moves;
    }

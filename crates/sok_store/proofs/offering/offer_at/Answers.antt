use Rattle.std.proofs.Common.{◌≡◌, ◌⊎◌, ap, inl, subst}
use Rattle.sqlite.specs.Held.{state}
use Rattle.sok_book.specs.declared.fault.BookFault.TheVariants.{Memory}
use Rattle.sok_book.specs.declared.record.Offer.TheVariants.{Stored}
use Rattle.sok_book.specs.Books.{PageWithId}
use Rattle.sok_book.specs.Refusals.{IsNoSolution}
use Rattle.sok_store.specs.Changing.{HasBest}
use Rattle.sok_store.specs.Standing.{OffersTelling}
use Rattle.sok_store.proofs.Calls.{stops_none, stores_on}
use Rattle.sok_store.proofs.Offered.{offer_kept, offer_refused, offer_stored}
use Rattle.sok_store.proofs.Running.{Replaces, refused_runs, replaced_runs, unread_runs, unreplaced_runs}
use Rattle.sok_store.proofs.offering.offer_at.Given as given
use Rattle.sok_store.proofs.offering.offer_at.Goals as goal
use Rattle.sok_store.proofs.offering.offer_at.Goals.{In-None}

pub returns-in-Err-clause-runs : goal.returns-in-Err-clause-runs
returns-in-Err-clause-runs g c =
    unread_runs (state g.S.Store c.args.conn.now) (state g.S.Store c.read_record.new.conn) _ _ _ c.args.id c.in-Err.fault c.in-Err.ensures (λ book none. none)

pub returns-in-Err-best_columns-clause-runs : goal.returns-in-Err-best_columns-clause-runs
returns-in-Err-best_columns-clause-runs g c =
    let refused = c.in-Err-best_columns in
    let level : c.kept.inside.level ≡ c.in-Ok.kept.page.level = ap (λ (k : PageWithId). k.page.level) c.kept.view_is in
    refused_runs (state g.S.Store c.args.conn.now) (state g.S.Store c.read_record.new.conn) _ _ _ c.args.id refused.fault c.in-Ok.kept c.in-Ok.ensures
    (offer_refused c.args.id c.args.letters.now c.in-Ok.kept.page refused.fault
    (subst (λ rows. (refused.fault ≡ Memory) ⊎ IsNoSolution rows c.args.letters.now refused.fault) level refused.ensures.refused))

pub returns-in-Some-clause-runs : goal.returns-in-Some-clause-runs
returns-in-Some-clause-runs g c =
    let old = state g.S.Store c.args.conn.now in
    let mid = state g.S.Store c.read_record.new.conn in
    let best = c.in-Ok-best_columns in
    let level = ap (λ (k : PageWithId). k.page.level) c.kept.view_is in
    record {
      done = offer_kept c.in-Ok.kept.page c.args.letters.now best.best c.kept.inside.level level best.ensures.are best.ensures.kept old mid c.args.id
          c.in-Ok.kept.id c.in-Some.told c.in-Ok.ensures c.in-Some.ensures;
      refused = tt;
      stop = stops_none old mid _ c.in-Ok.ensures.stop;
      cause = tt;
    }

-- a better one is stored
stored : (g : given.Over) (c : In-None g)
    → Replaces c.args.id c.in-Ok.kept.page (λ told book after. OffersTelling book c.args.id c.args.letters.now told after)
    (record { offer = Stored; pushes = c.in-Ok-best_columns.best.pushes; moves = c.in-Ok-best_columns.best.moves }) (HasBest c.in-Ok-best_columns.best)
stored g c =
    let best = c.in-Ok-best_columns in
    offer_stored c.in-Ok.kept.page c.args.letters.now best.best c.kept.inside.level (ap (λ (k : PageWithId). k.page.level) c.kept.view_is) best.ensures.are
    best.ensures.kept c.args.id c.in-None.ensures

pub returns-in-Ok-store_best-clause-runs : goal.returns-in-Ok-store_best-clause-runs
returns-in-Ok-store_best-clause-runs g c =
    replaced_runs (stored g (goal.at.returns-in-Ok-store_best-clause-runs g c).In-None) _ _ _ c.in-Ok.ensures _ _ c.in-Ok-store_best.ensures

pub returns-clause-runs : goal.returns-clause-runs
returns-clause-runs g c =
    unreplaced_runs (stored g (goal.at.returns-clause-runs g c).In-None) _ _ _ c.in-Ok.ensures _ _ c.in-Err-store_best.ensures

pub returns-in-Err-clause-shows : goal.returns-in-Err-clause-shows
returns-in-Err-clause-shows g c = c.in-Err.ensures.shows

pub returns-in-Err-best_columns-clause-shows : goal.returns-in-Err-best_columns-clause-shows
returns-in-Err-best_columns-clause-shows g c =
    stores_on (state g.S.Store c.args.conn.now) (state g.S.Store c.read_record.new.conn) c.in-Err-best_columns.fault
    (λ clean book holds. (c.in-Ok.ensures.found clean book holds).1)

pub returns-clause-shows : goal.returns-clause-shows
returns-clause-shows g c = inl c.in-Err-store_best.ensures.outside

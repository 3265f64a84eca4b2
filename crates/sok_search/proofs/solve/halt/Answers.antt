use Rattle.std.proofs.Common.{[], length, refl, subst, sym, true≢false}
use Rattle.sok_search.specs.Findings.{claim_of}
use Rattle.sok_search.specs.Finished.{AreDone, AreFirstEntries}
use Rattle.sok_search.specs.Views.{progress_of}
use Rattle.sok_search.proofs.Certified.{done-beaten, done-least}
use Rattle.sok_search.proofs.Concluding.{and-none, certifies, cut-short, fewer-beaten, fits-claim, no-fewer, not-beaten, shown-least, wanted-not, wanted-so}
use Rattle.sok_search.proofs.solve.halt.Goals as goal
use Rattle.sok_search.proofs.solve.halt.Goals.{else-wanted, then-wanted+in_ok-certify-2}

pub least_open-at_least-requires : goal.least_open-at_least-requires
least_open-at_least-requires g c = (c.args.setting.now.board.now, (c.args.limit, c.requires.cut.search))

pub certify-requires-clause-done : goal.certify-requires-clause-done
certify-requires-clause-done g c = subst (λ claim. AreDone c.args.setting.now.board.now claim (progress_of c.args.search.now)) (sym c.claim_of-claim.ensures)
    (done-beaten c.args.setting.now.board.now c.args.limit (progress_of c.args.search.now) c.least_open-at_least.result c.requires.cut.search
    c.least_open-at_least.ensures c.args.search.now.aim.upper (and-none c.args.search.now.aim.upper _ (c.if-is_beaten.ensures.0 refl)))

pub certify-requires-then-wanted-clause-done : goal.certify-requires-then-wanted-clause-done
certify-requires-then-wanted-clause-done g c = done-least c.args.setting.now.board.now c.args.limit (progress_of c.args.search.now) _ c.requires.cut.search
    c.least_open-at_least.ensures.below

pub returns-then-is_beaten : goal.returns-then-is_beaten
returns-then-is_beaten g c =
    let b = c.args.setting.now.board.now in
    let p = progress_of c.args.search.now in
    let upper = c.args.search.now.aim.upper in
    let taken = c.in_ok-certify.ensures in (
      taken.entries,
      taken.took,
      no-fewer b c.requires.accepted c.args.limit p c.requires.cut.search c.least_open-at_least.result c.least_open-at_least.ensures upper refl
          (and-none upper _ (c.if-is_beaten.ensures.0 refl)),
      certifies b c.requires.accepted c.args.limit p c.requires.cut.search c.requires.whole (claim_of upper) taken.entries (fits-claim upper c.requires.fits)
          (subst (λ claim. AreFirstEntries b claim p (length p.table) taken.entries) c.claim_of-claim.ensures taken.first) taken.fit,
    )

pub returns : goal.returns
returns g c =
    let b = c.args.setting.now.board.now in
    let p = progress_of c.args.search.now in
    let cut = c.requires.cut in
    let upper = c.args.search.now.aim.upper in
    let least = c.least_open-at_least.result in
    let fewer = not-beaten upper least (λ beaten. true≢false (sym (c.if-is_beaten.ensures.1 beaten))) in (
      cut-short b c.requires.accepted c.args.limit p cut.search cut.more least c.least_open-at_least.ensures upper refl (fewer-beaten upper least fewer),
      fewer,
      elim c.if-wanted.branch [
        | then-wanted+in_ok-certify-2 w ↦
            let taken = w.in_ok-certify-2.ensures in
            wanted-so _ _ c.args.wanted w.if-wanted.true (
              taken.entries,
              subst (g.C.Entries.took taken.entries) (sym w.entries-is) taken.took,
              shown-least b c.requires.accepted c.args.limit p cut.search cut.more least c.least_open-at_least.ensures c.requires.whole
                  taken.entries taken.first taken.fit,
            )
        | else-wanted w ↦ wanted-not _ _ c.args.wanted w.if-wanted.false (subst (g.C.Entries.took []) (sym w.entries-is) c.requires.none)
      ],
    )

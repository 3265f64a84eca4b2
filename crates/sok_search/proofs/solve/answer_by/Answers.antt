use Rattle.std.proofs.Common.{◌≡◌, ◌≤◌, ap, Err, IfOk, IfSome, refl, subst, sym, true}
use Rattle.sok_cert.specs.Text.{number_limit}
use Rattle.sok_search.specs.declared.aim.Aim.{Aim}
use Rattle.sok_search.specs.Findings.{IsFindingWithProof}
use Rattle.sok_search.proofs.solve.answer_by.Goals as goal

pub conclude-requires-clause-search : goal.conclude-requires-clause-search
conclude-requires-clause-search g c = (c.args.limit, c.in-Ok.ensures.searched.search, c.requires.small)

pub conclude-requires-clause-whole : goal.conclude-requires-clause-whole
conclude-requires-clause-whole g c = subst (λ (aim : Aim). aim.whole ≡ true) (sym c.in-Ok.ensures.searched.aim_is) c.requires.whole

pub conclude-requires-clause-fits : goal.conclude-requires-clause-fits
conclude-requires-clause-fits g c = subst (λ (aim : Aim). IfSome aim.upper (λ k. k ≤ number_limit)) (sym c.in-Ok.ensures.searched.aim_is) c.requires.fits

pub conclude-requires-clause-finished : goal.conclude-requires-clause-finished
conclude-requires-clause-finished g c = c.in-Ok.ensures.searched.empty

pub returns-in-Ok : goal.returns-in-Ok
returns-in-Ok g c = subst (λ (aim : Aim). IfOk c.conclude.result
    (IsFindingWithProof (λ taken. g.C.Entries.took taken c.conclude.new.entries) c.args.board.now.rows c.args.limit c.args.wanted aim.upper))
    c.in-Ok.ensures.searched.aim_is (c.conclude.ensures c.args.limit c.args.wanted c.in-Ok.ensures.searched.search)

pub halt-requires-clause-whole : goal.halt-requires-clause-whole
halt-requires-clause-whole g c =
    let left = c.in-Err-Cut.ensures.cut (ap Err c.in-Err-Cut.field-0-is) in
    subst (λ (aim : Aim). aim.whole ≡ true) (sym left.aim_is) c.requires.whole

pub halt-requires-clause-fits : goal.halt-requires-clause-fits
halt-requires-clause-fits g c =
    let left = c.in-Err-Cut.ensures.cut (ap Err c.in-Err-Cut.field-0-is) in
    subst (λ (aim : Aim). IfSome aim.upper (λ k. k ≤ number_limit)) (sym left.aim_is) c.requires.fits

pub halt-requires-clause-cut : goal.halt-requires-clause-cut
halt-requires-clause-cut g c =
    let left = c.in-Err-Cut.ensures.cut (ap Err c.in-Err-Cut.field-0-is) in
    record { more = left.more; search = left.search; aim_is = refl }

pub returns-in-Err-Cut : goal.returns-in-Err-Cut
returns-in-Err-Cut g c =
    let left = c.in-Err-Cut.ensures.cut (ap Err c.in-Err-Cut.field-0-is) in
    subst (λ (aim : Aim). IfOk c.halt.result
    (IsFindingWithProof (λ taken. g.C.Entries.took taken c.halt.new.entries) c.args.board.now.rows c.args.limit c.args.wanted aim.upper))
    left.aim_is c.halt.ensures

use Rattle.std.proofs.Common.{◌+◌, arith, refl, subst, sym, true≢false}
use Rattle.sok_search.specs.Searches.{IsBeaten}
use Rattle.sok_search.specs.Views.{progress_of}
use Rattle.sok_search.proofs.Concluding.{and-none, below-states, best-beaten, best-none, least-solution, no-better, not-beaten}
use Rattle.sok_search.proofs.solve.find_in.Goals as goal
use Rattle.sok_search.proofs.solve.find_in.Goals.{Then-is_beaten}

pub returns-in_default-clause-best : goal.returns-in_default-clause-best
returns-in_default-clause-best c = best-none c.args.board.now c.requires.accepted c.requires.search.0 (progress_of c.args.search.now) c.requires.search.1
    c.requires.finished c.args.search.now.aim.upper refl c.in_default.is

pub returns-in_default-clause-finding : goal.returns-in_default-clause-finding
returns-in_default-clause-finding c = λ limit search.
    let p = progress_of c.args.search.now in
    no-better c.args.board.now c.requires.accepted limit p search c.requires.finished
    (best-none c.args.board.now c.requires.accepted limit p search c.requires.finished c.args.search.now.aim.upper refl c.in_default.is)

-- as many pushes as the solution has that is known
beaten_in : (c : Then-is_beaten) → IsBeaten c.args.search.now.aim.upper c.in-Some.pushes
beaten_in c = and-none c.args.search.now.aim.upper c.in-Some.pushes (c.if-is_beaten.ensures.0 refl)

pub returns-then-is_beaten-clause-best : goal.returns-then-is_beaten-clause-best
returns-then-is_beaten-clause-best c = best-beaten c.args.board.now c.requires.accepted c.requires.search.0 (progress_of c.args.search.now) c.requires.search.1
    c.requires.finished c.in-Some.pushes c.in-Some.is c.args.search.now.aim.upper refl (beaten_in ((goal.at.returns-then-is_beaten-clause-best c).Then-is_beaten))

pub returns-then-is_beaten-clause-finding : goal.returns-then-is_beaten-clause-finding
returns-then-is_beaten-clause-finding c = λ limit search.
    let p = progress_of c.args.search.now in
    no-better c.args.board.now c.requires.accepted limit p search c.requires.finished
    (best-beaten c.args.board.now c.requires.accepted limit p search c.requires.finished c.in-Some.pushes c.in-Some.is c.args.search.now.aim.upper refl
    (beaten_in ((goal.at.returns-then-is_beaten-clause-finding c).Then-is_beaten)))

-- a solution with fewer is one of the search
pub solution-requires-clause-own : goal.solution-requires-clause-own
solution-requires-clause-own c = λ beside.
    let beaten : IsBeaten c.args.search.now.aim.upper (c.in-Some.pushes + 0) = subst (λ o. IsBeaten o (c.in-Some.pushes + 0)) (sym beside) (omega arith) in
    true≢false (sym (c.if-is_beaten.ensures.1 beaten))

pub returns-clause-finding : goal.returns-clause-finding
returns-clause-finding c = λ limit search.
    let p = progress_of c.args.search.now in
    let below = below-states c.args.board.now c.requires.accepted limit p search c.requires.finished c.in-Some.pushes c.in_ok-dirs.dirs.items c.in-Some.is
    c.in_ok-dirs.ensures in
    let few = search.few in (
      least-solution c.args.board.now c.requires.accepted limit p search c.requires.finished c.in-Some.pushes c.in_ok-dirs.dirs.items c.in-Some.is
          c.in_ok-dirs.ensures,
      omega (arith, below, few),
      not-beaten c.args.search.now.aim.upper c.in-Some.pushes (λ beaten. true≢false (sym (c.if-is_beaten.ensures.1 beaten))),
    )

pub returns-clause-best : goal.returns-clause-best
returns-clause-best c = (
  c.in-Some.is,
  below-states c.args.board.now c.requires.accepted c.requires.search.0 (progress_of c.args.search.now) c.requires.search.1 c.requires.finished
      c.in-Some.pushes c.in_ok-dirs.dirs.items c.in-Some.is c.in_ok-dirs.ensures,
)

use Rattle.std.proofs.Common.{sym, subst, ◌∙◌, arith, true≢false, IfSome, IsSome, Contains, ◌↔◌}
use Rattle.std.proofs.lemmas.Result.{IfOk-weaker}
use Rattle.sok_board.specs.Graphs.{TellsLetters}
use Rattle.sok_field.specs.Numbers.{has_number}
use Rattle.sok_region.specs.Paths.{paths}
use Rattle.sok_region.specs.Regions.{IsLeastWalk, IsRegion, IsWalkBetween, squares_of}
use Rattle.sok_region.proofs.Regions.{walks-exactly, walks-least, walks-legally}
use Rattle.sok_region.proofs.region.Region.walk.Goals.{then-to-squares-via-then-to-squares, then-to-squares-via-else-to-squares+then-not-has}
use Rattle.sok_region.proofs.region.Region.walk.Goals as goal

pub invariant_of-letters_to : goal.invariant_of-letters_to
invariant_of-letters_to c = record { exists = ((c.requires.own.is.exact c.args.from).0 (c.has.ensures.0 c.if-not-has.false)).0 }

pub returns-then-to-squares-clause-exact : goal.returns-then-to-squares-clause-exact
returns-then-to-squares-clause-exact c = (
  λ some. absurd (true≢false (sym some)),
  λ (here, there). elim c.then-to-squares.branch [
    | then-to-squares-via-then-to-squares w ↦
        let within = ((c.requires.own.is.exact c.args.to).0 there).0 in
        absurd (omega (arith, within, w.if-to-squares.true, c.squares.ensures.count))
    | then-to-squares-via-else-to-squares+then-not-has w ↦ absurd (true≢false (sym (w.has.ensures.1 here) ∙ w.if-not-has.true))
  ],
)

pub returns-clause-exact : goal.returns-clause-exact
returns-clause-exact c =
    let b = c.args.board.now in
    let words = c.self.inside.words in
    let accepted = c.squares.ensures.accepted in
    let here : Contains (squares_of words) c.args.from = subst (λ squares. Contains squares c.args.from) (sym c.self.view_is)
    (c.has.ensures.0 c.if-not-has.false) in
    let region = subst (IsRegion b c.requires.own.boxes c.requires.own.player) (sym c.self.view_is) c.requires.own.is in
    IfOk-weaker c.letters_to.result (TellsLetters (paths b (has_number words) c.args.from) c.args.to)
    (λ walk. IsSome walk ↔ (Contains c.args.self.now c.args.from × Contains c.args.self.now c.args.to))
    (λ walk tells. subst (λ squares. IsSome walk ↔ (Contains squares c.args.from × Contains squares c.args.to)) c.self.view_is
    (walks-exactly b c.requires.own.boxes c.requires.own.player words accepted.proper accepted.numbered region c.args.from c.args.to here walk tells))
    c.letters_to.ensures

pub returns-clause-legal : goal.returns-clause-legal
returns-clause-legal c = λ boxes player region.
    let b = c.args.board.now in
    let words = c.self.inside.words in
    let accepted = c.squares.ensures.accepted in
    IfOk-weaker c.letters_to.result (TellsLetters (paths b (has_number words) c.args.from) c.args.to)
    (λ walk. IfSome walk (λ w. IsWalkBetween b boxes c.args.from c.args.to w.items))
    (walks-legally b boxes player words accepted.proper accepted.numbered (subst (IsRegion b boxes player) (sym c.self.view_is) region) c.args.from c.args.to)
    c.letters_to.ensures

pub returns-clause-shortest : goal.returns-clause-shortest
returns-clause-shortest c = λ boxes player region.
    let words = c.self.inside.words in
    let own = subst (IsRegion c.args.board.now boxes player) (sym c.self.view_is) region in
    let here = subst (λ squares. Contains squares c.args.from) (sym c.self.view_is) (c.has.ensures.0 c.if-not-has.false) in
    let accepted = c.squares.ensures.accepted in
    IfOk-weaker c.letters_to.result (TellsLetters (paths c.args.board.now (has_number words) c.args.from) c.args.to)
    (λ walk. IfSome walk (λ w. IsLeastWalk c.args.board.now boxes c.args.from c.args.to w.items))
    (walks-least c.args.board.now boxes player words accepted.proper accepted.numbered own c.args.from c.args.to here) c.letters_to.ensures

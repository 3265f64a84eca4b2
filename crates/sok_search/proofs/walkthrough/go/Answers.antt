use Rattle.std.proofs.Common.{◌≡◌, ◌∙◌, ◌++◌, ◌∷◌, [], Some, ap, is_some, subst, sym}
use Rattle.std.specs.Option.{IfSome}
use Rattle.sok_rules.specs.Squares.{opposite}
use Rattle.sok_board.specs.Area.{beside}
use Rattle.sok_region.specs.Regions.{IsWalkBetween}
use Rattle.sok_search.proofs.Walkthroughs.{behind-is, behind_comes, goes-on, player-comes}
use Rattle.sok_search.proofs.walkthrough.go.Goals as goal

pub of-requires : goal.of-requires
of-requires c = c.requires.key.is.placed

pub unwrap-behind-requires : goal.unwrap-behind-requires
unwrap-behind-requires c =
    let b = c.args.board.now in
    let push = c.args.push in
    let accepted = c.neighbour.ensures.accepted in
    ap is_some (c.neighbour.ensures.beside ∙ ap (beside b push.from) c.opposite.ensures
    ∙ behind-is b accepted c.args.key.now c.in_ok-region.region c.in_ok-region.ensures.region push c.requires.legal)

pub walk-requires : goal.walk-requires
walk-requires c = record { own = record { boxes = c.args.key.now.boxes; player = c.args.key.now.least; is = c.in_ok-region.ensures.region } }

pub unwrap-walk-requires : goal.unwrap-walk-requires
unwrap-walk-requires c =
    let b = c.args.board.now in
    let key = c.args.key.now in
    let push = c.args.push in
    let accepted = c.neighbour.ensures.accepted in
    let region = c.in_ok-region.region in
    let behind_is : beside b push.from (opposite push.dir) ≡ Some c.unwrap-behind.result = ap (beside b push.from) (sym c.opposite.ensures)
    ∙ sym c.neighbour.ensures.beside ∙ c.unwrap-behind.ensures in
    c.in_ok-walk.ensures.exact.1 (
      player-comes b accepted key region c.in_ok-region.ensures.region push c.requires.legal c.args.player c.requires.exists c.requires.same,
      behind_comes b accepted key region c.in_ok-region.ensures.region push c.requires.legal c.unwrap-behind.result behind_is,
    )

pub returns : goal.returns
returns c =
    let b = c.args.board.now in
    let key = c.args.key.now in
    let push = c.args.push in
    let accepted = c.neighbour.ensures.accepted in
    let behind = c.unwrap-behind.result in
    let walk = c.unwrap-walk.result.items in
    let behind_is : beside b push.from (opposite push.dir) ≡ Some behind = ap (beside b push.from) (sym c.opposite.ensures) ∙ sym c.neighbour.ensures.beside
    ∙ c.unwrap-behind.ensures in
    let found = c.in_ok-walk.ensures.legal key.boxes key.least c.in_ok-region.ensures.region in
    let between : IsWalkBetween b key.boxes c.args.player behind walk = subst
    (λ o. IfSome o (λ w. IsWalkBetween b key.boxes c.args.player behind w.items)) c.unwrap-walk.ensures found in
    goes-on b accepted key c.in_ok-region.region c.in_ok-region.ensures.region push c.requires.legal c.args.player behind walk
    c.args.letters.items c.push.new.self.items behind_is between
    (c.in_ok-push.ensures.items
    ∙ ap (λ w. w ++ push.dir ∷ []) (c.in_ok-extend_from_slice.ensures.items ∙ ap (λ w. c.args.letters.items ++ w) c.deref.ensures.value))

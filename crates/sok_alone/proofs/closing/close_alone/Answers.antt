use Rattle.std.proofs.Common.{◌∙◌, List, ℕ, subst, sym}
use Rattle.std.proofs.lemmas.Option.{IfSome_then}
use Rattle.std.proofs.lemmas.Result.{IfOk-weaker}
use Rattle.sok_board.specs.Area.{position_of}
use Rattle.sok_region.specs.Regions.{IsPlaced}
use Rattle.sok_state.specs.Keys.{IsKeyOf, key_position}
use Rattle.sok_alone.specs.GivenUp.{HasEnded, IsGivenUp}
use Rattle.sok_alone.proofs.Finishing.{closed-walked, given-up-walked, none-ended, none-live}
use Rattle.sok_alone.proofs.closing.close_alone.Goals as goal

pub key-first-requires-clause-placed : goal.key-first-requires-clause-placed
key-first-requires-clause-placed c = subst (λ (boxes : List ℕ). IsPlaced c.args.setting.now.board.now boxes c.args.player) (sym c.in_ok-own.ensures.same) c.requires.placed

pub returns-clause-closed : goal.returns-clause-closed
returns-clause-closed c =
    let b = c.args.setting.now.board.now in
    let first = c.key-first.result in
    let boxes = c.args.boxes.now in
    let is : IsKeyOf b (position_of b c.args.player c.args.boxes.now) c.key-first.result =
    subst (λ (own : List ℕ). IsKeyOf b (position_of b c.args.player own) c.key-first.result) c.in_ok-own.ensures.same c.key-first.ensures.key in
    let are = c.key-first.ensures.boxes ∙ c.in_ok-own.ensures.same in
    IfOk-weaker c.close_unless-found.result _ _
    (λ found closed. IfSome_then found closed (closed-walked b c.args.player boxes first c.args.limit are is)) c.close_unless-found.ensures.closed

pub returns-clause-none : goal.returns-clause-none
returns-clause-none c =
    let b = c.args.setting.now.board.now in
    let is : IsKeyOf b (position_of b c.args.player c.args.boxes.now) c.key-first.result =
    subst (λ (own : List ℕ). IsKeyOf b (position_of b c.args.player own) c.key-first.result) c.in_ok-own.ensures.same c.key-first.ensures.key in
    let from = position_of b c.args.player c.args.boxes.now in
    let first = key_position b c.key-first.result in
    let lives = c.new-lives.result in
    let limit = c.args.limit in
    none-ended c.close_unless-found.result (IsGivenUp b.rows from limit) (HasEnded b lives first limit)
    (λ ended. given-up-walked b.rows from first limit is.same (ended (none-live b lives limit c.new-lives.ensures.none))) c.close_unless-found.ensures.none

use Rattle.std.proofs.Common.{◌≡◌, ◌∙◌, Some, ap, arith, slice_get, sym, true≢false}
use Rattle.std.specs.Map.{keys_of, values_of}
use Rattle.std.proofs.lemmas.Bool.Decides.{nat_tests}
use Rattle.std.proofs.lemmas.Option.{same_Some}
use Rattle.sok_board.proofs.Lists.{Contains-at}
use Rattle.sok_closed.proofs.Looking.{same_index}
use Rattle.sok_closed.proofs.roll.Roll.starts.Goals as goal

pub returns-in-Some : goal.returns-in-Some
returns-in-Some c =
    let table = c.self.inside.table.entries in
    rw (← c.self.view_is) (
      λ zero_deep. (c.in-Some.index, c.in-Some.ensures, c.depth.ensures ∙ ap Some (grind (arith, nat_tests, zero_deep))),
      λ (place, at, depth_is).
          let same : c.in-Some.index ≡ place = same_index table c.len-states.ensures.distinct c.args.key.now c.in-Some.index place c.in-Some.ensures at in
          let deep : c.depth.result ≡ 0 = same_Some c.depth.result 0 (sym c.depth.ensures ∙ ap (slice_get (values_of table)) same ∙ depth_is) in
          grind (arith, nat_tests, deep),
    )

pub returns-in-None : goal.returns-in-None
returns-in-None c =
    rw (← c.self.view_is) (
      λ none. absurd (true≢false (sym none)),
      λ (place, at, depth_is). absurd (c.in-None.ensures (Contains-at (keys_of c.self.inside.table.entries) c.args.key.now place at)),
    )

-- The state that is visited, and the state that a push leads to from it.
use Rattle.std.proofs.Common.{ℕ, ◌≡◌, ◌<◌, ◌+◌, ◌^◌, inr, refl, Some, arith, length}
use Rattle.sok_board.specs.Area.{BoardView, beside}
use Rattle.sok_board.specs.BoxSets.{put_in_order}
use Rattle.sok_closed.proofs.Starting.{at-within}
use Rattle.sok_state.specs.declared.key.Key.{Key}
use Rattle.sok_state.specs.declared.push.Push.{Push}
use Rattle.sok_state.specs.declared.scene.Scene.{Scene}
use Rattle.sok_state.specs.Keys.{IsKey}
use Rattle.sok_state.specs.Pushes.{IsKeyAfter, IsLegal, IsOpened, IsPushable}
use Rattle.sok_state.specs.Tables.{IsNext}
use Rattle.sok_state.proofs.Stepped.{ComesNext, comes-next, next_of}
use Rattle.sok_search.specs.declared.search.Search.{Search}
use Rattle.sok_search.specs.declared.step.Visit.{Visit}
use Rattle.sok_search.specs.PushScratches.{AreMoved}
use Rattle.sok_search.specs.Searches.{IsLeftOut}
use Rattle.sok_search.specs.Views.{HasPushed, HoldsState, progress_of}
use Rattle.sok_search.proofs.Adding.{IsTaken, taken}
use Rattle.sok_search.proofs.Invariant.{Grows-refl}
use Rattle.sok_search.proofs.Moving.{moved-next}

module _ (b : BoardView) (v : Visit) (search : Search) (held : HoldsState b v search) where
  pub was : IsTaken b (progress_of search) v.index v.key.now v.depth
  was = taken b v.limit v.index (progress_of search) v.key.now v.depth held.running.search held.there held.depth_is

  pub state : IsKey b v.key.now
  state = was.noted.state

  pub within : v.index < length search.table.entries
  within = at-within search.table.entries v.key.now v.index held.there

  -- its index is small, and so is its depth
  pub small_index : v.index < 2 ^ 32
  small_index =
      let inside = within in
      let few = held.running.search.few in
      let small = held.small in
      omega (arith, inside, few, small)

  pub small_depth : v.depth + 1 < 2 ^ 32
  small_depth =
      let inside = within in
      let few = held.running.search.few in
      let small = held.small in
      let shallow = was.noted.shallow in
      omega (arith, inside, few, small, shallow)

  -- a push that may be left out is followed at once
  pub left_out : (push : Push) → IsLeftOut b search.aim v.key.now v.depth push → HasPushed b v push search search
  left_out push left = record {
    search = held.running.search;
    aim = refl;
    grows = Grows-refl search.table.entries;
    stay = λ i key deep note shallow known. known;
    met = inr left;
    no_more = omega arith;
  }

  module _ (scene : Scene) (opened : IsOpened b v.key.now scene) (push : Push) (legal : IsLegal b v.key.now push) where
    pub can : IsPushable b push scene v.key.now
    can =
        let as_many = was.noted.as_many in
        let few = held.running.accepted.few_boxes in
        record { state = state; few = omega (arith, as_many, few); legal = legal; opened = opened }

    module _ (to least : ℕ) (ahead : beside b push.from push.dir ≡ Some to)
        (next : (next : Key) → IsNext v.key.now push.from to least next → IsKeyAfter b v.key.now push next) where
      pub comes : ComesNext b v.key.now push to least
      comes = comes-next b held.running.accepted v.key.now push to least scene can ahead next

      pub moved : AreMoved b v.key.now.boxes push.from to (put_in_order push.from to v.key.now.boxes)
      moved = moved-next b held.running.accepted v.key.now (next_of v.key.now push.from to least) push to can.state can.few comes.came.of_board legal
          comes.came.exact ahead

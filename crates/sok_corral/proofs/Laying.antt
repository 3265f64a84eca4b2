-- Some boxes of a state, with the player where he was.
use Rattle.std.proofs.Common.{ℕ, Bool, ◌≤◌, ◌<◌, List, Contains, filter, length, get_or, arith}
use Rattle.std.proofs.lemmas.List.Elements.{All-contains, All-contains_itself}
use Rattle.std.proofs.lemmas.List.Kept.{IsStrictlyIncreasing-filter}
use Rattle.std.proofs.lemmas.List.Sums.{count_by-le-length, length-filter}
use Rattle.sok_board.specs.Area.{BoardView}
use Rattle.sok_board.proofs.Lists.{Contains-from_filter}
use Rattle.sok_region.specs.Regions.{IsPlaced}

module _ (b : BoardView) (player : ℕ) (boxes : List ℕ) (test : ℕ → Bool) (placed : IsPlaced b boxes player) where
  pub among-chosen : (n : ℕ) → Contains (filter test boxes) n → Contains boxes n
  among-chosen n there = (Contains-from_filter test boxes n there).0

  pub placed-chosen : IsPlaced b (filter test boxes) player
  placed-chosen = record {
    rising = IsStrictlyIncreasing-filter test boxes placed.rising;
    boxes_exist = λ k d within.
        All-contains (λ n. n < length b.area) boxes (get_or (filter test boxes) k d) placed.boxes_exist
        (among-chosen (get_or (filter test boxes) k d) (All-contains_itself (filter test boxes) k d within));
    player_exists = placed.player_exists;
    free = λ there. placed.free (among-chosen player there);
  }

pub few-chosen : (test : ℕ → Bool) (boxes : List ℕ) → length (filter test boxes) ≤ length boxes
few-chosen test boxes =
    let count = length-filter test boxes in
    let less = count_by-le-length test boxes in
    omega (arith, count, less)

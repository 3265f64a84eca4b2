-- If boxes of a state are a fence, each solution may as well begin with a push of one of them.
use Rattle.std.proofs.Common.{ℕ, ◌≡◌, ◌∙◌, sym, ap, Bool, List, true, Contains}
use Rattle.sok_rules.specs.declared.cell.Spot.{Spot}
use Rattle.sok_corral.specs.Corrals.{IsCorral, WalksTo}
use Rattle.sok_corral.proofs.Corrals.{pushes-first}
use Rattle.sok_board.specs.Area.{BoardView, IsAccepted, position_of, spot_of}
use Rattle.sok_region.specs.Regions.{IsPlaced}
use Rattle.sok_region.proofs.Regions.{IsStanding-placed}
use Rattle.sok_corral.specs.Fences.{IsFence}
use Rattle.sok_corral.proofs.Fences.{IsCorral-fence, fence-listed}
use Rattle.sok_closed.proofs.Followed.{leads-pushed}
use Rattle.sok_state.specs.declared.key.Key.{Key}
use Rattle.sok_state.specs.declared.push.Push.{Push}
use Rattle.sok_state.specs.Keys.{key_position}
use Rattle.sok_state.specs.Pushes.{IsLegal}
use Rattle.sok_search.specs.Searches.{MayBegin}

pub MayBegin-corral : (b : BoardView) → IsAccepted b → (key : Key) → IsPlaced b key.boxes key.least → (fence : Spot → Bool) (Outside : Spot → Type 0)
    → IsCorral b.rows (key_position b key) fence Outside → (chosen : List Push)
    → ((push : Push) → IsLegal b key push → fence (spot_of b push.from) ≡ true → Contains chosen push) → MayBegin b key chosen
MayBegin-corral b accepted key placed fence Outside corral chosen all w solves =
    let standing = IsStanding-placed b accepted.numbered accepted.proper key.least key.boxes placed in
    let first = pushes-first b.rows (key_position b key) fence Outside corral standing w solves in
    let (from, leads) = leads-pushed b accepted key placed first.before first.dir first.after first.walk first.steps first.is_push in
    let push : Push = record { from = from; dir = first.dir } in
    let of_fence : fence (spot_of b from) ≡ true = ap fence (sym leads.man ∙ first.man) ∙ first.of_fence in
    record {
      push = push;
      among = all push (record { after = first.after.position; leads = leads }) of_fence;
      after = first.after.position;
      leads = leads;
      rest = first.rest;
      solves = first.solves;
      fewer = first.fewer;
    }

-- the same for a fence by numbers
pub MayBegin-fence : (b : BoardView) → IsAccepted b → (key : Key) → IsPlaced b key.boxes key.least → (fence : List ℕ) → IsFence b key.least key.boxes fence
    → (chosen : List Push) → ((push : Push) → IsLegal b key push → Contains fence push.from → Contains chosen push) → MayBegin b key chosen
MayBegin-fence b accepted key placed fence is_fence chosen all =
    let fenced = (position_of b key.least fence).boxes in
    MayBegin-corral b accepted key placed fenced (WalksTo b.rows (key_position b key) fenced) (IsCorral-fence b accepted key.least key.boxes fence placed is_fence)
    chosen (λ push legal there. all push legal (fence-listed b accepted key.least key.boxes fence placed is_fence push.from legal.leads.exists there))

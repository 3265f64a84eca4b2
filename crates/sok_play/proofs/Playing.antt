-- A session in which the letters of a list are played, one after another.
use Rattle.std.proofs.Common.{ℕ, ◌≡◌, ◌∙◌, ◌<◌, ◌≤◌, sym, ap, subst, arith, List, IsSome, IsNone, get_or, length, take}
use Rattle.std.proofs.lemmas.List.{length-take-le, take_more}
use Rattle.sok_rules.specs.declared.cell.Dir.{Dir}
use Rattle.sok_rules.specs.declared.fault.PlayFault.{PlayFault}
use Rattle.sok_rules.specs.declared.fault.PlayFault.TheVariants.{Blocked, TooLong, Memory}
use Rattle.sok_rules.specs.Play.{run, start}
use Rattle.sok_rules.specs.Replay.{IsBlockedAt, IsReplayFault}
use Rattle.sok_rules.specs.Session.{Letters, StaysAt, position_of, with_letter}
use Rattle.sok_rules.specs.Squares.{Rows}
use Rattle.sok_play.specs.Drawings.{after_letters}

-- so many letters of a list are played, and legal
pub record IsPlayedTo (rows : Rows) (w : List Dir) (at : ℕ) (session : Letters) : Type 0 where
  pub is : session ≡ after_letters rows (take at w)
  pub legal : IsSome (run rows (start rows) (take at w))

-- a letter that is refused is not legal, unless memory is wanting
pub fault_after : (rows : Rows) (w : List Dir) (at : ℕ) (other : Dir) (old new : Letters) (fault : PlayFault) → at < length w → length w ≤ 1000000
    → IsPlayedTo rows w at old → StaysAt old (get_or w at other) new fault → IsReplayFault rows w fault
fault_after rows w at other old new (Blocked place) within few so_far stays =
    let d = get_or w at other in
    let size : length (take at w) ≡ at = length-take-le at w (omega (arith, within)) in
    let same : place ≡ at = stays.cause.1 ∙ ap (λ (l : Letters). length l.played) so_far.is ∙ size in
    subst (IsBlockedAt rows w) (sym same) (record {
      within = within;
      legal = so_far.legal;
      blocked = subst (λ v. IsNone (run rows (start rows) v)) (sym (take_more w at other within))
          (subst (λ (l : Letters). IsNone (position_of (with_letter l d))) so_far.is stays.cause.2);
    })
fault_after rows w at other old new TooLong within few so_far stays =
    let size : length (take at w) ≡ at = length-take-le at w (omega (arith, within)) in
    absurd (omega (arith, within, few, size, sym stays.cause ∙ ap (λ (l : Letters). length l.played) so_far.is))
fault_after rows w at other old new Memory within few so_far stays = tt

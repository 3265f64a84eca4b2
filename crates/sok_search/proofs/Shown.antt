-- What a search shows whose states are done with, whole or not: they are known, and those that it left out agree with what is claimed.
use Rattle.std.proofs.Common.{ℕ, ◌≡◌, ◌≤◌, ◌+◌, ◌⊎◌, inl, inr, Bool, List, Contains, Some, true, false, arith, slice_get}
use Rattle.std.specs.Map.{values_of}
use Rattle.sok_rules.specs.declared.cell.Dir.{Dir}
use Rattle.sok_rules.specs.Play.{After, Position, pushes, start, step}
use Rattle.sok_rules.specs.States.{Same}
use Rattle.sok_corral.proofs.Corrals.{solves-Same}
use Rattle.sok_rules.proofs.Man.{IsStanding-start}
use Rattle.sok_rules.proofs.Walking.{Same-step, Same-sym, Same-trans}
use Rattle.sok_board.specs.Area.{BoardView, IsAccepted}
use Rattle.sok_region.specs.Regions.{IsPlaced}
use Rattle.sok_bar.proofs.Patterns.{NeverFrom-Same}
use Rattle.sok_bar.proofs.ReasonLaws.{reasons-bar}
use Rattle.sok_alone.specs.Losses.{losses_of}
use Rattle.sok_alone.proofs.Losing.{lost-never}
use Rattle.sok_cert.specs.Claim.{Claim}
use Rattle.sok_cert.specs.Claim.TheVariants.{Pushes, Unsolvable}
use Rattle.sok_cert.specs.Closed.{IsTrueOf, rest_of}
use Rattle.sok_cert.proofs.Barring.{Agrees, Agrees-barred, Agrees-deeper, Agrees-more, IsTrueOf-agrees}
use Rattle.sok_closed.proofs.Followed.{leads-pushed}
use Rattle.sok_closed.proofs.Looking.{standing-after}
use Rattle.sok_closed.proofs.KnownPositions.{AllAgree, LeadsOn, Rearranges, all-agree, solved-Same}
use Rattle.sok_state.specs.declared.key.Key.{Key}
use Rattle.sok_state.specs.declared.push.Push.{Push}
use Rattle.sok_state.specs.Pushes.{IsLegal, LeadsTo}
use Rattle.sok_state.specs.Tables.{IsAt}
use Rattle.sok_state.specs.Keys.{key_position}
use Rattle.sok_search.specs.declared.note.Standing.{Standing}
use Rattle.sok_search.specs.declared.note.Standing.TheVariants.{Open, Expanded, Dead, Lost}
use Rattle.sok_search.specs.Finished.{AreDone, CostsEnough, IsAtMost, IsDone}
use Rattle.sok_search.specs.Searches.{Progress, IsBeaten, IsDead, IsFollowedUp, IsMet, IsSearch, IsSolved, MayBegin, Stands}
use Rattle.sok_search.proofs.StatesByIndex.{noted-at}

-- a known state at most so deep, of a position
record IsKnownAt (b : BoardView) (p : Progress) (depth : ℕ) (x : Position) : Type 0 where
  pub index : ℕ
  pub key : Key
  pub there : IsAt p.table key index
  pub deep : ℕ
  pub depth_is : slice_get (values_of p.table) index ≡ Some deep
  pub near : deep ≤ depth
  pub same : Same b.rows (key_position b key) x

-- or what solves from it agrees with a claim
abbrev IsKnown : BoardView → Claim → Progress → ℕ → Position → Type 0
IsKnown b claim p depth x = IsKnownAt b p depth x ⊎ AllAgree b.rows (Agrees claim) depth x

agrees-at_most : (claim : Claim) (near depth n : ℕ) → near ≤ depth → IsAtMost claim (near + n) → Agrees claim depth n
agrees-at_most Unsolvable near depth n within none = none
agrees-at_most (Pushes k) near depth n within enough = omega (arith, within, enough)

module _ (b : BoardView) (accepted : IsAccepted b) (claim : Claim) (key : Key) (depth deep : ℕ) (x : Position) (placed : IsPlaced b key.boxes key.least)
    (same : Same b.rows (key_position b key) x) (near : deep ≤ depth) where
  agree-dead : IsDead b key.boxes → AllAgree b.rows (Agrees claim) depth x
  agree-dead (why, of_boxes, bars) w solves =
      let rest = rest_of claim deep in
      let barred = reasons-bar b accepted key.least key.boxes why rest placed (bars key.least rest) in
      Agrees-deeper claim deep depth _ near (Agrees-barred b claim deep key.least key.boxes barred x same w solves)

agree-open : (b : BoardView) (whole : Bool) (claim : Claim) (key : Key) (depth deep : ℕ) (x : Position) → Same b.rows (key_position b key) x → deep ≤ depth
    → CostsEnough b whole claim key.least key.boxes deep → AllAgree b.rows (Agrees claim) depth x
agree-open b whole Unsolvable key depth deep x same near (n, bounded, none) w solves = absurd none
agree-open b whole (Pushes k) key depth deep x same near (n, bounded, enough) w solves =
    let more = bounded.needs x same w solves in omega (arith, more, enough, near)

module _ (b : BoardView) (accepted : IsAccepted b) (limit : ℕ) (p : Progress) (search : IsSearch b limit p) (claim : Claim) (done : AreDone b claim p)
    (beside : (n : ℕ) → IsBeaten p.frame.aim.upper n → IsAtMost claim n) where
  -- a push from an expanded state leads to what is known
  known-met : (key : Key) (deep depth : ℕ) (push : Push) (after : Position) → LeadsTo b key push after → deep + 1 ≤ depth → IsMet b p key deep push
      → IsKnown b claim p depth after
  known-met key deep depth push after leads near (inl found) =
      let close = found.near in
      inl (record {
        index = found.index;
        key = found.next;
        there = found.there;
        deep = found.deep;
        depth_is = found.depth_is;
        near = omega (arith, near, close);
        same = Same-sym b.rows after (key_position b found.next) (standing-after b key push after leads) (found.is after leads).same;
      })
  known-met key deep depth push after leads near (inr left) = inr (λ w solves.
      agrees-at_most claim (deep + 1) depth (pushes b.rows after w) near (beside (deep + 1 + pushes b.rows after w) (left.no_fewer after leads w solves)))

  module _ (depth : ℕ) (x : Position) (at : IsKnownAt b p depth x) (placed : IsPlaced b at.key.boxes at.key.least) where
    -- a walk stays in the state
    walked : (d : Dir) (a : After) → step b.rows d x ≡ Some a → a.pushed ≡ false → IsKnown b claim p depth a.position
    walked d a steps is = inl (record {
      index = at.index;
      key = at.key;
      there = at.there;
      deep = at.deep;
      depth_is = at.depth_is;
      near = at.near;
      same = Same-trans b.rows (key_position b at.key) x a.position at.same (Same-step b.rows d x a steps is);
    })

    -- where each legal push was met, a push leads to what is known
    pushed : (chosen : List Push) → ((push : Push) → IsLegal b at.key push → Contains chosen push)
        → ((push : Push) → Contains chosen push → IsMet b p at.key at.deep push) → (d : Dir) (a : After) → step b.rows d x ≡ Some a → a.pushed ≡ true
        → IsKnown b claim p (depth + 1) a.position
    pushed chosen all met d a steps is =
        let (from, leads) = leads-pushed b accepted at.key placed x d a at.same steps is in
        let push : Push = record { from = from; dir = d } in
        let near = at.near in
        known-met at.key at.deep (depth + 1) push a.position leads (omega (arith, near))
        (met push (all push (record { after = a.position; leads = leads })))

    -- where enough of them were met, what solves can be rearranged to begin with one that was
    rearranged : (chosen : List Push) → MayBegin b at.key chosen → ((push : Push) → Contains chosen push → IsMet b p at.key at.deep push)
        → Rearranges b.rows (IsKnown b claim p) depth x
    rearranged chosen may met w solves =
        let (v, solved, as_many) = solves-Same b.rows (key_position b at.key) x at.same w solves in
        let first = may v solved in
        let near = at.near in
        let fewer = first.fewer in
        record {
          position = first.after;
          known = known-met at.key at.deep (depth + 1) first.push first.after first.leads (omega (arith, near)) (met first.push first.among);
          rest = first.rest;
          solves = first.solves;
          fewer = omega (arith, as_many, fewer);
        }

    expanded-known : (IsSolved b at.key → ⊥) → IsFollowedUp b p at.key at.deep → LeadsOn b.rows (IsKnown b claim p) depth x ⊎ Rearranges b.rows (IsKnown b claim p) depth x
    expanded-known unsolved (chosen, inl all, met) = inl (record {
      unsolved = λ solved. unsolved (solved-Same b.rows (key_position b at.key) x at.same solved);
      walked = walked;
      pushed = pushed chosen all met;
    })
    expanded-known unsolved (chosen, inr (part, may), met) = inr (rearranged chosen may met)

    -- by the standing of the state
    standing-known : (s : Standing) → Stands b p at.index at.key at.deep s
        → IsDone b p.frame.aim.whole claim (losses_of p.frame.losses) at.key.least at.key.boxes at.deep s
        → AllAgree b.rows (Agrees claim) depth x ⊎ (LeadsOn b.rows (IsKnown b claim p) depth x ⊎ Rearranges b.rows (IsKnown b claim p) depth x)
    standing-known (Open bound) stands enough = inl (agree-open b p.frame.aim.whole claim at.key depth at.deep x at.same at.near enough)
    standing-known (Expanded bound) (prices, unsolved, followed) expanded = inr (expanded-known unsolved followed)
    standing-known Dead stands dead = inl (agree-dead b accepted claim at.key depth at.deep x placed at.same at.near dead)
    standing-known (Lost place) stands lost = inl (λ w solves. absurd
        (NeverFrom-Same b.rows (key_position b at.key) x at.same
        (lost-never b at.key.least at.key.boxes (losses_of p.frame.losses) place lost accepted placed) w solves))

  known : (depth : ℕ) (x : Position) → IsKnown b claim p depth x
      → AllAgree b.rows (Agrees claim) depth x ⊎ (LeadsOn b.rows (IsKnown b claim p) depth x ⊎ Rearranges b.rows (IsKnown b claim p) depth x)
  known depth x (inr agree) = inl agree
  known depth x (inl at) =
      let (note, note_is, noted) = noted-at b limit p search at.index at.key at.deep at.there at.depth_is in
      standing-known depth x at noted.state.is.placed note.standing noted.stands
      (done at.index at.key at.deep note (record { there = at.there; depth_is = at.depth_is; note_is = note_is }))

  -- the start is known, so the claim is true
  pub shows : IsTrueOf b.rows claim
  shows =
      let begun = search.begun in
      let known_start : IsKnown b claim p 0 (start b.rows) = inl (record {
        index = 0;
        key = begun.key;
        there = begun.there;
        deep = 0;
        depth_is = begun.depth_is;
        near = omega arith;
        same = Same-sym b.rows (start b.rows) (key_position b begun.key) (IsStanding-start b.rows accepted.proper) begun.is.same;
      }) in
      IsTrueOf-agrees b.rows claim (λ w solves.
      all-agree b.rows (Agrees claim) (Agrees-more claim) (IsKnown b claim p) known w 0 (start b.rows) known_start solves)

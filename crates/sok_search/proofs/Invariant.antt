-- What holds of a search holds after each step.
use Rattle.std.proofs.Common.{ℕ, ◌≡◌, ◌<◌, ◌≤◌, ◌+◌, ◌∙◌, ◌⊎◌, inl, inr, refl, sym, ap, subst, List, Option, Some, None}
use Rattle.std.proofs.Common.{Contains, arith, length}
use Rattle.std.specs.Option.{IfSome}
use Rattle.sok_board.specs.Area.{BoardView}
use Rattle.sok_state.specs.declared.key.Key.{Key}
use Rattle.sok_state.specs.declared.push.Push.{Push}
use Rattle.sok_state.specs.Tables.{Entries, HasDistinctKeys}
use Rattle.sok_closed.specs.Lookup.{IsFound}
use Rattle.sok_alone.specs.declared.losses.Losses.{Losses}
use Rattle.sok_alone.specs.Losses.{KeepsLosses, KeepsPlaces, losses_of}
use Rattle.sok_alone.proofs.Losing.{lost-kept}
use Rattle.sok_search.specs.declared.aim.Aim.{Aim}
use Rattle.sok_search.specs.declared.note.Note.{Note}
use Rattle.sok_search.specs.declared.note.Origin.{Origin}
use Rattle.sok_search.specs.declared.note.Standing.{Standing}
use Rattle.sok_search.specs.declared.note.Standing.TheVariants.{Open, Expanded, Dead, Lost}
use Rattle.sok_search.specs.Searches.{Frame, Progress, AreEnough, HasBound, IsBeaten, IsBegun, IsCome, IsFrom, IsLater, IsLeftOut, IsMet, IsNoted, IsReached, IsSearch, IsSolvedIn, IsState, Stands}
use Rattle.sok_search.specs.Steps.{Grows, knowing}

pub Grows-refl : (table : Entries) → Grows table table
Grows-refl table = record { keys = λ key i there. there; depths = λ i depth there. (depth, there, omega arith) }

found-along : (b : BoardView) (old new : Entries) → Grows old new → (key : Key) (depth : ℕ) (push : Push) → IsFound b old key depth push
    → IsFound b new key depth push
found-along b old new grows key depth push found =
    let (deep, deep_is, near) = grows.depths found.index found.deep found.depth_is in
    let was = found.near in
    record {
      next = found.next;
      is = found.is;
      index = found.index;
      there = grows.keys found.next found.index found.there;
      deep = deep;
      depth_is = deep_is;
      near = omega (arith, near, was);
    }

pub met-along : (b : BoardView) (p q : Progress) → q.frame.aim ≡ p.frame.aim → Grows p.table q.table → (key : Key) (depth : ℕ) (push : Push) → IsMet b p key depth push
    → IsMet b q key depth push
met-along b p q same grows key depth push (inl found) = inl (found-along b p.table q.table grows key depth push found)
met-along b p q same grows key depth push (inr left) = inr (subst (λ aim. IsLeftOut b aim key depth push) (sym same) left)

pub from-along : (b : BoardView) (p q : Progress) → Grows p.table q.table → (key : Key) (depth : ℕ) (origin : Origin) → IsFrom b p key depth origin
    → IsFrom b q key depth origin
from-along b p q grows key depth origin from =
    let (deep, deep_is, near) = grows.depths origin.parent from.deep from.depth_is in
    let was = from.nearer in
    record {
      parent = from.parent;
      there = grows.keys from.parent origin.parent from.there;
      deep = deep;
      depth_is = deep_is;
      nearer = omega
          (arith, near, was);
      after = from.after;
      leads = from.leads;
      is = from.is;
    }

pub come-along : (b : BoardView) (p q : Progress) → Grows p.table q.table → (key : Key) (depth : ℕ) (origin : Option Origin) → IsCome b p key depth origin
    → IsCome b q key depth origin
come-along b p q grows key depth None is = is
come-along b p q grows key depth (Some origin) from = from-along b p q grows key depth origin from

-- a state that is as it was
pub record IsUnchanged (p q : Progress) (i : ℕ) (key : Key) (depth : ℕ) (note : Note) : Type 0 where
  pub state : IsState p i key depth note
  pub waits : Contains p.queue i → Contains q.queue i

bound-along : (b : BoardView) (p q : Progress) → IsLater b p.frame q.frame → (key : Key) (bound : ℕ)
    → HasBound b p.frame.aim.whole key.least key.boxes bound → HasBound b q.frame.aim.whole key.least key.boxes bound
bound-along b p q same key bound = subst (λ aim. HasBound b aim.whole key.least key.boxes bound) (sym same.aim)

pub stands-along : (b : BoardView) (p q : Progress) → IsLater b p.frame q.frame → Grows p.table q.table → ((n : ℕ) → IsBeaten p.best n → IsBeaten q.best n)
    → (i : ℕ) (key : Key) (depth : ℕ) (s : Standing) → (Contains p.queue i → Contains q.queue i) → Stands b p i key depth s → Stands b q i key depth s
stands-along b p q same grows better i key depth (Open bound) waits (bounded, inl waited) =
    (bound-along b p q same key bound bounded, inl (waits waited))
stands-along b p q same grows better i key depth (Open bound) waits (bounded, inr beaten) =
    (bound-along b p q same key bound bounded, inr (better (depth + bound) beaten))
stands-along b p q same grows better i key depth (Expanded bound) waits (bounded, unsolved, (chosen, enough, met)) = (
  bound-along b p q same key bound bounded,
  unsolved,
  (
    chosen,
    subst (λ aim. AreEnough b aim.whole key chosen) (sym same.aim) enough,
    λ push among. met-along b p q same.aim grows key depth push (met push among),
  ),
)
stands-along b p q same grows better i key depth Dead waits dead = dead
stands-along b p q same grows better i key depth (Lost place) waits lost =
    lost-kept b key.least key.boxes (losses_of p.frame.losses) place lost (losses_of q.frame.losses) same.kept

pub noted-along : (b : BoardView) (p q : Progress) → IsLater b p.frame q.frame → Grows p.table q.table → ((n : ℕ) → IsBeaten p.best n → IsBeaten q.best n)
    → (i : ℕ) (key : Key) (depth : ℕ) (note : Note) → (Contains p.queue i → Contains q.queue i)
    → IsNoted b p i key depth note → IsNoted b q i key depth note
noted-along b p q same grows better i key depth note waits noted = record {
  state = noted.state;
  as_many = noted.as_many;
  shallow = noted.shallow;
  come = come-along b p q grows key depth note.origin noted.come;
  stands = stands-along b p q same grows better i key depth note.standing waits noted.stands;
}

begun-along : (b : BoardView) (p q : Progress) → Grows p.table q.table → IsBegun b p → IsBegun b q
begun-along b p q grows begun =
    let (deep, deep_is, near) = grows.depths 0 0 begun.depth_is in
    let first : deep ≡ 0 = omega (arith, near) in
    record { key = begun.key; there = grows.keys begun.key 0 begun.there; depth_is = deep_is ∙ ap Some first; is = begun.is }

pub solved-along : (b : BoardView) (p q : Progress) → Grows p.table q.table → (k : ℕ) → IsSolvedIn b p k → IsSolvedIn b q k
solved-along b p q grows k one =
    let (deep, deep_is, near) = grows.depths one.index one.depth one.depth_is in
    let was = one.shallow in
    record {
      index = one.index;
      key = one.key;
      there = grows.keys one.key one.index one.there;
      depth = deep;
      depth_is = deep_is;
      shallow = omega
          (arith, near, was);
      solved = one.solved;
    }

pub best-along : (b : BoardView) (p q : Progress) → q.frame.aim ≡ p.frame.aim → Grows p.table q.table → (best : Option ℕ) → IfSome best (IsReached b p)
    → IfSome best (IsReached b q)
best-along b p q same grows None one = one
best-along b p q same grows (Some k) (inl beside) = inl (ap (λ (aim : Aim). aim.upper) same ∙ beside)
best-along b p q same grows (Some k) (inr one) = inr (solved-along b p q grows k one)

-- the same frame
pub later-same : (b : BoardView) (old new : Frame) → new ≡ old → IsLater b old new
later-same b old new same =
    subst (IsLater b old) (sym same) (record { room = refl; aim = refl; kept = λ place loss there. there; losses = λ losses. losses })

-- a step after which each state is as it was, or is noted anew
pub record IsStep (b : BoardView) (limit : ℕ) (p q : Progress) : Type 0 where
  pub frame : IsLater b p.frame q.frame
  pub distinct : HasDistinctKeys q.table
  pub a_note_each : length q.notes ≡ length q.table
  pub few : length q.table ≤ limit
  pub queued : (i : ℕ) → Contains q.queue i → i < length q.table
  pub grows : Grows p.table q.table
  pub better : (n : ℕ) → IsBeaten p.best n → IsBeaten q.best n
  pub best : IfSome q.best (IsReached b q)
  pub each : (i : ℕ) (key : Key) (depth : ℕ) (note : Note) → IsState q i key depth note → IsUnchanged p q i key depth note ⊎ IsNoted b q i key depth note

pub keeps : (b : BoardView) (limit : ℕ) (p q : Progress) → IsSearch b limit p → IsStep b limit p q → IsSearch b limit q
keeps b limit p q search after = record {
  wide = let wide = search.wide in let room = after.frame.room in omega (arith, wide, room);
  losses = after.frame.losses search.losses;
  distinct = after.distinct;
  a_note_each = after.a_note_each;
  few = after.few;
  queued = after.queued;
  begun = begun-along b p q after.grows search.begun;
  noted = λ i key depth note state. elim (after.each i key depth note state) [
    | inl same ↦ noted-along b p q after.frame after.grows after.better i key depth note same.waits (search.noted i key depth note same.state)
    | inr noted ↦ noted
  ];
  best = after.best;
  upper = λ n beaten. after.better n (search.upper n (subst (λ (aim : Aim). IsBeaten aim.upper n) after.frame.aim beaten));
}

-- more is known of boxes taken alone
pub keeps-knowing : (b : BoardView) (limit : ℕ) (p : Progress) (losses : Losses) → IsSearch b limit p → KeepsLosses b losses
    → KeepsPlaces (losses_of p.frame.losses) (losses_of losses) → IsSearch b limit (knowing losses p)
keeps-knowing b limit p losses search keeps_losses kept =
    let q = knowing losses p in
    keeps b limit p q search (record {
      frame = record { room = refl; aim = refl; kept = kept; losses = λ before. keeps_losses };
      distinct = search.distinct;
      a_note_each = search.a_note_each;
      few = search.few;
      queued = search.queued;
      grows = Grows-refl p.table;
      better = λ n beaten. beaten;
      best = best-along b p q refl (Grows-refl p.table) p.best search.best;
      each = λ i key depth note state. inl (record {
        state = record { there = state.there; depth_is = state.depth_is; note_is = state.note_is };
        waits = λ waits. waits;
      });
    })

-- another queue, which lacks no open state that is not beaten
pub keeps-queue : (b : BoardView) (limit : ℕ) (p : Progress) (queue : List ℕ) → IsSearch b limit p → ((i : ℕ) → Contains queue i → i < length p.table)
    → ((i : ℕ) (key : Key) (depth : ℕ) (note : Note) → IsState p i key depth note
    → (Contains p.queue i → Contains queue i) ⊎ Stands b (record p { queue = queue }) i key depth note.standing)
    → IsSearch b limit (record p { queue = queue })
keeps-queue b limit p queue search queued each =
    let q : Progress = record p { queue = queue } in
    keeps b limit p q search (record {
      frame = later-same b p.frame p.frame refl;
      distinct = search.distinct;
      a_note_each = search.a_note_each;
      few = search.few;
      queued = queued;
      grows = Grows-refl p.table;
      better = λ n beaten. beaten;
      best = best-along b p q refl (Grows-refl p.table) p.best search.best;
      each = λ i key depth note state.
          let at : IsState p i key depth note = record { there = state.there; depth_is = state.depth_is; note_is = state.note_is } in
          elim (each i key depth note at) [
            | inl waits ↦ inl (record { state = at; waits = waits })
            | inr stands ↦
                let noted = search.noted i key depth note at in
                inr (record {
                  state = noted.state;
                  as_many = noted.as_many;
                  shallow = noted.shallow;
                  come = come-along b p q
                      (Grows-refl p.table) key depth note.origin noted.come;
                  stands = stands;
                })
          ];
    })

-- Pushes are followed one after another.
use Rattle.std.proofs.Common.{ℕ, ◌≡◌, ◌<◌, ◌+◌, ◌∙◌, inl, inr, refl, sym, ap, subst, List, Some, arith, slice_get}
use Rattle.std.proofs.lemmas.Bool.{cases_eq}
use Rattle.std.proofs.lemmas.Option.{same_Some}
use Rattle.sok_board.specs.Area.{BoardView}
use Rattle.sok_state.specs.declared.push.Push.{Push}
use Rattle.sok_search.specs.declared.search.Search.{Search}
use Rattle.sok_search.specs.declared.step.Visit.{Visit}
use Rattle.sok_search.specs.Searches.{Progress, IsMet, IsSearch}
use Rattle.sok_search.specs.Steps.{IsPushed, holding}
use Rattle.sok_search.specs.Views.{HasFollowed, HoldsState, progress_of}
use Rattle.sok_search.proofs.Entering.{was}
use Rattle.sok_search.proofs.Invariant.{met-along}

-- the pushes before a place
abbrev pub Before : List Push → ℕ → Push → Type 0
Before pushes n push = (k : ℕ) × (k < n) × (slice_get pushes k ≡ Some push)

pub followed-none : (b : BoardView) (v : Visit) (p : Progress) (pushes : List Push) → IsSearch b v.limit (holding v.index p)
    → HasFollowed b v p (Before pushes 0) p
followed-none b v p pushes search = record {
  search = search;
  aim = refl;
  stay = λ i other deep note near state. state;
  met = λ push (k, below, there). absurd (omega (arith, below));
  no_more = omega arith;
}

pub followed-more : (b : BoardView) (v : Visit) (p q r : Progress) (pushes : List Push) (n : ℕ) (push : Push) → slice_get pushes n ≡ Some push
    → HasFollowed b v p (Before pushes n) q → IsPushed b v.limit (holding v.index q) v.key.now v.depth push (holding v.index r)
    → HasFollowed b v p (Before pushes (n + 1)) r
followed-more b v p q r pushes n push there before pushed = record {
  search = pushed.search;
  aim = pushed.aim ∙ before.aim;
  stay = λ i other deep note near state.
      let one = before.stay i other deep note near state in
      let two = pushed.stay i other deep note near (record { there = one.there; depth_is = one.depth_is; note_is = one.note_is }) in
      record { there = two.there; depth_is = two.depth_is; note_is = two.note_is };
  met = λ other (k, below, at). elim (cases_eq k n) [
    | inl same ↦
        let is : push ≡ other = same_Some push other (sym there ∙ ap (slice_get pushes) (sym same) ∙ at) in
        subst (IsMet b r v.key.now v.depth) is pushed.met
    | inr apart ↦ met-along b q r pushed.aim pushed.grows v.key.now v.depth other (before.met other (k, omega (arith, below, apart), at))
  ];
  no_more = let one = before.no_more in let two = pushed.no_more in omega (arith, one, two);
}

-- all that a weaker word says
pub followed-along : (b : BoardView) (v : Visit) (p q : Progress) (Followed Other : Push → Type 0) → ((push : Push) → Other push → Followed push)
    → HasFollowed b v p Followed q → HasFollowed b v p Other q
followed-along b v p q Followed Other covers followed = record {
  search = followed.search;
  aim = followed.aim;
  stay = followed.stay;
  met = λ push other.
      followed.met push (covers push other);
  no_more = followed.no_more;
}

-- so the search still visits the state
pub held-stays : (b : BoardView) (v : Visit) (old new : Search) (Followed : Push → Type 0) → HoldsState b v old
    → HasFollowed b v (progress_of old) Followed (progress_of new) → HoldsState b v new
held-stays b v old new Followed held followed =
    let one = was b v old held in
    let stays = followed.stay v.index v.key.now v.depth one.note (omega arith)
    (record { there = held.there; depth_is = held.depth_is; note_is = one.note_is }) in
    record {
      running = record { accepted = held.running.accepted; search = followed.search };
      small = held.small;
      there = stays.there;
      depth_is = stays.depth_is;
    }

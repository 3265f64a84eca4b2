-- Listing pushes in order.
use Rattle.std.proofs.Common.{ℕ, ◌≡◌, ◌<◌, ◌≤◌, ◌+◌, ◌*◌, inl, inr, ap, subst, List, [], ◌∷◌, ◌++◌, zero, suc, All, AllPairs, Contains, arith, length, get_or}
use Rattle.std.proofs.Common.{slice_index}
use Rattle.std.specs.List.Sorted.{IsStrictlyIncreasing}
use Rattle.std.proofs.lemmas.Bool.{cases_lt}
use Rattle.std.proofs.lemmas.List.Elements.{Contains-append_left, Contains-push, Contains-push_cases, Contains-get_or}
use Rattle.std.proofs.lemmas.List.Kept.{AllPairs-from_increasing}
use Rattle.sok_board.specs.Area.{BoardView, IsArea}
use Rattle.sok_board.proofs.Lists.{AllPairs-append}
use Rattle.sok_region.specs.Regions.{IsPlaced}
use Rattle.sok_state.specs.declared.key.Key.{Key}
use Rattle.sok_state.specs.declared.push.Push.{Push}
use Rattle.sok_state.specs.Listing.{Lists, place}
use Rattle.sok_state.specs.Pushes.{IsLegal, Precedes}
use Rattle.sok_state.proofs.LegalPushes.{clear-legal}
use Rattle.sok_state.proofs.Order.{Precedes-place, rank_below, same_place}

-- where no legal push has a place in between
pub Lists-raise : (b : BoardView) (key : Key) (bound higher : ℕ) (pushes : List Push) → bound ≤ higher
    → ((push : Push) → IsLegal b key push → place push < higher → place push < bound) → Lists b key bound pushes → Lists b key higher pushes
Lists-raise b key bound higher pushes up none lists = record {
  exact = λ push. (
    λ there. let (legal, below) = (lists.exact push).0 there in (legal, omega (arith, below, up)),
    λ (legal, below). (lists.exact push).1 (legal, none push legal below),
  );
  in_order = lists.in_order;
}

-- a push that is not legal is not listed
pub Lists-illegal : (b : BoardView) (key : Key) (push : Push) (pushes : List Push) → (IsLegal b key push → ⊥) → Lists b key (place push) pushes
    → Lists b key (place push + 1) pushes
Lists-illegal b key push pushes illegal lists = Lists-raise b key (place push) (place push + 1) pushes (omega arith)
    (λ p legal below. elim (cases_lt (place p) (place push)) [
      | inl earlier ↦ earlier
      | inr later ↦ absurd (illegal (subst (IsLegal b key) (same_place p push (omega (arith, below, later))) legal))
    ]) lists

-- a legal push goes last
pub Lists-legal : (b : BoardView) (key : Key) (push : Push) (pushes : List Push) → IsLegal b key push → Lists b key (place push) pushes
    → Lists b key (place push + 1) (pushes ++ push ∷ [])
Lists-legal b key push pushes legal lists = record {
  exact = λ p. (
    λ there. elim (Contains-push_cases pushes push p there) [
      | inl before ↦ let (is, below) = (lists.exact p).0 before in (is, omega (arith, below))
      | inr same ↦ (subst (IsLegal b key) same legal, let places = ap place same in omega (arith, places))
    ],
    λ (is, below). elim (cases_lt (place p) (place push)) [
      | inl earlier ↦ Contains-append_left pushes (push ∷ []) p ((lists.exact p).1 (is, earlier))
      | inr later ↦ subst (Contains (pushes ++ push ∷ [])) (same_place push p (omega (arith, below, later))) (Contains-push pushes push)
    ],
  );
  in_order = AllPairs-append (λ p q. place p < place q) pushes (push ∷ []) lists.in_order (λ i j d below within. absurd (omega (arith, below, within)))
      (λ k d within. λ j e last. elim_last j e last (get_or pushes k d)
      (let is = ((lists.exact (get_or pushes k d)).0 (Contains-get_or pushes k d within)).1 in is));
}
  where
    elim_last : (j : ℕ) (e : Push) → j < length (push ∷ []) → (p : Push) → place p < place push → place p < place (get_or (push ∷ []) j e)
    elim_last zero e last p below = below
    elim_last (suc j) e last p below = absurd (omega (arith, last))

-- the pushes of the first boxes are listed
pub record IsListing (b : BoardView) (key : Key) (done : ℕ) (pushes : List Push) : Type 0 where
  pub bound : ℕ
  pub lists : Lists b key bound pushes
  pub past : (k : ℕ) → k < done → slice_index key.boxes k * 4 + 4 ≤ bound
  pub ahead : (k : ℕ) → done ≤ k → k < length key.boxes → bound ≤ slice_index key.boxes k * 4

rising_at : (xs : List ℕ) → IsStrictlyIncreasing xs → (i j : ℕ) → i < j → j < length xs → slice_index xs i < slice_index xs j
rising_at xs rising i j below within = AllPairs-from_increasing xs rising i j 0 below within

-- where the box of a legal push stands in the list
box_index : (b : BoardView) → IsArea b.rows b.area → (key : Key) → IsPlaced b key.boxes key.least → (push : Push) → IsLegal b key push
    → (k : ℕ) × (k < length key.boxes) × (slice_index key.boxes k ≡ push.from)
box_index b area key placed push legal =
    let (k, within, is) = (clear-legal b area key placed push legal).0 in (k, within, read key.boxes k push.from within is)
  where
    read : (xs : List ℕ) (k n : ℕ) → k < length xs → get_or xs k n ≡ n → get_or xs k 0 ≡ n
    read [] k n within is = absurd (omega (arith, within))
    read (x ∷ xs) zero n within is = is
    read (x ∷ xs) (suc k) n within is = read xs k n (omega (arith, within)) is

-- before the next box nothing is to be listed
pub Lists-next : (b : BoardView) → IsArea b.rows b.area → (key : Key) → IsPlaced b key.boxes key.least → (done : ℕ) (pushes : List Push)
    → done < length key.boxes → IsListing b key done pushes → Lists b key (slice_index key.boxes done * 4) pushes
Lists-next b area key placed done pushes within listing = Lists-raise b key listing.bound (slice_index key.boxes done * 4) pushes up nothing_between
    listing.lists
  where
    up : listing.bound ≤ slice_index key.boxes done * 4
    up = listing.ahead done (omega arith) within

    nothing_between : (push : Push) → IsLegal b key push → place push < slice_index key.boxes done * 4 → place push < listing.bound
    nothing_between push legal below =
        let (k, there, is) = box_index b area key placed push legal in
        let ranked = rank_below push.dir in
        elim (cases_lt k done) [
          | inl earlier ↦ let past = listing.past k earlier in omega (arith, past, is, ranked)
          | inr later ↦ absurd (elim (cases_lt done k) [
            | inl after ↦ let more = rising_at key.boxes placed.rising done k after there in omega (arith, more, is, below)
            | inr here ↦ let same : k ≡ done = omega (arith, later, here) in let at = ap (slice_index key.boxes) same in omega (arith, at, is, below)
          ])
        ]

-- once its pushes are listed, one more box is done
pub IsListing-more : (b : BoardView) (key : Key) → IsPlaced b key.boxes key.least → (done : ℕ) (pushes after : List Push) → done < length key.boxes
    → IsListing b key done pushes
    → Lists b key (slice_index key.boxes done * 4 + 4) after → IsListing b key (done + 1) after
IsListing-more b key placed done pushes after within listing lists = record {
  bound = slice_index key.boxes done * 4 + 4;
  lists = lists;
  past = λ k below. elim (cases_lt k done) [
    | inl earlier ↦ let past = listing.past k earlier in let up = listing.ahead done (omega arith) within in omega (arith, past, up)
    | inr here ↦ let same : k ≡ done = omega (arith, below, here) in let at = ap (slice_index key.boxes) same in omega (arith, at)
  ];
  ahead = λ k from there. let up = rising_at key.boxes placed.rising done k (omega (arith, from)) there in omega (arith, up);
}

-- what is listed is legal
pub listed_legal : (b : BoardView) (key : Key) (done : ℕ) (pushes : List Push) → IsListing b key done pushes → All (IsLegal b key) pushes
listed_legal b key done pushes listing = λ k d within. ((listing.lists.exact (get_or pushes k d)).0 (Contains-get_or pushes k d within)).0

-- once all boxes are done, all legal pushes are listed
pub listed_whole : (b : BoardView) → IsArea b.rows b.area → (key : Key) → IsPlaced b key.boxes key.least → (done : ℕ) (pushes : List Push)
    → length key.boxes ≤ done → IsListing b key done pushes → (push : Push) → IsLegal b key push → Contains pushes push
listed_whole b area key placed done pushes all listing push legal =
    let (k, within, is) = box_index b area key placed push legal in
    let ranked = rank_below push.dir in
    let past = listing.past k (omega (arith, within, all)) in
    (listing.lists.exact push).1 (legal, omega (arith, past, is, ranked))

pub listed_in_order : (b : BoardView) (key : Key) (bound : ℕ) (pushes : List Push) → Lists b key bound pushes → AllPairs Precedes pushes
listed_in_order b key bound pushes lists = λ i j d below within. Precedes-place (get_or pushes i d) (get_or pushes j d) (lists.in_order i j d below within)

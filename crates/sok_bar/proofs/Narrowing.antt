-- Boxes are taken away from bit rows until each that is left is held.
use Rattle.std.proofs.Common.{ℕ, ◌≡◌, ◌<◌, ◌≤◌, ◌+◌, inl, inr, refl, sym, ap, ◌∙◌, subst, List, [], ◌∷◌, ◌++◌, Bool, true, false, true≢false, zero, suc, Contains}
use Rattle.std.proofs.Common.{Some, arith, filter, length, get_or, slice_get, ◌||◌, if◌then◌else◌, below_more}
use Rattle.std.specs.List.{range_with_len}
use Rattle.std.proofs.lemmas.Bool.{cases_Bool, cases_eq}
use Rattle.std.proofs.lemmas.List.{append-nil, get_or_default}
use Rattle.std.proofs.lemmas.List.Elements.{All-contains, Contains-get_or, filter-append}
use Rattle.std.proofs.lemmas.List.FromFn.{length-range_with_len, get_or-range_with_len}
use Rattle.std.proofs.lemmas.Option.{same_Some, get_or_from_slice_get, slice_get-get_or, slice_get_within}
use Rattle.sok_board.specs.Area.{BoardView, IsArea, spot_of}
use Rattle.sok_board.proofs.AreaLaws.{number_of-spot_of, same_number}
use Rattle.sok_board.proofs.Lists.{Contains-filter, Contains-from_filter}
use Rattle.sok_board.proofs.Numbering.{rising-chosen}
use Rattle.sok_field.specs.Fields.{has}
use Rattle.sok_field.specs.Numbers.{Draws}
use Rattle.sok_price.specs.Prices.{AreMembers, IsMember}
use Rattle.sok_region.specs.Layouts.{IsLaidOut, Laid}
use Rattle.sok_bar.specs.Jam.{AreHeld, HasJams, HasJamWith, IsGoalSquare, IsHeld}
use Rattle.sok_bar.specs.Narrowed.{HasDrawnOffGoal, IsLeft, IsNarrowed, IsTaken, KeepsJams, TellsPass, TellsTaken, drawn_members}
use Rattle.sok_bar.specs.Settings.{IsDrawn}
use Rattle.sok_bar.proofs.Removal.{IsHeld-more, range-more}
use Rattle.sok_bar.proofs.Rising.{Contains-member, index_of}

-- one more, or none
length-filter_cons : (p : ℕ → Bool) (x : ℕ) (xs : List ℕ) → length (filter p (x ∷ xs)) ≡ (if p x then 1 else 0) + length (filter p xs)
length-filter_cons p x xs = elim (p x) as (λ t. length (if t then x ∷ filter p xs else filter p xs) ≡ (if t then 1 else 0) + length (filter p xs))
    [ true ↦ omega arith | false ↦ omega arith ]

one-le : (q p : Bool) → (q ≡ true → p ≡ true) → ◌≤◌ (if q then 1 else 0) (if p then 1 else 0)
one-le false p more = omega arith
one-le true true more = omega arith
one-le true false more = absurd (true≢false (sym (more refl)))

-- fewer pass a test that asks for more
no_more : (p q : ℕ → Bool) → ((x : ℕ) → q x ≡ true → p x ≡ true) → (xs : List ℕ) → length (filter q xs) ≤ length (filter p xs)
no_more p q less [] = omega arith
no_more p q less (x ∷ xs) =
    omega (arith, no_more p q less xs, length-filter_cons p x xs, length-filter_cons q x xs, one-le (q x) (p x) (less x))

fewer : (p q : ℕ → Bool) → ((x : ℕ) → q x ≡ true → p x ≡ true) → (xs : List ℕ) (k : ℕ) → k < length xs → p (get_or xs k 0) ≡ true
    → q (get_or xs k 0) ≡ false → length (filter q xs) < length (filter p xs)
fewer p q less [] k within on off = absurd (omega (arith, within))
fewer p q less (x ∷ xs) zero within on off =
    let one = ap {B = ℕ} (λ t. if t then 1 else 0) on in
    let none = ap {B = ℕ} (λ t. if t then 1 else 0) off in
    omega (arith, no_more p q less xs, length-filter_cons p x xs, length-filter_cons q x xs, one, none)
fewer p q less (x ∷ xs) (suc k) within on off =
    let rest = fewer p q less xs k (omega (arith, within)) on off in
    omega (arith, rest, length-filter_cons p x xs, length-filter_cons q x xs, one-le (q x) (p x) (less x))

-- a box that is not held is in no jam
KeepsJams-taken : (b : BoardView) → IsArea b.rows b.area → (boxes old new : List ℕ) (s : ℕ) → IsTaken b s old new → KeepsJams b boxes old → KeepsJams b boxes new
KeepsJams-taken b area boxes old new s taken keeps = record {
  among = λ t (within, there). keeps.among t (within, ((taken.others (spot_of b t)).0 there).1);
  most = λ members jam t member.
      let (within, was) = keeps.most members jam t member in
      elim (cases_eq t s) [
        | inr other ↦ (within, (taken.others (spot_of b t)).1 (λ same. other (same_number b area t s within taken.drawn.0 same), was))
        | inl same ↦ absurd (taken.loose (IsHeld-more b (IsMember boxes members) (IsDrawn b old) (keeps.most members jam) s
            (jam.held s (subst (IsMember boxes members) same member))))
      ];
}

-- one box more is taken away
pub TellsPass-taken : (b : BoardView) → IsArea b.rows b.area → (boxes : List ℕ) (n : ℕ) (old mid new : List ℕ) (before : Bool) → n < length boxes
    → TellsPass b boxes n old mid before → IsTaken b (get_or boxes n 0) mid new → TellsPass b boxes (n + 1) old new true
TellsPass-taken b area boxes n old mid new before within pass taken =
    let s = get_or boxes n 0 in
    let less = fewer (λ x. has mid (spot_of b x)) (λ x. has new (spot_of b x)) (λ x there. ((taken.others (spot_of b x)).0 there).1) boxes n within
    taken.drawn.1
    (gone s) in
    let rest = pass.fewer in
    record {
      jams = λ others keeps. KeepsJams-taken b area others mid new s taken (pass.jams others keeps);
      fewer = omega (arith, less, rest);
      some = λ _. omega (arith, less, rest);
      none = λ e. absurd (true≢false e);
    }
  where
    gone : (s : ℕ) → has new (spot_of b (get_or boxes n 0)) ≡ false
    gone s = elim (cases_Bool (has new (spot_of b (get_or boxes n 0)))) [
      | inl on ↦ absurd (((taken.others (spot_of b (get_or boxes n 0))).0 on).0 refl)
      | inr off ↦ off
    ]

-- or left
pub TellsPass-left : (b : BoardView) (boxes : List ℕ) (n : ℕ) (old mid new : List ℕ) (before : Bool) → TellsPass b boxes n old mid before
    → IsLeft b (get_or boxes n 0) mid new → TellsPass b boxes (n + 1) old new before
TellsPass-left b boxes n old mid new before pass left =
    subst (λ rows. TellsPass b boxes (n + 1) old rows before) (sym left.same) (record {
      jams = pass.jams;
      fewer = pass.fewer;
      some = pass.some;
      none = λ e.
          let (same, held) = pass.none e in (
            same,
            below_more (λ k. IsDrawn b old (get_or boxes k 0) → IsHeld b (IsDrawn b old) (get_or boxes k 0)) n held
                (subst (λ rows. IsDrawn b rows (get_or boxes n 0) → IsHeld b (IsDrawn b rows) (get_or boxes n 0)) same left.held),
          );
    })

-- whether it is one or the other
pub TellsPass-more : (b : BoardView) → IsArea b.rows b.area → (boxes : List ℕ) (n : ℕ) (old mid new : List ℕ) (before one : Bool) → n < length boxes
    → TellsPass b boxes n old mid before → TellsTaken b (get_or boxes n 0) mid new one → TellsPass b boxes (n + 1) old new (before || one)
TellsPass-more b area boxes n old mid new before one within pass told = elim (cases_Bool one) [
  | inl on ↦ subst (TellsPass b boxes (n + 1) old new) (sym (ap (λ t. before || t) on ∙ or_on before))
      (TellsPass-taken b area boxes n old mid new before within pass (told.gone on))
  | inr off ↦ subst (TellsPass b boxes (n + 1) old new) (sym (ap (λ t. before || t) off ∙ or_off before))
      (TellsPass-left b boxes n old mid new before pass (told.left off))
]
  where
    or_on : (t : Bool) → (t || true) ≡ true
    or_on true = refl
    or_on false = refl

    or_off : (t : Bool) → (t || false) ≡ t
    or_off true = refl
    or_off false = refl

-- all boxes are drawn at first
pub KeepsJams-drawn : (b : BoardView) → IsArea b.rows b.area → (boxes rows : List ℕ) → ((s : ℕ) → Contains boxes s → s < length b.area)
    → Draws b (Contains boxes) rows → KeepsJams b boxes rows
KeepsJams-drawn b area boxes rows exist drawn = record {
  among = λ s (within, there).
      let (n, number, one) = (drawn (spot_of b s)).0 there in
      subst (Contains boxes) (same_Some n s (sym number ∙ number_of-spot_of b area s within)) one;
  most = λ members jam s member.
      let one = Contains-member boxes members s member in
      let within = exist s one in
      (within, (drawn (spot_of b s)).1 (s, number_of-spot_of b area s within, one));
}

pub laid-exist : (b : BoardView) (boxes : List ℕ) (laid : Laid) → IsLaidOut b boxes laid → (s : ℕ) → Contains boxes s → s < length b.area
laid-exist b boxes laid out s one = All-contains (λ n. n < length b.area) laid.boxes s out.exist ((out.listed s).1 one)

pub KeepsJams-laid : (b : BoardView) → IsArea b.rows b.area → (boxes : List ℕ) (laid : Laid) → IsLaidOut b boxes laid → KeepsJams b boxes laid.boxed
KeepsJams-laid b area boxes laid out = KeepsJams-drawn b area boxes laid.boxed (laid-exist b boxes laid out) out.boxed

-- a box of a jam is held by the boxes that are drawn
pub loose-alone : (b : BoardView) (boxes rows : List ℕ) (s : ℕ) → KeepsJams b boxes rows → (IsHeld b (IsDrawn b rows) s → ⊥) → HasJamWith b boxes s → ⊥
loose-alone b boxes rows s keeps loose (members, jam, member) =
    loose (IsHeld-more b (IsMember boxes members) (IsDrawn b rows) (keeps.most members jam) s (jam.held s member))

-- the first places that pass a test, with one place more
pub filter-range_more : (p : ℕ → Bool) (n : ℕ)
    → (p n ≡ true → filter p (range_with_len 0 n) ++ n ∷ [] ≡ filter p (range_with_len 0 (n + 1)))
    × (p n ≡ false → filter p (range_with_len 0 n) ≡ filter p (range_with_len 0 (n + 1)))
filter-range_more p n =
    let more = sym (ap (filter p) (range-more n) ∙ filter-append p (range_with_len 0 n) (n ∷ [])) in (
      λ on. ap (λ t. filter p (range_with_len 0 n) ++ (if t then n ∷ [] else [])) (sym on) ∙ more,
      λ off. sym (append-nil (filter p (range_with_len 0 n))) ∙ ap (λ t. filter p (range_with_len 0 n) ++ (if t then n ∷ [] else [])) (sym off) ∙ more,
    )

-- the members that are drawn
module _ (b : BoardView) (boxes rows : List ℕ) (exist : (s : ℕ) → Contains boxes s → s < length b.area) (keeps : KeepsJams b boxes rows) where
  test : ℕ → Bool
  test i = has rows (spot_of b (get_or boxes i 0))

  abbrev chosen : List ℕ
  chosen = drawn_members b boxes rows

  chosen-at : (i s : ℕ) → slice_get boxes i ≡ Some s → test i ≡ has rows (spot_of b s)
  unfolding test
  chosen-at i s at = ap (λ n. has rows (spot_of b n)) (get_or_from_slice_get boxes i s 0 at)

  in_range : (i : ℕ) → i < length boxes → Contains (range_with_len 0 (length boxes)) i
  in_range i within =
      let counted : 0 + i ≡ i = omega arith in
      (i, omega (arith, within, length-range_with_len 0 (length boxes)), get_or-range_with_len 0 (length boxes) i i within ∙ counted)

  drawn-member : (s : ℕ) → IsDrawn b rows s → IsMember boxes chosen s
  unfolding test
  drawn-member s drawn =
      let (i, at) = index_of boxes s (keeps.among s drawn) in (
        i,
        Contains-filter test (range_with_len 0 (length boxes)) i (in_range i (slice_get_within boxes i s at)) (chosen-at i s at ∙ drawn.1),
        at,
      )

  member-drawn : (s : ℕ) → IsMember boxes chosen s → IsDrawn b rows s
  unfolding test
  member-drawn s (i, one, at) = (
    exist s (Contains-member boxes chosen s (i, one, at)),
    sym (chosen-at i s at) ∙ (Contains-from_filter test (range_with_len 0 (length boxes)) i one).1,
  )

  listed : AreMembers boxes chosen
  unfolding test
  listed = record {
    rising = rising-chosen test (length boxes);
    within = λ k d inside.
        let (j, j_within, is) = (Contains-from_filter test (range_with_len 0 (length boxes)) (get_or chosen k d) (Contains-get_or chosen k d inside)).0 in
        let long = length-range_with_len 0 (length boxes) in
        let at = get_or-range_with_len 0 (length boxes) j (get_or chosen k d) (omega (arith, j_within, long)) in
        omega (arith, j_within, long, at, is);
  }

  -- where all that are left are held, the members are held, and those of each jam are among them
  pub AreHeld-left : ((t : ℕ) → IsDrawn b rows t → IsHeld b (IsDrawn b rows) t) → AreHeld b boxes chosen
  AreHeld-left held t member = IsHeld-more b (IsDrawn b rows) (IsMember boxes chosen) drawn-member t (held t (member-drawn t member))

  pub HasJams-left : HasJams b boxes chosen
  unfolding test
  HasJams-left = record {
    listed = listed;
    most = λ jam is_jam i one.
        let within = All-contains (λ n. n < length boxes) jam i is_jam.listed.within one in
        let s = get_or boxes i 0 in
        let at = slice_get-get_or boxes i 0 within in
        Contains-filter test (range_with_len 0 (length boxes)) i (in_range i within) (keeps.most jam is_jam s (i, one, at)).1;
  }

  -- so they are a jam, if one of them stands off a goal
  pub HasJamWith-left : (s : ℕ) → ((t : ℕ) → IsDrawn b rows t → IsHeld b (IsDrawn b rows) t) → IsDrawn b rows s → (off : ℕ) → IsDrawn b rows off
      → (IsGoalSquare b off → ⊥) → HasJamWith b boxes s
  HasJamWith-left s held here off off_drawn off_goal = (
    chosen,
    record { listed = listed; held = AreHeld-left held; off_goal = (off, drawn-member off off_drawn, off_goal) },
    drawn-member s here,
  )

-- each box that is left is held, where those are that a list has
pub each-held : (b : BoardView) (boxes others rows : List ℕ) → KeepsJams b boxes rows → ((t : ℕ) → Contains boxes t → Contains others t)
    → ((k : ℕ) → k < length others → IsDrawn b rows (get_or others k 0) → IsHeld b (IsDrawn b rows) (get_or others k 0))
    → (t : ℕ) → IsDrawn b rows t → IsHeld b (IsDrawn b rows) t
each-held b boxes others rows keeps listed held t drawn =
    let (k, within, is) = listed t (keeps.among t drawn) in
    let at : get_or others k 0 ≡ t = get_or_default others k 0 t within ∙ is in
    subst (IsHeld b (IsDrawn b rows)) at (held k within (subst (IsDrawn b rows) (sym at) drawn))

pub IsNarrowed-same : (b : BoardView) (s : ℕ) (squares boxes rows old new : List ℕ) (stays : Bool) → squares ≡ boxes → rows ≡ old
    → IsNarrowed b squares s rows new stays → IsNarrowed b boxes s old new stays
IsNarrowed-same b s squares boxes rows old new stays same_squares same_rows narrowed =
    subst (λ xs. IsNarrowed b xs s old new stays) same_squares (subst (λ xs. IsNarrowed b squares s xs new stays) same_rows narrowed)

module _ (b : BoardView) (area : IsArea b.rows b.area) (boxes : List ℕ) (laid : Laid) (out : IsLaidOut b boxes laid) (held : List ℕ) (s : ℕ) (stays : Bool)
    (narrowed : IsNarrowed b laid.boxes s laid.boxed held stays) where
  left : KeepsJams b boxes held
  left = narrowed.jams boxes (KeepsJams-laid b area boxes laid out)

  -- what is left of a layout is a jam
  pub HasJamWith-narrowed : stays ≡ true → HasDrawnOffGoal b laid.boxes held → HasJamWith b boxes s
  HasJamWith-narrowed stayed (off, one, off_drawn, off_goal) =
      let all = narrowed.left stayed in
      HasJamWith-left b boxes held (laid-exist b boxes laid out) left s (each-held b boxes laid.boxes held left (λ t. (out.listed t).1) all.held) all.drawn off
      off_drawn off_goal

  -- and each jam is left
  pub narrowed-jam : HasJamWith b boxes s → (stays ≡ true) × HasDrawnOffGoal b laid.boxes held
  narrowed-jam (members, jam, member) =
      let (off, one, off_goal) = jam.off_goal in (
        elim (cases_Bool stays) [ inl stayed ↦ stayed | inr taken ↦ absurd (narrowed.gone taken (left.most members jam s member)) ],
        (off, (out.listed off).1 (Contains-member boxes members off one), left.most members jam off one, off_goal),
      )

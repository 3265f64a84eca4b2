-- What a search keeps while nodes are met, and what it has found at its end.
use Rattle.std.proofs.Common.{ℕ, ◌≡◌, ◌<◌, ◌≤◌, ◌+◌, ◌*◌, ◌^◌, ◌⊎◌, inl, inr, refl, sym, ap, ◌∙◌, subst, List, [], ◌∷◌, ◌++◌, true, false, true≢false, Option, Some}
use Rattle.std.proofs.Common.{None, All, IfSome, arith, length, get_or, set, count_by, cond, not, is_some, slice_get, zero, suc, reverse, ◌-◌}
use Rattle.std.proofs.lemmas.Bool.{cases_eq, cases_lt}
use Rattle.std.proofs.lemmas.Option.{none-some, same_Some, option_and_then_some, slice_get_read, slice_get_within}
use Rattle.std.proofs.lemmas.List.{length-set, length-append, get_or-set_same, get_or-set_other, get_or_default, get_or_past, reverse-append}
use Rattle.std.proofs.lemmas.List.Sums.{sum_by-set, count_by-le-length}
use Rattle.std.specs.Option.{option_and_then}
use Rattle.sok_rules.specs.declared.cell.Dir.{Dir}
use Rattle.sok_rules.specs.declared.cell.Dir.TheVariants.{Left, Up, Right, Down}
use Rattle.sok_board.specs.declared.search.Origin.{Origin}
use Rattle.sok_board.specs.declared.search.Step.{Step}
use Rattle.sok_board.specs.Graphs.{Graph, follow, TellsDepth, AreDepths}
use Rattle.sok_board.specs.Searches.{Found, depth_in, origin_in, IsFound, letter, turn, IsNear, IsSearching, IsSearched}
use Rattle.sok_board.proofs.Lists.{slice_get-append, slice_get-push, each-push}

-- what an entry counts among the nodes that are not met
abbrev unmet : Option ℕ → ℕ
unmet o = cond (not (is_some o)) 1 0

-- a table with one depth more counts one node less
unmet-set : (depths : List (Option ℕ)) (t m : ℕ) → t < length depths → is_some (get_or depths t None) ≡ false
    → count_by (λ o. not (is_some o)) (set depths t (Some m)) + 1 ≡ count_by (λ o. not (is_some o)) depths
unmet-set depths t m within new =
    let sum : count_by (λ o. not (is_some o)) (set depths t (Some m)) + unmet (get_or depths t None) ≡ count_by (λ o. not (is_some o)) depths + 0 =
    sum_by-set unmet depths t (Some m) None within in
    let one : unmet (get_or depths t None) ≡ 1 = ap (λ b. cond (not b) 1 0) new in
    omega (arith, sum, one)

letter-few : (d : Dir) → letter d < 4
letter-few d = elim d as (λ d. letter d < 4) [ Left ↦ omega arith | Up ↦ omega arith | Right ↦ omega arith | Down ↦ omega arith ]

abbrev letter_of : ℕ → Dir
letter_of zero = Left
letter_of (suc zero) = Up
letter_of (suc (suc zero)) = Right
letter_of (suc (suc (suc n))) = Down

letter_of-letter : (d : Dir) → letter_of (letter d) ≡ d
letter_of-letter d = elim d as (λ d. letter_of (letter d) ≡ d) [ Left ↦ refl | Up ↦ refl | Right ↦ refl | Down ↦ refl ]

-- a turn tells its step and its letter
same_turn : (k at : ℕ) (e d : Dir) → turn k e ≡ turn at d → (k ≡ at) × (e ≡ d)
same_turn k at e d same =
    let few_e = letter-few e in
    let few_d = letter-few d in
    let letters : letter e ≡ letter d = omega (arith, same, few_e, few_d) in
    (omega (arith, same, few_e, few_d), sym (letter_of-letter e) ∙ ap letter_of letters ∙ letter_of-letter d)

some_of : (o : Option ℕ) → is_some o ≡ true → (m : ℕ) × (o ≡ Some m)
some_of (Some m) some = (m, refl)
some_of None some = absurd (true≢false (sym some))

-- a node with a depth is one of the nodes
pub depth-within : (g : Graph) (f : Found) → IsFound g f → (s m : ℕ) → depth_in f s ≡ Some m → s < g.nodes
depth-within g f found s m is = elim (cases_lt s (length f.depths)) [
  | inl inside ↦ let whole = found.whole in omega (arith, inside, whole)
  | inr past ↦ absurd (none-some m (sym (get_or_past f.depths s None past) ∙ is))
]

-- one turn more, where the node to which it led is met
IsSearching-turn : (g : Graph) (f : Found) (at : ℕ) (a : Step) (d : Dir) → IsSearching g (turn at d) f → slice_get f.steps at ≡ Some a
    → ((t : ℕ) → g.way d a.node ≡ Some t → IsNear f t (a.depth + 1)) → IsSearching g (turn at d + 1) f
IsSearching-turn g f at a d searching there meets = record {
  found = searching.found;
  within = let inside = slice_get_within f.steps at a there in let few = letter-few d in omega (arith, inside, few);
  near = λ j b here past. searching.near j b here (omega (arith, past));
  closed = λ k b here e t below leads. elim (cases_eq (turn k e) (turn at d)) [
    | inl last ↦
        let (same, letters) = same_turn k at e d last in
        let is : b ≡ a = same_Some b a (sym here ∙ ap (slice_get f.steps) same ∙ there) in
        subst (λ (c : Step). IsNear f t (c.depth + 1)) (sym is)
        (meets t (ap (λ (c : Step). g.way d c.node) (sym is) ∙ ap (λ e. g.way e b.node) (sym letters) ∙ leads))
    | inr other ↦ searching.closed k b here e t (omega (arith, below, other)) leads
  ];
}

-- a search with one node more
abbrev pub added : Step → Origin → Found → Found
added new o f = record { depths = set f.depths new.node (Some new.depth); origins = set f.origins new.node o; steps = f.steps ++ new ∷ [] }

-- a letter at a step
module _ (g : Graph) (f : Found) (at : ℕ) (a : Step) (d : Dir) (searching : IsSearching g (turn at d) f) (exists : at < length f.steps)
    (read : a ≡ get_or f.steps at a) where
  there : slice_get f.steps at ≡ Some a
  there = slice_get_read f.steps (length f.steps) at a refl exists read

  in_hand : turn at d < 4 * at + 4
  in_hand = let few = letter-few d in omega (arith, few)

  pub step-within : a.node < g.nodes
  step-within = depth-within g f searching.found a.node a.depth (searching.found.met at a there)

  pub step-shallow : a.depth + 1 < 2 ^ 16
  step-shallow =
      let shallow = searching.found.shallow at a there in
      let count = searching.found.count in
      let few = searching.found.few in
      omega (arith, shallow, exists, count, few)

  -- it leads nowhere
  pub IsSearching-none : g.way d a.node ≡ None → IsSearching g (turn at d + 1) f
  IsSearching-none none = IsSearching-turn g f at a d searching there (λ u leads. absurd (none-some u (sym none ∙ leads)))

  -- it leads to a node
  module _ (t : ℕ) (leads : g.way d a.node ≡ Some t) (within : t < g.nodes) (o : Option ℕ) (entry : o ≡ get_or f.depths t o) where
    inside : t < length f.depths
    inside = let whole = searching.found.whole in omega (arith, within, whole)

    depth_there : depth_in f t ≡ o
    depth_there = get_or_default f.depths t None o inside ∙ sym entry

    -- which is met
    pub IsSearching-met : true ≡ is_some o → IsSearching g (turn at d + 1) f
    IsSearching-met some =
        let (m, is) = some_of o (sym some) in
        let (k, here) = searching.found.listed t m (depth_there ∙ is) in
        IsSearching-turn g f at a d searching there (λ u to.
        (m, ap (depth_in f) (same_Some u t (sym to ∙ leads)) ∙ depth_there ∙ is, searching.near at a there in_hand k (record { node = t; depth = m }) here))

    -- which is new
    module _ (new : false ≡ is_some o) where
      abbrev step : Step
      step = record { node = t; depth = a.depth + 1 }

      abbrev here : Origin
      here = record { from = a.node; dir = d }

      abbrev after : Found
      after = added step here f

      depth_now : depth_in after t ≡ Some (a.depth + 1)
      depth_now = get_or-set_same f.depths t (Some (a.depth + 1)) None inside

      origin_now : origin_in after t ≡ here
      origin_now = get_or-set_same f.origins t here (record { from = 0; dir = Left }) (let room = searching.found.room in omega (arith, within, room))

      cases : (s : ℕ) → (t ≡ s) ⊎ ((depth_in after s ≡ depth_in f s) × (origin_in after s ≡ origin_in f s))
      cases s = elim (cases_eq s t) [
        | inl same ↦ inl (sym same)
        | inr apart ↦ inr (
          get_or-set_other f.depths t s (Some (a.depth + 1)) None apart,
          get_or-set_other f.origins t s here (record { from = 0; dir = Left }) apart,
        )
      ]

      more : (s m : ℕ) → depth_in f s ≡ Some m → depth_in after s ≡ Some m
      more s m is = elim (cases s) [
        | inl same ↦ absurd (true≢false (ap is_some (sym is ∙ ap (depth_in f) (sym same) ∙ depth_there) ∙ sym new))
        | inr (other, _) ↦ other ∙ is
      ]

      -- what holds of each step before, and of the new one
      each : (P : ℕ → Step → Type 0) → ((k : ℕ) (b : Step) → slice_get f.steps k ≡ Some b → P k b) → P (length f.steps) step → (k : ℕ) (b : Step)
          → slice_get after.steps k ≡ Some b → P k b
      each P = each-push P f.steps step

      IsFound-added : IsFound g after
      IsFound-added = record {
        few = searching.found.few;
        whole = length-set f.depths t (Some (a.depth + 1)) ∙ searching.found.whole;
        room = length-set f.origins t here ∙ searching.found.room;
        started = more g.start 0 searching.found.started;
        root = λ s is. elim (cases s) [
          | inl same ↦ absurd (let none = same_Some (a.depth + 1) 0 (sym depth_now ∙ ap (depth_in after) same ∙ is) in omega (arith, none))
          | inr (other, _) ↦ searching.found.root s (sym other ∙ is)
        ];
        back = λ s m is. elim (cases s) [
          | inl same ↦
              let deep : a.depth ≡ m = let both = same_Some (a.depth + 1) (m + 1) (sym depth_now ∙ ap (depth_in after) same ∙ is) in omega (arith, both) in
              subst (λ s. (depth_in after (origin_in after s).from ≡ Some m) × (g.way (origin_in after s).dir (origin_in after s).from ≡ Some s)) same
              (subst (λ (o : Origin). (depth_in after o.from ≡ Some m) × (g.way o.dir o.from ≡ Some t)) (sym origin_now)
              (more a.node m (searching.found.met at a there ∙ ap Some deep), leads))
          | inr (other, from) ↦
              let (before, way) = searching.found.back s m (sym other ∙ is) in
              subst (λ (o : Origin). (depth_in after o.from ≡ Some m) × (g.way o.dir o.from ≡ Some s)) (sym from)
              (more (origin_in f s).from m before, way)
        ];
        met = each (λ k b. depth_in after b.node ≡ Some b.depth) (λ k b here. more b.node b.depth (searching.found.met k b here)) depth_now;
        listed = λ s m is. elim (cases s) [
          | inl same ↦
              let deep : a.depth + 1 ≡ m = same_Some (a.depth + 1) m (sym depth_now ∙ ap (depth_in after) same ∙ is) in
              (length f.steps, slice_get-push f.steps step ∙ (λ i. Some (record { node = same i; depth = deep i })))
          | inr (other, _) ↦
              let (k, listed) = searching.found.listed s m (sym other ∙ is) in
              (k, slice_get-append f.steps (step ∷ []) k (record { node = s; depth = m }) listed)
        ];
        count =
            let count = searching.found.count in
            let fewer = unmet-set f.depths t (a.depth + 1) inside (ap is_some depth_there ∙ sym new) in
            let longer = length-append f.steps (step ∷ []) in
            omega (arith, count, fewer, longer);
        shallow = each (λ k b. b.depth ≤ k) searching.found.shallow
            (let shallow = searching.found.shallow at a there in omega (arith, shallow, exists));
        rising = each (λ k c. (j : ℕ) (b : Step) → slice_get after.steps j ≡ Some b → j ≤ k → b.depth ≤ c.depth)
            (λ k c last. each (λ j b. j ≤ k → b.depth ≤ c.depth) (searching.found.rising k c last)
            (λ below. absurd (let past = slice_get_within f.steps k c last in omega (arith, past, below))))
            (each (λ j b. j ≤ length f.steps → b.depth ≤ a.depth + 1) (λ j b first _. searching.near at a there in_hand j b first) (λ _. omega arith));
      }

      IsSearching-added : IsSearching g (turn at d) after
      IsSearching-added = record {
        found = IsFound-added;
        within = let few = searching.within in let longer = length-append f.steps (step ∷ []) in omega (arith, few, longer);
        near = each (λ j b. turn at d < 4 * j + 4 → (k : ℕ) (c : Step) → slice_get after.steps k ≡ Some c → c.depth ≤ b.depth + 1)
            (λ j b first past. each (λ k c. c.depth ≤ b.depth + 1) (searching.near j b first past)
            (let less = searching.found.rising j b first at a there (omega (arith, past)) in omega (arith, less)))
            (λ past. each (λ k c. c.depth ≤ a.depth + 1 + 1)
            (λ k c last. let close = searching.near at a there in_hand k c last in omega (arith, close)) (omega arith));
        closed = each (λ k c. (e : Dir) (u : ℕ) → turn k e < turn at d → g.way e c.node ≡ Some u → IsNear after u (c.depth + 1))
            (λ k c here e u below to. let (m, is, close) = searching.closed k c here e u below to in (m, more u m is, close))
            (λ e u below to. absurd (let few = searching.within in omega (arith, few, below)));
      }

      pub IsSearching-new : IsSearching g (turn at d + 1) after
      IsSearching-new = IsSearching-turn g after at a d IsSearching-added (slice_get-append f.steps (step ∷ []) at a there)
          (λ u to. (a.depth + 1, ap (depth_in after) (same_Some u t (sym to ∙ leads)) ∙ depth_now, omega arith))

-- a search that has met the start alone
module _ (g : Graph) (blank : List (Option ℕ)) (origins : List Origin) (few : g.nodes < 2 ^ 16) (exists : g.start < g.nodes) (long : length blank ≡ g.nodes)
    (none : All (λ o. o ≡ None) blank) (room : length origins ≡ g.nodes) where
  abbrev pub started : Found
  started = record { depths = set blank g.start (Some 0); origins = origins; steps = record { node = g.start; depth = 0 } ∷ [] }

  first : g.start < length blank
  first = omega (arith, exists, long)

  blank-at : (s : ℕ) → get_or blank s None ≡ None
  blank-at s = elim (cases_lt s (length blank)) [ inl inside ↦ none s None inside | inr past ↦ get_or_past blank s None past ]

  only : (s m : ℕ) → depth_in started s ≡ Some m → (g.start ≡ s) × (m ≡ 0)
  only s m is = elim (cases_eq s g.start) [
    | inl same ↦ (sym same, same_Some m 0 (sym is ∙ ap (depth_in started) same ∙ get_or-set_same blank g.start (Some 0) None first))
    | inr apart ↦ absurd (none-some m (sym (get_or-set_other blank g.start s (Some 0) None apart ∙ blank-at s) ∙ is))
  ]

  each_step : (P : ℕ → Step → Type 0) → P 0 (record { node = g.start; depth = 0 }) → (k : ℕ) (a : Step) → slice_get started.steps k ≡ Some a → P k a
  each_step P holds = each-push P [] (record { node = g.start; depth = 0 })
      (λ k a there. absurd (let past = slice_get_within [] k a there in omega (arith, past))) holds

  pub IsSearching-started : IsSearching g 0 started
  IsSearching-started = record {
    found = record {
      few = few;
      whole = length-set blank g.start (Some 0) ∙ long;
      room = room;
      started = get_or-set_same blank g.start (Some 0) None first;
      root = λ s is. (only s 0 is).0;
      back = λ s m is. absurd (let no = (only s (m + 1) is).1 in omega (arith, no));
      met = each_step (λ k a. depth_in started a.node ≡ Some a.depth) (get_or-set_same blank g.start (Some 0) None first);
      listed = λ s m is. let (same, zero_is) = only s m is in (0, λ i. Some (record { node = same i; depth = sym zero_is i }));
      count =
          let fewer = unmet-set blank g.start 0 first (ap is_some (blank-at g.start)) in
          let all = count_by-le-length (λ (o : Option ℕ). not (is_some o)) blank in
          omega (arith, fewer, all, long);
      shallow = each_step (λ k a. a.depth ≤ k) (omega arith);
      rising = each_step (λ k c. (j : ℕ) (b : Step) → slice_get started.steps j ≡ Some b → j ≤ k → b.depth ≤ c.depth)
          (each_step (λ j b. j ≤ 0 → b.depth ≤ 0) (λ _. omega arith));
    };
    within = omega arith;
    near = each_step (λ j b. 0 < 4 * j + 4 → (k : ℕ) (c : Step) → slice_get started.steps k ≡ Some c → c.depth ≤ b.depth + 1)
        (λ _. each_step (λ k c. c.depth ≤ 0 + 1) (omega arith));
    closed = λ k c there e u below. absurd (omega (arith, below));
  }

-- after a turn for each letter of each step a search is done
pub IsSearched-end : (g : Graph) (turns : ℕ) (f : Found) → IsSearching g turns f → 4 * length f.steps ≤ turns → IsSearched g f
IsSearched-end g turns f searching all = record {
  found = searching.found;
  closed = λ k a d t there. searching.closed k a there d t
      (let inside = slice_get_within f.steps k a there in let few = letter-few d in omega (arith, all, inside, few));
}

-- what a search has found when it is done
module _ (g : Graph) (f : Found) (done : IsSearched g f) where
  -- letters from a node that is met lead to one that is met, and its depth is at most as much greater
  near_along : (w : List Dir) (s m t : ℕ) → depth_in f s ≡ Some m → follow g s w ≡ Some t → IsNear f t (m + length w)
  near_along [] s m t is leads = (m, ap (depth_in f) (sym (same_Some s t leads)) ∙ is, omega arith)
  near_along (d ∷ w) s m t is leads = option_and_then_some (λ u. follow g u w) (g.way d s) t leads (λ u on rest.
      let (k, there) = done.found.listed s m is in
      let (n, next_is, close) = done.closed k (record { node = s; depth = m }) d u there on in
      let (l, last_is, near) = near_along w u n t next_is rest in
      (l, last_is, omega (arith, close, near)))

  pub depth-least : (s m : ℕ) → depth_in f s ≡ Some m → (v : List Dir) → follow g g.start v ≡ Some s → m ≤ length v
  depth-least s m is v leads =
      let (n, met, near) = near_along v g.start 0 s done.found.started leads in
      let same = same_Some m n (sym is ∙ met) in
      omega (arith, same, near)

  pub depth-none : (s : ℕ) → depth_in f s ≡ None → (v : List Dir) → follow g g.start v ≡ Some s → ⊥
  depth-none s none v leads = let (n, met, near) = near_along v g.start 0 s done.found.started leads in none-some n (sym none ∙ met)

  -- where a node was met from, and the letters on from there
  one_back : (s t m : ℕ) (v : List Dir) → depth_in f s ≡ Some (m + 1) → follow g s v ≡ Some t
      → (depth_in f (origin_in f s).from ≡ Some m) × (follow g (origin_in f s).from ((origin_in f s).dir ∷ v) ≡ Some t)
  one_back s t m v is leads = let (before, way) = done.found.back s m is in (before, ap (option_and_then (λ u. follow g u v)) way ∙ leads)

  -- the same of letters that are listed from the last one on
  pub reverse_back : (s t left : ℕ) (letters after : List Dir) (o : Origin) → 0 < left → o ≡ get_or f.origins s o → after ≡ letters ++ o.dir ∷ []
      → depth_in f s ≡ Some left → follow g s (reverse letters) ≡ Some t
      → (depth_in f o.from ≡ Some (left - 1)) × (follow g o.from (reverse after) ≡ Some t)
  reverse_back s t left letters after o some read pushed is leads =
      let within = depth-within g f done.found s left is in
      let inside : s < length f.origins = let room = done.found.room in omega (arith, within, room) in
      let here : origin_in f s ≡ o = get_or_default f.origins s (record { from = 0; dir = Left }) o inside ∙ sym read in
      let more : left ≡ (left - 1) + 1 = omega (arith, some) in
      let turned : reverse after ≡ o.dir ∷ reverse letters = ap reverse pushed ∙ reverse-append letters (o.dir ∷ []) in
      let (before, on) = subst (λ (o : Origin). (depth_in f o.from ≡ Some (left - 1)) × (follow g o.from (o.dir ∷ reverse letters) ≡ Some t)) here
      (one_back s t (left - 1) (reverse letters) (is ∙ ap Some more) leads) in
      (before, ap (follow g o.from) turned ∙ on)

  -- back to the start
  traced : (m s t : ℕ) (v : List Dir) → depth_in f s ≡ Some m → follow g s v ≡ Some t
      → (w : List Dir) × (follow g g.start w ≡ Some t) × (length w ≡ m + length v)
  traced zero s t v is leads = (v, ap (λ r. follow g r v) (done.found.root s is) ∙ leads, omega arith)
  traced (suc m) s t v is leads =
      let (before, on) = one_back s t m v (is ∙ ap Some (omega arith)) leads in
      let (w, lead, long) = traced m (origin_in f s).from t ((origin_in f s).dir ∷ v) before on in
      (w, lead, omega (arith, long))

  tells : (s : ℕ) (o : Option ℕ) → depth_in f s ≡ o → TellsDepth g s o
  tells s None none = depth-none s none
  tells s (Some m) is =
      let (w, lead, long) = traced m s s [] is refl in
      let short : length w ≡ m = omega (arith, long) in
      (w, record { lead = lead; least = λ v leads. let least = depth-least s m is v leads in omega (arith, least, short) }, short)

  few : (s : ℕ) (o : Option ℕ) → depth_in f s ≡ o → IfSome o (λ m. m ≤ g.nodes)
  few s None none = tt
  few s (Some m) is =
      let (k, there) = done.found.listed s m is in
      let shallow = done.found.shallow k (record { node = s; depth = m }) there in
      let inside = slice_get_within f.steps k (record { node = s; depth = m }) there in
      let count = done.found.count in
      omega (arith, shallow, inside, count)

  pub AreDepths-searched : AreDepths g f.depths
  AreDepths-searched = record { whole = done.found.whole; exact = λ s. tells s (depth_in f s) refl; bounded = λ s. few s (depth_in f s) refl }

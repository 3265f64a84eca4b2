-- The entry that a letter and numbers make, and back.
use Rattle.std.proofs.Common.{ℕ, ◌≡◌, ◌≤◌, List, [], ◌∷◌, ◌++◌, Option, Some, None, Bool, true, false, ◌==◌, nat_lt, if◌then◌else◌, ◌⊎◌, inl, inr, length, take}
use Rattle.std.proofs.Common.{true≢false, drop, option_map, sym, ap, ◌∙◌, refl, subst, arith}
use Rattle.std.proofs.lemmas.Bool.{eqb-true}
use Rattle.std.proofs.lemmas.Bool.Decides.{nat_tests}
use Rattle.std.proofs.lemmas.List.{take_at, drop_at, take-append-drop, length-take, length-append}
use Rattle.std.specs.Option.{option_and_then}
use Rattle.std.proofs.lemmas.Option.{none-some, option_and_then_some, same_Some, cond_some}
use Rattle.sok_entry.specs.declared.entry.Entry.{Entry}
use Rattle.sok_entry.specs.declared.entry.Reason.{Reason}
use Rattle.sok_entry.specs.declared.entry.Reason.TheVariants.{Expanded, Spent, Bound, Crowd, Frozen, Pattern}
use Rattle.sok_entry.specs.Text.{is_pattern, letter_of, numbers_of_reason, numbers_of, PricesEachBox}
use Rattle.sok_entry.specs.Entries.{Front, bare, bound_of, entry_behind, entry_of, front_of, members_of, reason_of}

-- which way a choice went
pub if_cases : {X : Type 0} (b : Bool) (x y z : X) → (if b then x else y) ≡ z → ((b ≡ true) × (x ≡ z)) ⊎ ((b ≡ false) × (y ≡ z))
if_cases true x y z same = inl (refl, same)
if_cases false x y z same = inr (refl, same)

if_none : {X : Type 0} (b : Bool) (x y : X) → (if b then None else Some x) ≡ Some y → (b ≡ false) × (x ≡ y)
if_none true x y same = absurd (none-some y same)
if_none false x y same = (refl, same_Some x y same)

pub mapped : {X Y : Type 0} (f : X → Y) (o : Option X) (y : Y) → option_map f o ≡ Some y → (x : X) × (o ≡ Some x) × (f x ≡ y)
mapped f None y same = absurd (none-some y same)
mapped f (Some x) y same = (x, refl, same_Some (f x) y same)

pub no_elements : {X : Type 0} (xs : List X) → length xs == 0 ≡ true → xs ≡ []
no_elements [] none = refl
no_elements (x ∷ xs) none = absurd (grind (arith, nat_tests))

-- the letter and the numbers are those of the reason, which is no pattern
abbrev Makes : ℕ → ℕ → List ℕ → Reason → Type 0
Makes letter boxes more reason = (letter ≡ letter_of reason) × (more ≡ numbers_of_reason reason) × PricesEachBox boxes reason × (is_pattern reason ≡ false)

members_of-some : (more members : List ℕ) → members_of more ≡ Some members → more ≡ length members ∷ members
unfolding members_of
members_of-some [] members same = absurd (none-some members same)
members_of-some (count ∷ rest) members same =
    let found = cond_some (length rest == count) rest members same in
    let counted : count ≡ length rest = sym (eqb-true (length rest) count found.0) in
    ap (λ n. n ∷ rest) counted ∙ ap (λ ms. length ms ∷ ms) found.1

bound_of-some : (boxes : ℕ) (more : List ℕ) (reason : Reason) → bound_of boxes more ≡ Some reason → Makes 98 boxes more reason
bound_of-some boxes more reason same =
    let found = if_none (nat_lt (length more) boxes) (Bound (take boxes more) (drop boxes more)) reason same in
    let long : boxes ≤ length more = grind (arith, nat_tests, found.0) in
    subst (Makes 98 boxes more) found.1 (refl, sym (take-append-drop boxes more), omega (arith, length-take boxes more), refl)

bare_makes : (letter boxes : ℕ) (more : List ℕ) (plain reason : Reason) → letter ≡ letter_of plain → numbers_of_reason plain ≡ [] → PricesEachBox boxes plain
    → is_pattern plain ≡ false → bare more plain ≡ Some reason → Makes letter boxes more reason
bare_makes letter boxes more plain reason is none priced simple same =
    let found = cond_some (length more == 0) plain reason same in
    subst (Makes letter boxes more) found.1 (is, no_elements more found.0 ∙ sym none, priced, simple)

members_make : (letter boxes : ℕ) (more : List ℕ) (make : List ℕ → Reason) (reason : Reason)
    → ((members : List ℕ) → Makes letter boxes (length members ∷ members) (make members))
    → option_map make (members_of more) ≡ Some reason → Makes letter boxes more reason
members_make letter boxes more make reason makes same =
    let found = mapped make (members_of more) reason same in
    subst (Makes letter boxes more) found.2 (subst (λ ns. Makes letter boxes ns (make found.0)) (sym (members_of-some more found.0 found.1)) (makes found.0))

reason_of-some : (letter boxes : ℕ) (more : List ℕ) (reason : Reason) → reason_of letter boxes more ≡ Some reason → Makes letter boxes more reason
unfolding reason_of
reason_of-some letter boxes more reason same = elim (if_cases (letter == 120) (bare more Expanded) _ (Some reason) same) [
  | inl x ↦ bare_makes letter boxes more Expanded reason (eqb-true letter 120 x.0) refl tt refl x.1
  | inr not_x ↦ elim (if_cases (letter == 115) (bare more Spent) _ (Some reason) not_x.1) [
    | inl s ↦ bare_makes letter boxes more Spent reason (eqb-true letter 115 s.0) refl tt refl s.1
    | inr not_s ↦ elim (if_cases (letter == 98) (bound_of boxes more) _ (Some reason) not_s.1) [
      | inl b ↦ subst (λ l. Makes l boxes more reason) (sym (eqb-true letter 98 b.0)) (bound_of-some boxes more reason b.1)
      | inr not_b ↦ elim (if_cases (letter == 99) (option_map Crowd (members_of more)) _ (Some reason) not_b.1) [
        | inl c ↦ members_make letter boxes more Crowd reason (λ members. (eqb-true letter 99 c.0, refl, tt, refl)) c.1
        | inr not_c ↦ elim (if_cases (letter == 102) (option_map Frozen (members_of more)) None (Some reason) not_c.1) [
          | inl f ↦ members_make letter boxes more Frozen reason (λ members. (eqb-true letter 102 f.0, refl, tt, refl)) f.1
          | inr not_f ↦ absurd (none-some reason not_f.1)
        ]
      ]
    ]
  ]
]

counted : (members : List ℕ) → members_of (length members ∷ members) ≡ Some members
unfolding members_of
counted members = let same : length members == length members ≡ true = grind (arith, nat_tests) in ap (λ b. if b then Some members else None) same

bound_of-append : (u v : List ℕ) (boxes : ℕ) → length u ≡ boxes → bound_of boxes (u ++ v) ≡ Some (Bound u v)
bound_of-append u v boxes priced =
    let long : nat_lt (length (u ++ v)) boxes ≡ false = grind (arith, nat_tests, length-append u v) in
    ap (λ b. if b then None else Some (Bound (take boxes (u ++ v)) (drop boxes (u ++ v)))) long
    ∙ (λ i. Some (Bound (take_at u v boxes priced i) (drop_at u v boxes priced i)))

reason_of-numbers : (reason : Reason) (boxes : ℕ) → PricesEachBox boxes reason → is_pattern reason ≡ false → reason_of (letter_of reason) boxes (numbers_of_reason reason) ≡ Some reason
unfolding reason_of
reason_of-numbers Expanded boxes priced simple = refl
reason_of-numbers Spent boxes priced simple = refl
reason_of-numbers (Bound u v) boxes priced simple = bound_of-append u v boxes priced
reason_of-numbers (Crowd members) boxes priced simple = ap (option_map Crowd) (counted members)
reason_of-numbers (Frozen members) boxes priced simple = ap (option_map Frozen) (counted members)
reason_of-numbers (Pattern members inner) boxes priced simple = absurd (true≢false simple)

-- what stands in front, as numbers
abbrev pub numbers_of_front : Front → List ℕ
numbers_of_front front = front.depth ∷ front.player ∷ length front.boxes ∷ front.boxes ++ front.more

pub front_of-numbers : (front : Front) → front_of (numbers_of_front front) ≡ Some front
unfolding front_of
front_of-numbers front =
    let count = length front.boxes in
    let more = front.boxes ++ front.more in
    let long : nat_lt (length more) count ≡ false = grind (arith, nat_tests, length-append front.boxes front.more) in
    let make : List ℕ → List ℕ → Front = λ boxes rest. record { depth = front.depth; player = front.player; boxes = boxes; more = rest } in
    ap (λ b. if b then None else Some (make (take count more) (drop count more))) long
    ∙ (λ i. Some (make (take_at front.boxes front.more count refl i) (drop_at front.boxes front.more count refl i)))

pub front_of-some : (ns : List ℕ) (front : Front) → front_of ns ≡ Some front → ns ≡ numbers_of_front front
unfolding front_of
front_of-some [] front same = absurd (none-some front same)
front_of-some (depth ∷ []) front same = absurd (none-some front same)
front_of-some (depth ∷ player ∷ []) front same = absurd (none-some front same)
front_of-some (depth ∷ player ∷ count ∷ more) front same =
    let made : Front = record { depth = depth; player = player; boxes = take count more; more = drop count more } in
    let (long, is) = if_none (nat_lt (length more) count) made front same in
    let enough : count ≤ length more = grind (arith, nat_tests, long) in
    let counts : length (take count more) ≡ count = omega (arith, enough, length-take count more) in
    subst (λ f. ◌≡◌ {A = List ℕ} (depth ∷ player ∷ count ∷ more) (numbers_of_front f)) is
    (λ i. depth ∷ player ∷ sym counts i ∷ sym (take-append-drop count more) i)

-- the entry that an entry's letter and numbers make is the entry itself, unless it is a pattern
pub entry_of-numbers : (e : Entry) → PricesEachBox (length e.boxes) e.reason → is_pattern e.reason ≡ false → entry_of (letter_of e.reason) (numbers_of e) ≡ Some e
unfolding entry_of
entry_of-numbers e priced simple =
    let front : Front = record { depth = e.depth; player = e.player; boxes = e.boxes; more = numbers_of_reason e.reason } in
    let make : Reason → Entry = λ reason. record { depth = e.depth; player = e.player; boxes = e.boxes; reason = reason } in
    ap (option_and_then (entry_behind (letter_of e.reason))) (front_of-numbers front)
    ∙ ap (option_map make) (reason_of-numbers e.reason (length e.boxes) priced simple)

-- and no other letter or numbers make it
pub entry_of-some : (letter : ℕ) (ns : List ℕ) (e : Entry) → entry_of letter ns ≡ Some e → (letter ≡ letter_of e.reason) × (ns ≡ numbers_of e)
    × PricesEachBox (length e.boxes) e.reason
    × (is_pattern e.reason ≡ false)
unfolding entry_of
entry_of-some letter ns e same = option_and_then_some (entry_behind letter) (front_of ns) e same (λ front is made.
    let make : Reason → Entry = λ reason. record { depth = front.depth; player = front.player; boxes = front.boxes; reason = reason } in
    let found = mapped make (reason_of letter (length front.boxes) front.more) e made in
    let makes = reason_of-some letter (length front.boxes) front.more found.0 found.1 in
    let numbers : ns ≡ numbers_of (make found.0) = front_of-some ns front is
    ∙ ap (λ rest. front.depth ∷ front.player ∷ length front.boxes ∷ front.boxes ++ rest) makes.1 in
    let Is : Entry → Type 0 = λ x. (letter ≡ letter_of x.reason) × (ns ≡ numbers_of x) × PricesEachBox (length x.boxes) x.reason × (is_pattern x.reason ≡ false) in
    subst Is found.2 (makes.0, numbers, makes.2, makes.3))

-- Which letters of a legal list push.
use Rattle.std.proofs.Common.{ℕ, ◌≡◌, ◌<◌, ◌≤◌, ◌+◌, refl, sym, ap, ◌∙◌, subst, List, [], ◌∷◌, ◌++◌, length, take, drop}
use Rattle.std.proofs.Common.{get_or, Bool, true≢false, Option, Some, None, IsSome, arith}
use Rattle.std.proofs.lemmas.List.{drop_more, length-take-le, take-append-drop, take_more}
use Rattle.std.proofs.lemmas.Option.{same_Some, none-some}
use Rattle.std.proofs.Math.Seq.{get_or-append_seam, take-append_seam}
use Rattle.std.specs.Option.{option_and_then, option_map_or}
use Rattle.sok_rules.specs.declared.cell.Dir.{Dir}
use Rattle.sok_rules.specs.Squares.{Rows}
use Rattle.sok_rules.specs.Play.{After, Position, run, step}
use Rattle.sok_rules.specs.Replay.{push_marks}
use Rattle.sok_rules.proofs.Runs.{run-append}

pub push_marks-append : (rows : Rows) (w v : List Dir) (x y : Position) → run rows x w ≡ Some y
    → push_marks rows x (w ++ v) ≡ push_marks rows x w ++ push_marks rows y v
push_marks-append rows [] v x y = λ e. ap (λ p. push_marks rows p v) (same_Some x y e)
push_marks-append rows (d ∷ w) v x y = elim (step rows d x) as (λ o. option_and_then (λ after. run rows after.position w) o ≡ Some y
    → option_map_or (λ after. after.pushed ∷ push_marks rows after.position (w ++ v)) o []
    ≡ option_map_or (λ after. after.pushed ∷ push_marks rows after.position w) o [] ++ push_marks rows y v) [
      | None ↦ λ e. absurd (none-some y e)
      | Some a ↦ λ e. ap (λ rest. a.pushed ∷ rest) (push_marks-append rows w v a.position y e)
    ]

pub length-push_marks : (rows : Rows) (w : List Dir) (x y : Position) → run rows x w ≡ Some y → length (push_marks rows x w) ≡ length w
length-push_marks rows [] x y = λ e. refl
length-push_marks rows (d ∷ w) x y = elim (step rows d x) as (λ o. option_and_then (λ after. run rows after.position w) o ≡ Some y
    → length (option_map_or (λ after. after.pushed ∷ push_marks rows after.position w) o []) ≡ length (d ∷ w)) [
      | None ↦ λ e. absurd (none-some y e)
      | Some a ↦ λ e. let rest = length-push_marks rows w a.position y e in omega (arith, rest)
    ]

-- the front of a legal list
pub take-push_marks : (rows : Rows) (w : List Dir) (x y : Position) (at : ℕ) → at ≤ length w → run rows x (take at w) ≡ Some y
    → take at (push_marks rows x w) ≡ push_marks rows x (take at w)
take-push_marks rows w x y at within legal =
    let front = take at w in
    let split : push_marks rows x w ≡ push_marks rows x front ++ push_marks rows y (drop at w) =
    ap (push_marks rows x) (sym (take-append-drop at w)) ∙ push_marks-append rows front (drop at w) x y legal in
    let whole : length (push_marks rows x front) ≡ at = length-push_marks rows front x y legal ∙ length-take-le at w within in
    ap (take at) split ∙ ap (λ n. take n (push_marks rows x front ++ push_marks rows y (drop at w))) (sym whole)
    ∙ take-append_seam (push_marks rows x front) (push_marks rows y (drop at w))

-- the letter at a place of a legal list
pub record IsLetter (rows : Rows) (y : Position) (d : Dir) (pushed : Bool) (a : After) : Type 0 where
  pub leads : step rows d y ≡ Some a
  pub pushed_is : pushed ≡ a.pushed

pub some_of : {A : Type 0} (o : Option A) → IsSome o → (x : A) × (o ≡ Some x)
some_of None none = absurd (true≢false (sym none))
some_of (Some x) _ = (x, refl)

legal_letter : (rows : Rows) (y : Position) (d : Dir) (rest : List Dir) → IsSome (run rows y (d ∷ rest)) → (a : After) × (step rows d y ≡ Some a)
legal_letter rows y d rest = elim (step rows d y) as (λ o. IsSome (option_and_then (λ after. run rows after.position rest) o) → (a : After) × (o ≡ Some a)) [
  | None ↦ λ none. absurd (true≢false (sym none))
  | Some a ↦ λ _. (a, refl)
]

at_seam : {X : Type 0} (front : List X) (x : X) (rest all : List X) (at : ℕ) (none : X) → all ≡ front ++ (x ∷ rest) → length front ≡ at → get_or all at none ≡ x
at_seam front x rest all at none is length_front = ap (λ xs. get_or xs at none) is ∙ ap (λ n. get_or (front ++ (x ∷ rest)) n none) (sym length_front)
    ∙ get_or-append_seam front x rest none

-- the mark of the letter behind a front of a legal list
push_marks-seam : (rows : Rows) (front : List Dir) (d : Dir) (rest : List Dir) (x y : Position) (a : After) → run rows x front ≡ Some y → step rows d y ≡ Some a
    → push_marks rows x (front ++ d ∷ rest) ≡ push_marks rows x front ++ a.pushed ∷ push_marks rows a.position rest
push_marks-seam rows front d rest x y a so_far leads =
    push_marks-append rows front (d ∷ rest) x y so_far
    ∙ ap (λ o. push_marks rows x front ++ option_map_or (λ (one : After). one.pushed ∷ push_marks rows one.position rest) o []) leads

at_place : (w : List Dir) (at : ℕ) (other : Dir) → at < length w → w ≡ take at w ++ get_or w at other ∷ drop (at + 1) w
at_place w at other within = sym (take-append-drop at w) ∙ ap (λ back. take at w ++ back) (drop_more w at other within)

mark_at : (rows : Rows) (w : List Dir) (x y : Position) (at : ℕ) (other : Dir) (none : Bool) (a : After) → at < length w
    → run rows x (take at w) ≡ Some y → step rows (get_or w at other) y ≡ Some a → get_or (push_marks rows x w) at none ≡ a.pushed
mark_at rows w x y at other none a within so_far leads =
    let front = take at w in
    let rest = drop (at + 1) w in
    let whole : length (push_marks rows x front) ≡ at = length-push_marks rows front x y so_far ∙ length-take-le at w (omega (arith, within)) in
    at_seam (push_marks rows x front) a.pushed (push_marks rows a.position rest) (push_marks rows x w) at none
    (ap (push_marks rows x) (at_place w at other within) ∙ push_marks-seam rows front (get_or w at other) rest x y a so_far leads) whole

pub IsLetter-at : (rows : Rows) (w : List Dir) (x y : Position) (at : ℕ) (other : Dir) (none : Bool) → at < length w → IsSome (run rows x w)
    → run rows x (take at w) ≡ Some y → (a : After) × IsLetter rows y (get_or w at other) (get_or (push_marks rows x w) at none) a
IsLetter-at rows w x y at other none within legal so_far =
    let d = get_or w at other in
    let rest = drop (at + 1) w in
    let ran : run rows x w ≡ run rows y (d ∷ rest) =
    ap (run rows x) (at_place w at other within) ∙ run-append rows (take at w) (d ∷ rest) x ∙ ap (option_and_then (λ z. run rows z (d ∷ rest))) so_far in
    let (a, leads) = legal_letter rows y d rest (subst IsSome ran legal) in
    (a, record { leads = leads; pushed_is = mark_at rows w x y at other none a within so_far leads })

-- one more letter of a list
pub push_marks-take_more : (rows : Rows) (x y : Position) (w : List Dir) (at : ℕ) (other : Dir) (a : After) → at < length w → run rows x (take at w) ≡ Some y
    → step rows (get_or w at other) y ≡ Some a → push_marks rows x (take (at + 1) w) ≡ push_marks rows x (take at w) ++ a.pushed ∷ []
push_marks-take_more rows x y w at other a within so_far leads =
    ap (push_marks rows x) (take_more w at other within) ∙ push_marks-seam rows (take at w) (get_or w at other) [] x y a so_far leads

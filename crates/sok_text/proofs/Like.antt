-- Rows that are as good as others for the level that they are of.
use Rattle.std.proofs.Common.{ℕ, ◌≡◌, ◌≢◌, ◌<◌, ◌≤◌, ◌+◌, ◌-◌, List, [], ◌∷◌, ◌++◌, Bool, true, false, Some, None, Ok, Err, suc, zero, ◌||◌, nat_lt}
use Rattle.std.proofs.Common.{length, map, replicate, sym, ap, ◌∙◌, refl, subst, inl, inr, arith}
use Rattle.std.proofs.lemmas.Bool.{cases_lt}
use Rattle.std.proofs.lemmas.Bool.Decides.{nat_tests}
use Rattle.std.proofs.lemmas.List.{append_assoc, append-nil, length-append, length-map, length-replicate, replicate_more}
use Rattle.std.specs.List.{list_any}
use Rattle.sok_rules.specs.Limits.{size_limit}
use Rattle.sok_rules.specs.declared.cell.Cell.{Cell}
use Rattle.sok_rules.specs.declared.cell.Cell.TheVariants.{Wall, Floor, Goal, BoxOff, BoxOn, ManOff, ManOn}
use Rattle.sok_rules.specs.declared.fault.LevelFault.TheVariants.{TooWide}
use Rattle.sok_rules.specs.Squares.{Rows}
use Rattle.sok_rules.specs.Levels.{fault_of, level_of, onto, trimmed}
use Rattle.sok_rules.proofs.Proper.{level_of-some, level_of-tall}
use Rattle.sok_rules.proofs.Rows.{trimmed-floor, trimmed-push}
use Rattle.sok_text.specs.Like.{IsLike, AreLike}

-- floor at the end of a row
pub trimmed-floors : (k : ℕ) (row : List Cell) → trimmed (row ++ replicate k Floor) ≡ trimmed row
trimmed-floors zero row = ap trimmed (append-nil row)
trimmed-floors (suc k) row =
    ap trimmed (sym (append_assoc row (Floor ∷ []) (replicate k Floor))) ∙ trimmed-floors k (row ++ Floor ∷ []) ∙ trimmed-floor row

onto-longer : (cell : Cell) (a b : List Cell) → length a ≤ length b → length (onto cell a) ≤ length (onto cell b)
onto-longer Floor [] b short = omega arith
onto-longer Floor (x ∷ a) [] short = absurd (omega arith)
onto-longer Floor (x ∷ a) (y ∷ b) short = omega arith
onto-longer Wall a b short = omega arith
onto-longer Goal a b short = omega arith
onto-longer BoxOff a b short = omega arith
onto-longer BoxOn a b short = omega arith
onto-longer ManOff a b short = omega arith
onto-longer ManOn a b short = omega arith

trimmed-longer : (row more : List Cell) → length (trimmed row) ≤ length (trimmed (row ++ more))
trimmed-longer [] more = omega arith
trimmed-longer (cell ∷ row) more = onto-longer cell (trimmed row) (trimmed (row ++ more)) (trimmed-longer row more)

-- a cell that is no floor is kept, with all before it
trimmed-kept : (row more : List Cell) (cell : Cell) → cell ≢ Floor → length row < length (trimmed ((row ++ cell ∷ []) ++ more))
trimmed-kept row more cell full =
    omega (arith, trimmed-longer (row ++ cell ∷ []) more, ap length (trimmed-push row cell full), length-append row (cell ∷ []))

-- and so are several
pub trimmed-several : (row more : List Cell) (cell : Cell) (n : ℕ) → cell ≢ Floor → 0 < n → size_limit < length row + n
    → size_limit < length (trimmed ((row ++ replicate n cell) ++ more))
trimmed-several row more cell n full some wide =
    let front = row ++ replicate (n - 1) cell in
    let last : row ++ replicate n cell ≡ front ++ cell ∷ [] = ap (λ k. row ++ replicate k cell) (omega arith) ∙ ap (λ cells. row ++ cells) (sym (replicate_more (n - 1) cell))
    ∙ sym (append_assoc row (replicate (n - 1) cell) (cell ∷ [])) in
    omega (
      arith,
      trimmed-kept front more cell full,
      ap (λ cells. length (trimmed (cells ++ more))) last,
      length-append row (replicate (n - 1) cell),
      length-replicate (n - 1) cell,
    )

pub AreLike-push : (rows others : Rows) (row other : List Cell) → AreLike rows others → IsLike row other → AreLike (rows ++ row ∷ []) (others ++ other ∷ [])
AreLike-push [] [] row other like more = (more, tt)
AreLike-push [] (o ∷ others) row other like more = absurd like
AreLike-push (r ∷ rows) [] row other like more = absurd like
AreLike-push (r ∷ rows) (o ∷ others) row other like more = (like.0, AreLike-push rows others row other like.1 more)

pub length-AreLike : (rows others : Rows) → AreLike rows others → length rows ≡ length others
length-AreLike [] [] like = refl
length-AreLike [] (o ∷ others) like = absurd like
length-AreLike (r ∷ rows) [] like = absurd like
length-AreLike (r ∷ rows) (o ∷ others) like = ap suc (length-AreLike rows others like.1)

abbrev is_wide : List Cell → Bool
is_wide row = nat_lt size_limit (length row)

abbrev any_wide : Rows → Bool
any_wide rows = list_any is_wide (map trimmed rows)

-- rows like others are all the same, or some are too wide in both
data Same (rows others : Rows) : Type 0 where
  same : map trimmed rows ≡ map trimmed others → Same rows others
  wide : any_wide rows ≡ true → any_wide others ≡ true → Same rows others

wide_row : (row : List Cell) → size_limit < length row → is_wide row ≡ true
wide_row row long = grind (arith, nat_tests)

or-right : (a b : Bool) → b ≡ true → (a || b) ≡ true
or-right true b e = refl
or-right false b e = e

same_rows : (rows others : Rows) → AreLike rows others → Same rows others
same_rows [] [] like = same refl
same_rows [] (o ∷ others) like = absurd like
same_rows (r ∷ rows) [] like = absurd like
same_rows (r ∷ rows) (o ∷ others) like = elim (same_rows rows others like.1) [
  | wide here there ↦ wide (or-right (is_wide (trimmed r)) (any_wide rows) here) (or-right (is_wide (trimmed o)) (any_wide others) there)
  | same rest ↦ elim like.0 [
    | inl equal ↦ same (λ i. equal i ∷ rest i)
    | inr both ↦ wide (ap (λ b. b || any_wide rows) (wide_row (trimmed r) both.0)) (ap (λ b. b || any_wide others) (wide_row (trimmed o) both.1))
  ]
]

too_wide : (rows : Rows) → length rows ≤ size_limit → any_wide rows ≡ true → level_of rows ≡ Err TooWide
unfolding fault_of
too_wide rows few one =
    let short : nat_lt size_limit (length (map trimmed rows)) ≡ false = subst (λ n. nat_lt size_limit n ≡ false) (sym (length-map rows trimmed)) (grind (arith, nat_tests)) in
    level_of-some rows TooWide (rw (short, one))

-- so they are of the same level
pub level_of-like : (rows others : Rows) → AreLike rows others → level_of rows ≡ level_of others
unfolding level_of
level_of-like rows others like =
    let long = length-AreLike rows others like in
    elim (cases_lt size_limit (length rows)) [
      | inl tall ↦ level_of-tall rows tall ∙ sym (level_of-tall others (omega arith))
      | inr few ↦ elim (same_rows rows others like) [
        | same equal ↦ ap (λ cells. elim (fault_of cells) [ None ↦ Ok cells | Some fault ↦ Err fault ]) equal
        | wide here there ↦ too_wide rows few here ∙ sym (too_wide others (omega arith) there)
      ]
    ]

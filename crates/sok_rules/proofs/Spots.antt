-- Squares that are the same, and squares beside one another.
use Rattle.std.proofs.Common.{ℕ, ◌≡◌, ◌+◌, refl, sym, ap, ◌∙◌, inl, inr, Option, Some, None, true, false, arith, suc, zero, option_map}
use Rattle.std.proofs.lemmas.Bool.{cases_Bool}
use Rattle.std.proofs.lemmas.Bool.Decides.{nat_tests}
use Rattle.std.proofs.lemmas.Option.{same_Some, none-some}
use Rattle.sok_rules.specs.declared.cell.Dir.{Dir}
use Rattle.sok_rules.specs.declared.cell.Dir.TheVariants.{Left, Up, Right, Down}
use Rattle.sok_rules.specs.declared.cell.Spot.{Spot}
use Rattle.sok_rules.specs.Squares.{before, next, opposite, same_spot}

-- squares that test as the same are the same
pub same_spot-is : (a b : Spot) → same_spot a b ≡ true → a ≡ b
same_spot-is a b e =
    let row : a.row ≡ b.row = grind (arith, nat_tests, e) in
    let col : a.col ≡ b.col = grind (arith, nat_tests, e) in
    λ i. record { row = row i; col = col i }

pub same_spot-refl : (a : Spot) → same_spot a a ≡ true
same_spot-refl a = grind (arith, nat_tests)

pub same_spot-sym : (a b : Spot) → same_spot a b ≡ same_spot b a
same_spot-sym a b = grind (arith, nat_tests)

pub same_spot-apart : (a b : Spot) → (a ≡ b → ⊥) → same_spot a b ≡ false
same_spot-apart a b apart = elim (cases_Bool (same_spot a b)) [ inl same ↦ absurd (apart (same_spot-is a b same)) | inr other ↦ other ]

pub apart_back : (a b : Spot) → same_spot a b ≡ false → same_spot b a ≡ false
apart_back a b apart = same_spot-sym b a ∙ apart

before-suc : (n m : ℕ) → before n ≡ Some m → n ≡ m + 1
before-suc zero m e = absurd (none-some m e)
before-suc (suc n) m e = let same = same_Some n m e in omega (arith, same)

before-add_one : (n : ℕ) → before (n + 1) ≡ Some n
before-add_one n = let e : n + 1 ≡ suc n = omega arith in ap before e

moved_back : (f : ℕ → Spot) (o : Option ℕ) (q : Spot) {P : Type 0} → option_map f o ≡ Some q → ((c : ℕ) → o ≡ Some c → f c ≡ q → P) → P
moved_back f None q e k = absurd (none-some q e)
moved_back f (Some c) q e k = k c refl (same_Some (f c) q e)

pub opposite-twice : (d : Dir) → opposite (opposite d) ≡ d
opposite-twice Left = refl
opposite-twice Up = refl
opposite-twice Right = refl
opposite-twice Down = refl

-- one step back along the opposite direction
pub next-opposite : (d : Dir) (s q : Spot) → next d s ≡ Some q → next (opposite d) q ≡ Some s
next-opposite Left s q e = moved_back (λ c. record s { col = c }) (before s.col) q e (λ c b f.
    ap (λ (t : Spot). next Right t) (sym f) ∙ ap (λ n. Some (record s { col = n })) (sym (before-suc s.col c b)))
next-opposite Up s q e = moved_back (λ r. record s { row = r }) (before s.row) q e (λ r b f.
    ap (λ (t : Spot). next Down t) (sym f) ∙ ap (λ n. Some (record s { row = n })) (sym (before-suc s.row r b)))
next-opposite Right s q e = ap (next Left) (sym (same_Some (record s { col = s.col + 1 }) q e))
    ∙ ap (option_map (λ c. record s { col = c })) (before-add_one s.col)
next-opposite Down s q e = ap (next Up) (sym (same_Some (record s { row = s.row + 1 }) q e))
    ∙ ap (option_map (λ r. record s { row = r })) (before-add_one s.row)

-- a square and the next one are apart
pub apart_next : (d : Dir) (q t : Spot) → next d q ≡ Some t → same_spot q t ≡ false
apart_next Left q t e = moved_back (λ c. record q { col = c }) (before q.col) t e (λ c b f.
    let col : q.col ≡ c + 1 = before-suc q.col c b in ap (λ s. same_spot q s) (sym f) ∙ grind (arith, nat_tests, col))
apart_next Up q t e = moved_back (λ r. record q { row = r }) (before q.row) t e (λ r b f.
    let row : q.row ≡ r + 1 = before-suc q.row r b in ap (λ s. same_spot q s) (sym f) ∙ grind (arith, nat_tests, row))
apart_next Right q t e = ap (λ s. same_spot q s) (sym (same_Some (record q { col = q.col + 1 }) t e)) ∙ grind (arith, nat_tests)
apart_next Down q t e = ap (λ s. same_spot q s) (sym (same_Some (record q { row = q.row + 1 }) t e)) ∙ grind (arith, nat_tests)

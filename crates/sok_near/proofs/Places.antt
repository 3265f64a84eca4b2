-- Whether a line is nearly of a board is told by its first bytes, and the lines of a text one after another.
use Rattle.std.proofs.Common.{ℕ, ◌≡◌, ◌+◌, ◌<◌, ◌≤◌, List, [], ◌∷◌, ◌++◌, Option, Some, None, false, ◌&&◌, ◌||◌, if◌then◌else◌, nat_le, length, take}
use Rattle.std.proofs.Common.{position, sym, ap, ◌∙◌, refl, inl, inr, arith, add-zero}
use Rattle.std.proofs.lemmas.Bool.{cases_lt}
use Rattle.std.proofs.lemmas.Bool.Decides.{nat_tests}
use Rattle.std.proofs.lemmas.List.{append_assoc, append-nil, length-append, length-take, take_all}
use Rattle.std.specs.Str.Lines.{strip_carriage_return}
use Rattle.sok_text.specs.Kinds.{kind_of}
use Rattle.sok_text.specs.declared.kind.Kind.{Kind}
use Rattle.sok_text.specs.declared.kind.Kind.TheVariants.{Row, Packed, Note}
use Rattle.sok_text.proofs.Lines.{length-strip_most}
use Rattle.sok_near.specs.NearLines.{near_limit, is_hidden_title, is_odd, is_odd_row, near_by, near_place, near_at, near_from}

near_by-long : (kind : Kind) (line : List ℕ) → near_limit < length line → near_by kind line ≡ None
near_by-long Row line long = refl
near_by-long Packed line long = refl
near_by-long Note line long =
    let past : nat_le (length line) near_limit ≡ false = grind (arith, nat_tests) in
    ap (λ b. if b && (is_hidden_title line || is_odd_row line) then position is_odd line else None) past

-- a long line is not looked at
near_place-long : (line : List ℕ) → near_limit < length line → near_place line ≡ None
unfolding near_place
near_place-long line long = near_by-long (kind_of line) line long

-- an empty line has no wall
pub near_place-nil : near_place [] ≡ None
unfolding near_place
near_place-nil = refl

pub near_place-take : (line : List ℕ) → near_place (take 1002 line) ≡ near_place line
near_place-take line = elim (cases_lt 1002 (length line)) [
  | inl long ↦ near_place-long (take 1002 line) (omega (arith, length-take 1002 line)) ∙ sym (near_place-long line (omega arith))
  | inr short ↦ ap near_place (take_all 1002 line short)
]

pub near_place-strip : (line : List ℕ) → near_place (strip_carriage_return (take 1002 line)) ≡ near_place (strip_carriage_return line)
near_place-strip line = elim (cases_lt 1002 (length line)) [
  | inl long ↦
      near_place-long (strip_carriage_return (take 1002 line)) (omega (arith, length-take 1002 line, length-strip_most (take 1002 line)))
      ∙ sym (near_place-long (strip_carriage_return line) (omega (arith, length-strip_most line)))
  | inr short ↦ ap (λ kept. near_place (strip_carriage_return kept)) (take_all 1002 line short)
]

length-near_at : (n : ℕ) (place : Option ℕ) → length (near_at n place) ≤ 1
length-near_at n None = omega arith
length-near_at n (Some place) = omega arith

-- they are no more than the lines
pub length-near_from : (n : ℕ) (ls : List (List ℕ)) → length (near_from n ls) ≤ length ls
length-near_from n [] = omega arith
length-near_from n (line ∷ ls) = omega (
  arith,
  length-append (near_at n (near_place line)) (near_from (n + 1) ls),
  length-near_at n (near_place line),
  length-near_from (n + 1) ls,
)

-- one line more
pub near_from-push : (n : ℕ) (ls : List (List ℕ)) (line : List ℕ)
    → near_from n (ls ++ line ∷ []) ≡ near_from n ls ++ near_at (n + length ls) (near_place line)
near_from-push n [] line = append-nil (near_at n (near_place line)) ∙ ap (λ m. near_at m (near_place line)) (sym (add-zero n))
near_from-push n (first ∷ ls) line =
    let here = near_at n (near_place first) in
    let same : n + 1 + length ls ≡ n + length (first ∷ ls) = omega arith in
    ap (λ more. here ++ more) (near_from-push (n + 1) ls line)
    ∙ sym (append_assoc here (near_from (n + 1) ls) (near_at (n + 1 + length ls) (near_place line)))
    ∙ ap (λ m. (here ++ near_from (n + 1) ls) ++ near_at m (near_place line)) same

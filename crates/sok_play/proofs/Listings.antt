-- The lines of a collection's levels, one after another.
use Rattle.std.proofs.Common.{ℕ, ◌≡◌, ◌≢◌, ◌⊎◌, ◌∙◌, ◌+◌, ◌<◌, inl, inr, List, [], ◌∷◌, ◌++◌, suc, zero, drop, length, refl, sym, ap, arith, append_assoc}
use Rattle.std.proofs.Common.{append-nil, subst, Result, Err}
use Rattle.std.proofs.lemmas.List.{drop_all}
use Rattle.sok_rules.specs.declared.fault.LevelFault.{LevelFault}
use Rattle.sok_rules.specs.declared.fault.LevelFault.TheVariants as level
use Rattle.sok_rules.specs.Squares.{Rows}
use Rattle.sok_text.specs.Collections.{Block, level_at}
use Rattle.sok_text.specs.Titles.{title_at}
use Rattle.sok_engine.specs.Written.{HasOne}
use Rattle.sok_play.specs.Listing.{IsListing, level_line, lines_from}

-- the line of a level, and then the lines of those after it
pub lines_from-drop : (n : ℕ) (blocks : List Block) (i : ℕ) → i < length blocks
    → lines_from n (drop i blocks) ≡ level_line n (level_at blocks (suc i)) (title_at blocks (suc i)) ++ lines_from (n + 1) (drop (suc i) blocks)
unfolding lines_from level_at
lines_from-drop n [] i within = absurd (omega arith)
lines_from-drop n (block ∷ blocks) zero within = refl
lines_from-drop n (block ∷ blocks) (suc i) within = lines_from-drop n blocks i (omega arith)

-- the text so far, and the lines that are left, are all lines
abbrev pub IsPartOf : List Block → ℕ → List ℕ → Type 0
IsPartOf blocks i text = text ++ lines_from (i + 1) (drop i blocks) ≡ lines_from 1 blocks

next_line : (blocks : List Block) (i : ℕ) → i < length blocks
    → lines_from (i + 1) (drop i blocks) ≡ level_line (i + 1) (level_at blocks (i + 1)) (title_at blocks (i + 1))
    ++ lines_from (i + 1 + 1) (drop (i + 1) blocks)
next_line blocks i within =
    let step = lines_from-drop (i + 1) blocks i within in
    let same : suc i ≡ i + 1 = omega arith in
    step ∙ ap (λ k. level_line (i + 1) (level_at blocks k) (title_at blocks k) ++ lines_from (i + 1 + 1) (drop k blocks)) same

pub IsPartOf-more : (blocks : List Block) (i : ℕ) (text more : List ℕ) → i < length blocks → IsPartOf blocks i text
    → more ≡ text ++ level_line (i + 1) (level_at blocks (i + 1)) (title_at blocks (i + 1)) → IsPartOf blocks (i + 1) more
IsPartOf-more blocks i text more within part grown =
    let line = level_line (i + 1) (level_at blocks (i + 1)) (title_at blocks (i + 1)) in
    let left = lines_from (i + 1 + 1) (drop (i + 1) blocks) in
    ap (λ t. t ++ left) grown ∙ append_assoc text line left ∙ ap (λ t. text ++ t) (sym (next_line blocks i within)) ∙ part

pub IsPartOf-whole : (blocks : List Block) (i : ℕ) (text : List ℕ) → i ≡ length blocks → IsPartOf blocks i text → text ≡ lines_from 1 blocks
unfolding lines_from
IsPartOf-whole blocks i text end part =
    let none : drop i blocks ≡ [] = drop_all i blocks (omega arith) in
    sym (append-nil text) ∙ ap (λ left. text ++ lines_from (i + 1) left) (sym none) ∙ part

pub IsListing-one : (bytes : List ℕ) → HasOne (IsListing bytes)
IsListing-one bytes a b is_a is_b = is_a ∙ sym is_b

abbrev no_level : LevelFault → Result Rows LevelFault
no_level fault = Err fault

-- what holds of the fault of a level that was not made, want of memory aside, holds of the level that was found
pub found-fault : (found : Result Rows LevelFault) (fault : LevelFault) (holds : Result Rows LevelFault → Type 0)
    → (no_level fault ≡ no_level level.Memory) ⊎ (no_level fault ≡ found) → (fault ≢ level.Memory) × holds (no_level fault) → holds found
found-fault found fault holds (inl memory) is = let none : fault ≡ level.Memory = cc in absurd (is.0 none)
found-fault found fault holds (inr same) is = subst holds same is.1

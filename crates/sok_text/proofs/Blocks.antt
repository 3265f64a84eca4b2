-- The blocks of a collection, from the slices that it keeps.
use Rattle.std.proofs.Common.{ℕ, ◌≡◌, ◌<◌, ◌≤◌, ◌+◌, List, [], ◌∷◌, ◌++◌, Option, Some, None, zero, suc, map}
use Rattle.std.proofs.Common.{slice_get, length, sym, ap, ◌∙◌, refl, subst, arith, add-one, take, ◌-◌}
use Rattle.std.proofs.lemmas.Option.{none-some, same_Some}
use Rattle.std.proofs.lemmas.List.{append_assoc, append-nil}
use Rattle.std.specs.Option.{SomeIff}
use Rattle.std.specs.Str.Lines.{lines}
use Rattle.sok_text.specs.declared.kind.Kind.TheVariants.{Note}
use Rattle.sok_text.specs.Kinds.{StartsOther, IsBoard}
use Rattle.sok_text.specs.Lines.{Passes, PassesBoard}
use Rattle.sok_text.specs.Collections.{Part, Parts, blocks_from, block_at, parts_of}
use Rattle.sok_text.proofs.Runs.{lines-Passes, lines-PassesBoard, take-Passes, take-PassesBoard, length-Passes, length-PassesBoard}
use Rattle.sok_text.proofs.Cutting.{parts_of-notes, notes-board, boards-more}

pub length-blocks_from : (notes : List (List ℕ)) (parts : List Part) → length (blocks_from notes parts) ≡ length parts
length-blocks_from notes [] = refl
length-blocks_from notes (part ∷ parts) = ap suc (length-blocks_from part.after parts)

-- the notes before a board, of parts that are kept in another form
abbrev pub before_of : {X : Type 0} → (X → Part) → List (List ℕ) → ℕ → List X → List (List ℕ)
before_of part notes zero parts = notes
before_of part notes (suc i) [] = []
before_of part notes (suc i) (x ∷ parts) = before_of part (part x).after i parts

pub before_of-suc : {X : Type 0} (part : X → Part) (notes : List (List ℕ)) (i : ℕ) (parts : List X) (x : X) → slice_get parts i ≡ Some x
    → before_of part notes (suc i) parts ≡ (part x).after
before_of-suc part notes i [] x there = absurd (none-some x there)
before_of-suc part notes zero (y ∷ parts) x there = ap (λ z. (part z).after) (same_Some y x there)
before_of-suc part notes (suc i) (y ∷ parts) x there = before_of-suc part (part y).after i parts x there

block-blocks_from : {X : Type 0} (part : X → Part) (notes : List (List ℕ)) (i : ℕ) (parts : List X) (x : X) → slice_get parts i ≡ Some x
    → slice_get (blocks_from notes (map part parts)) i ≡ Some (record { before = before_of part notes i parts; board = (part x).board; after = (part x).after })
block-blocks_from part notes i [] x there = absurd (none-some x there)
block-blocks_from part notes zero (y ∷ parts) x there =
    ap (λ z. Some (record { before = notes; board = (part z).board; after = (part z).after })) (same_Some y x there)
block-blocks_from part notes (suc i) (y ∷ parts) x there = block-blocks_from part (part y).after i parts x there

none-blocks_from : {X : Type 0} (part : X → Part) (notes : List (List ℕ)) (i : ℕ) (parts : List X) → slice_get parts i ≡ None
    → slice_get (blocks_from notes (map part parts)) i ≡ None
none-blocks_from part notes i [] none = refl
none-blocks_from part notes zero (y ∷ parts) none = absurd (none-some y (sym none))
none-blocks_from part notes (suc i) (y ∷ parts) none = none-blocks_from part (part y).after i parts none

-- a block, counted from 1
pub block_at-some : {X : Type 0} (part : X → Part) (notes : List (List ℕ)) (parts : List X) (n i : ℕ) (x : X) → n ≡ i + 1 → slice_get parts i ≡ Some x
    → block_at (blocks_from notes (map part parts)) n ≡ Some (record { before = before_of part notes i parts; board = (part x).board; after = (part x).after })
block_at-some part notes parts n i x counted there =
    ap (block_at (blocks_from notes (map part parts))) (counted ∙ add-one i) ∙ block-blocks_from part notes i parts x there

pub block_at-none : {X : Type 0} (part : X → Part) (notes : List (List ℕ)) (parts : List X) (n i : ℕ) → n ≡ i + 1 → slice_get parts i ≡ None
    → block_at (blocks_from notes (map part parts)) n ≡ None
block_at-none part notes parts n i counted none =
    ap (block_at (blocks_from notes (map part parts))) (counted ∙ add-one i) ∙ none-blocks_from part notes i parts none

-- the notes before the first block, and before one that is not the first
pub before-first : {X : Type 0} (part : X → Part) (notes : List (List ℕ)) (parts : List X) (i : ℕ) → i ≡ 0 → before_of part notes i parts ≡ notes
before-first part notes parts i first = ap (λ k. before_of part notes k parts) first

pub before-later : {X : Type 0} (part : X → Part) (notes : List (List ℕ)) (parts : List X) (i j : ℕ) (x : X) → i ≡ suc j → slice_get parts j ≡ Some x
    → before_of part notes i parts ≡ (part x).after
before-later part notes parts i j x later there = ap (λ k. before_of part notes k parts) later ∙ before_of-suc part notes j parts x there

-- the notes before the first board
pub parts_of-start : (text rest : List ℕ) (passed : Passes Note text rest) → StartsOther Note (lines rest)
    → parts_of (lines text) ≡ record { notes = lines passed.front; boards = (parts_of (lines rest)).boards }
parts_of-start text rest passed starts =
    ap parts_of (lines-Passes Note text rest passed) ∙ parts_of-notes (lines passed.front) (lines rest) passed.same
    ∙ ap (λ notes. record { notes = lines passed.front ++ notes; boards = (parts_of (lines rest)).boards }) (notes-board (lines rest) starts)
    ∙ ap (λ notes. record { notes = notes; boards = (parts_of (lines rest)).boards }) (append-nil (lines passed.front))

-- a board and the notes after it are passed
pub length-board_passed : (here behind next : List ℕ) → PassesBoard here behind → Passes Note behind next → length next < length here
length-board_passed here behind next board after =
    omega (arith, length-PassesBoard here behind board, length-Passes Note behind next after)

boards-passed : (here behind next : List ℕ) (board : PassesBoard here behind) (after : Passes Note behind next) → StartsOther Note (lines next)
    → (parts_of (lines here)).boards ≡ record { board = lines board.front; after = lines after.front } ∷ (parts_of (lines next)).boards
boards-passed here behind next board after on =
    let rest = lines-Passes Note behind next after in
    ap (λ ls. (parts_of ls).boards) (lines-PassesBoard here behind board ∙ ap (λ ls. lines board.front ++ ls) rest)
    ∙ boards-more (lines board.front) (lines after.front) (lines next) (subst (IsBoard (lines board.front)) rest board.board) after.same on

-- one more board is kept, by the slices of its lines and of the notes after it
pub parts_of-more : (whole : Parts) (notes : List (List ℕ)) (done : List Part) (here behind next board after : List ℕ) (b : PassesBoard here behind)
    (a : Passes Note behind next) → StartsOther Note (lines next)
    → board ≡ take (length here - length behind) here → after ≡ take (length behind - length next) behind
    → whole ≡ record { notes = notes; boards = done ++ (parts_of (lines here)).boards }
    → whole ≡ record { notes = notes; boards = (done ++ record { board = lines board; after = lines after } ∷ []) ++ (parts_of (lines next)).boards }
parts_of-more whole notes done here behind next board after b a on is_board is_after so_far =
    let same_board = is_board ∙ take-PassesBoard here behind b in
    let same_after = is_after ∙ take-Passes Note behind next a in
    let boards = boards-passed here behind next b a on
    ∙ (λ i. record { board = lines (sym same_board i); after = lines (sym same_after i) } ∷ (parts_of (lines next)).boards) in
    so_far ∙ ap (λ bs. record { notes = notes; boards = done ++ bs }) boards
    ∙ ap (λ bs. record { notes = notes; boards = bs })
    (sym (append_assoc done (record { board = lines board; after = lines after } ∷ []) (parts_of (lines next)).boards))

-- what `checked_sub` tells
pub one_less : (o : Option ℕ) (n i : ℕ) → SomeIff o (1 ≤ n) (n - 1) → o ≡ Some i → n ≡ i + 1
one_less o n i told there =
    let some : (1 ≤ n) × (i ≡ n - 1) = subst (λ p. SomeIff p (1 ≤ n) (n - 1)) there told in
    omega (arith, some.0, some.1)

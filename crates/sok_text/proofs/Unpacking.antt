-- The rows of a packed line, part by part.
use Rattle.std.proofs.Common.{ℕ, ◌≡◌, ◌≢◌, ◌<◌, ◌≤◌, ◌+◌, ◌-◌, List, [], ◌∷◌, ◌++◌, Some, None, Vec, All, true, false, ◌⊎◌, suc, zero, min}
use Rattle.std.proofs.Common.{flat_map, length, map, replicate, take, drop, get_or, sym, ap, ◌∙◌, refl, subst, inl, inr, arith}
use Rattle.std.proofs.lemmas.Bool.{cases_lt}
use Rattle.std.proofs.lemmas.List.{append_assoc, append-nil, length-append, length-replicate, map_push, replicate-append-replicate, take-append-drop, drop_more}
use Rattle.std.proofs.lemmas.List.Elements.{All-head, All-tail}
use Rattle.std.specs.Char.{is_ascii_digit}
use Rattle.std.specs.List.{AllPass}
use Rattle.std.specs.Option.{option_map_or}
use Rattle.sok_rules.specs.Limits.{size_limit}
use Rattle.sok_rules.specs.declared.cell.Cell.{Cell}
use Rattle.sok_rules.specs.declared.cell.Cell.TheVariants.{Floor}
use Rattle.sok_rules.specs.Squares.{Rows}
use Rattle.sok_rules.specs.Levels.{cells_of, level_of, trimmed}
use Rattle.sok_rules.proofs.Proper.{level_of-tall}
use Rattle.sok_text.specs.Counts.{starts_with_digit, times}
use Rattle.sok_text.specs.Like.{IsLike, AreLike}
use Rattle.sok_text.specs.Packed.{cells_of_mark, cells_of_part, is_bar, onto_first, packed_rows, parts_between}
use Rattle.sok_text.specs.Xsb.{cell_of}
use Rattle.sok_text.proofs.Lines.{behind_first}
use Rattle.sok_text.proofs.Marks.{marks_of-behind, marks_of-end}
use Rattle.sok_text.proofs.Like.{AreLike-push, length-AreLike, level_of-like, trimmed-floors, trimmed-several}

-- the cells of a mark stand before those of the rest
cells-mark : (left digits behind : List ℕ) → left ≡ digits ++ behind → AllPass is_ascii_digit digits → starts_with_digit behind ≡ false → 0 < length behind
    → cells_of_part left ≡ cells_of_mark (record { digits = digits; byte = Some (get_or behind 0 0) }) ++ cells_of_part (behind_first behind)
cells-mark left digits behind whole all other some = ap (flat_map cells_of_mark) (marks_of-behind left digits behind whole all other some)

cells-cell : (left digits behind : List ℕ) (cell : Cell) → left ≡ digits ++ behind → AllPass is_ascii_digit digits → starts_with_digit behind ≡ false
    → 0 < length behind → cell_of (get_or behind 0 0) ≡ Some cell
    → cells_of_part left ≡ replicate (times digits) cell ++ cells_of_part (behind_first behind)
cells-cell left digits behind cell whole all other some is =
    cells-mark left digits behind whole all other some
    ∙ ap (λ found. option_map_or (replicate (times digits)) found [] ++ cells_of_part (behind_first behind)) is

-- what is left of a part stands behind a row and floor, of which there is none where the row has room
pub record IsUnpacked (part left : List ℕ) (row : List Cell) : Type 0 where
  pub floor : ℕ
  pub whole : cells_of_part part ≡ (row ++ replicate floor Floor) ++ cells_of_part left
  pub full : 0 < floor → length row ≡ size_limit
  pub short : length row ≤ size_limit

-- nothing more is left
pub IsLike-end : (part left : List ℕ) (row : List Cell) → IsUnpacked part left row → cells_of_part left ≡ [] → IsLike row (cells_of_part part)
IsLike-end part left row read none =
    inl (sym (ap trimmed (read.whole ∙ ap (λ cells. (row ++ replicate read.floor Floor) ++ cells) none ∙ append-nil (row ++ replicate read.floor Floor))
    ∙ trimmed-floors read.floor row))

pub cells-none : (left : List ℕ) → length left ≡ 0 → cells_of_part left ≡ []
cells-none [] none = refl
cells-none (c ∷ left) none = absurd (omega arith)

-- digits alone are no cell
pub cells-digits : (left digits behind : List ℕ) → 0 < length left → left ≡ digits ++ behind → AllPass is_ascii_digit digits → length behind ≡ 0
    → cells_of_part left ≡ []
cells-digits left digits behind some whole all empty = ap (flat_map cells_of_mark) (marks_of-end left digits behind some whole all empty)

-- another mark is passed over
pub IsUnpacked-other : (part left digits behind : List ℕ) (row : List Cell) → IsUnpacked part left row → left ≡ digits ++ behind → AllPass is_ascii_digit digits
    → starts_with_digit behind ≡ false → 0 < length behind → cell_of (get_or behind 0 0) ≡ None → IsUnpacked part (behind_first behind) row
IsUnpacked-other part left digits behind row read whole all other some none = record {
  floor = read.floor;
  whole = read.whole ∙ ap (λ cells. (row ++ replicate read.floor Floor) ++ cells) (cells-mark left digits behind whole all other some
      ∙ ap (λ found. option_map_or (replicate (times digits)) found [] ++ cells_of_part (behind_first behind)) none);
  full = read.full;
  short = read.short;
}

-- too many cells
pub IsLike-wide : (part left digits behind : List ℕ) (row grown : List Cell) (cell : Cell) → IsUnpacked part left row → left ≡ digits ++ behind
    → AllPass is_ascii_digit digits → starts_with_digit behind ≡ false → 0 < length behind → cell_of (get_or behind 0 0) ≡ Some cell → cell ≢ Floor → size_limit < length row + times digits
    → grown ≡ row ++ replicate ((size_limit + 1) - length row) cell → IsLike grown (cells_of_part part)
IsLike-wide part left digits behind row grown cell read whole all other some is full wide longer =
    let rest = cells_of_part (behind_first behind) in
    let front = row ++ replicate read.floor Floor in
    let cells : cells_of_part part ≡ (front ++ replicate (times digits) cell) ++ rest = read.whole
    ∙ ap (λ more. front ++ more) (cells-cell left digits behind cell whole all other some is) ∙ sym (append_assoc front (replicate (times digits) cell) rest) in
    let short = read.short in
    let here : size_limit < length (trimmed ((row ++ replicate ((size_limit + 1) - length row) cell) ++ [])) =
    trimmed-several row [] cell ((size_limit + 1) - length row) full (omega arith) (omega arith) in
    let there : size_limit < length (trimmed ((front ++ replicate (times digits) cell) ++ rest)) = trimmed-several front rest cell (times digits) full (omega arith)
    (omega (arith, length-append row (replicate read.floor Floor), length-replicate read.floor Floor)) in
    inr (
      subst (λ c. size_limit < length (trimmed c)) (append-nil (row ++ replicate ((size_limit + 1) - length row) cell) ∙ sym longer) here,
      subst (λ c. size_limit < length (trimmed c)) (sym cells) there,
    )

-- more floor behind floor, of which a row takes some
more_floor : (row : List Cell) (f t n k : ℕ) (rest : List Cell) → f + t ≡ n + k
    → (row ++ replicate f Floor) ++ (replicate t Floor ++ rest) ≡ ((row ++ replicate n Floor) ++ replicate k Floor) ++ rest
more_floor row f t n k rest same =
    sym (append_assoc (row ++ replicate f Floor) (replicate t Floor) rest)
    ∙ ap (λ cells. cells ++ rest) (append_assoc row (replicate f Floor) (replicate t Floor)
    ∙ ap (λ cells. row ++ cells) (replicate-append-replicate f t Floor ∙ ap (λ m. replicate m Floor) same ∙ sym (replicate-append-replicate n k Floor))
    ∙ sym (append_assoc row (replicate n Floor) (replicate k Floor)))

-- cells behind a row that has room for them
fitting : (row : List Cell) (f t n : ℕ) (cell : Cell) (rest : List Cell) → n ≡ t → (0 < f) ⊎ (f ≤ 0) → (0 < f → t ≡ 0)
    → (row ++ replicate f Floor) ++ (replicate t cell ++ rest) ≡ ((row ++ replicate n cell) ++ replicate f Floor) ++ rest
fitting row f t n cell rest all (inl some) none =
    let zero_t = none some in
    ap (λ m. (row ++ replicate f Floor) ++ (replicate m cell ++ rest)) zero_t
    ∙ ap (λ cells. (cells ++ replicate f Floor) ++ rest) (sym (append-nil row))
    ∙ ap (λ m. ((row ++ replicate m cell) ++ replicate f Floor) ++ rest) (sym (all ∙ zero_t))
fitting row f t n cell rest all (inr empty) none =
    let zero_f : f ≡ 0 = omega arith in
    ap (λ m. (row ++ replicate m Floor) ++ (replicate t cell ++ rest)) zero_f ∙ ap (λ cells. cells ++ (replicate t cell ++ rest)) (append-nil row)
    ∙ sym (append_assoc row (replicate t cell) rest) ∙ ap (λ m. (row ++ replicate m cell) ++ rest) (sym all)
    ∙ ap (λ cells. cells ++ rest) (sym (append-nil (row ++ replicate n cell)))
    ∙ ap (λ m. ((row ++ replicate n cell) ++ replicate m Floor) ++ rest) (sym zero_f)

full_still : (floor t len n long more : ℕ) → (0 < floor → len ≡ size_limit) → len ≤ size_limit → n ≡ min (len + t) size_limit → long ≡ n → more ≡ (floor + t) - (n - len) → 0 < more → long ≡ size_limit
full_still zero t len n long more full short room is left some = omega arith
full_still (suc floor) t len n long more full short room is left some = let all : len ≡ size_limit = full (omega arith) in omega arith

-- the next cells are put behind a row, as many as it has room for
pub IsUnpacked-more : (part left digits behind : List ℕ) (row grown : List Cell) (cell : Cell) (n : ℕ) → IsUnpacked part left row → left ≡ digits ++ behind
    → AllPass is_ascii_digit digits → starts_with_digit behind ≡ false → 0 < length behind
    → cell_of (get_or behind 0 0) ≡ Some cell
    → (cell ≡ Floor) ⊎ (length row + times digits ≤ size_limit) → n ≡ min (length row + times digits) size_limit → grown ≡ row ++ replicate (n - length row) cell
    → IsUnpacked part (behind_first behind) grown
IsUnpacked-more part left digits behind row grown cell n read whole all other some is fits room longer =
    let t = times digits in
    let rest = cells_of_part (behind_first behind) in
    let full = read.full in
    let short = read.short in
    let cells : cells_of_part part ≡ (row ++ replicate read.floor Floor) ++ (replicate t cell ++ rest) = read.whole
    ∙ ap (λ more. (row ++ replicate read.floor Floor) ++ more) (cells-cell left digits behind cell whole all other some is) in
    let long : length grown ≡ n = ap length longer ∙ omega (arith, length-append row (replicate (n - length row) cell), length-replicate (n - length row) cell) in
    elim fits [
      | inl plain ↦ record {
        floor = (read.floor + t) - (n - length row);
        whole = cells ∙ ap (λ c. (row ++ replicate read.floor Floor) ++ (replicate t c ++ rest)) plain
            ∙ more_floor row read.floor t (n - length row) ((read.floor + t) - (n - length row)) rest (omega arith)
            ∙ ap (λ c. ((row ++ replicate (n - length row) c) ++ replicate ((read.floor + t) - (n - length row)) Floor) ++ rest) (sym plain)
            ∙ ap (λ r. (r ++ replicate ((read.floor + t) - (n - length row)) Floor) ++ rest) (sym longer);
        full = λ some. full_still read.floor t (length row) n (length grown) ((read.floor + t) - (n - length row)) full short room long refl some;
        short = omega arith;
      }
      | inr fit ↦ record {
        floor = read.floor;
        whole = cells ∙ fitting row read.floor t (n - length row) cell rest (omega arith) (cases_lt 0 read.floor) (λ some. omega (arith, full some))
            ∙ ap (λ r. (r ++ replicate read.floor Floor) ++ rest) (sym longer);
        full = λ some. omega (arith, full some);
        short = omega arith;
      }
    ]

-- the rows of the parts before what is left of a line
pub record AreUnpacked (line left : List ℕ) (rows : Rows) : Type 0 where
  pub done : Rows
  pub whole : packed_rows line ≡ done ++ packed_rows left
  pub like : AreLike rows done

pub AreUnpacked-more : {A : Type 0} (line left part behind : List ℕ) (rows grown : List (Vec Cell A)) (row : Vec Cell A) → AreUnpacked line left (cells_of rows)
    → parts_between left ≡ part ∷ parts_between behind → IsLike row.items (cells_of_part part) → grown ≡ rows ++ row ∷ []
    → AreUnpacked line behind (cells_of grown)
AreUnpacked-more line left part behind rows grown row read cut like longer = record {
  done = read.done ++ cells_of_part part ∷ [];
  whole = read.whole ∙ ap (λ parts. read.done ++ map (cells_of_part) parts) cut
      ∙ sym (append_assoc read.done (cells_of_part part ∷ []) (packed_rows behind));
  like = subst (λ all. AreLike all (read.done ++ cells_of_part part ∷ []))
      (sym (ap cells_of longer ∙ map_push (λ (r : Vec Cell _). r.items) rows row)) (AreLike-push (cells_of rows) read.done row.items (cells_of_part part) read.like like);
}

-- all rows are read
pub level_of-unpacked : (line left : List ℕ) (rows : Rows) → AreUnpacked line left rows → length left ≡ 0 → level_of rows ≡ level_of (packed_rows line)
level_of-unpacked line [] rows read none = level_of-like rows read.done read.like ∙ ap level_of (sym (read.whole ∙ append-nil read.done))
level_of-unpacked line (c ∷ left) rows read none = absurd (omega arith)

-- or too many are
pub level_of-many : (line left : List ℕ) (rows : Rows) → AreUnpacked line left rows → size_limit < length rows → level_of rows ≡ level_of (packed_rows line)
level_of-many line left rows read tall =
    level_of-tall rows tall
    ∙ sym (level_of-tall (packed_rows line) (omega (arith, length-AreLike rows read.done read.like, ap length read.whole, length-append read.done (packed_rows left))))

-- a text is cut at its first bar
parts_between-bar : (front rest : List ℕ) (bar : ℕ) → All (λ c. is_bar c ≡ false) front → is_bar bar ≡ true
    → parts_between (front ++ bar ∷ rest) ≡ front ∷ parts_between rest
parts_between-bar [] rest bar none is = rw is
parts_between-bar (c ∷ front) rest bar none is =
    let other : is_bar c ≡ false = All-head (λ c. is_bar c ≡ false) c front none in
    let here : parts_between (c ∷ (front ++ bar ∷ rest)) ≡ onto_first c (parts_between (front ++ bar ∷ rest)) = rw other in
    here ∙ ap (onto_first c) (parts_between-bar front rest bar (All-tail (λ c. is_bar c ≡ false) c front none) is)

parts_between-last : (c : ℕ) (text : List ℕ) → All (λ c. is_bar c ≡ false) (c ∷ text) → parts_between (c ∷ text) ≡ (c ∷ text) ∷ []
parts_between-last c [] none =
    let other : is_bar c ≡ false = All-head (λ c. is_bar c ≡ false) c [] none in
    rw other
parts_between-last c (d ∷ text) none =
    let other : is_bar c ≡ false = All-head (λ c. is_bar c ≡ false) c (d ∷ text) none in
    let here : parts_between (c ∷ d ∷ text) ≡ onto_first c (parts_between (d ∷ text)) = rw other in
    here ∙ ap (onto_first c) (parts_between-last d text (All-tail (λ c. is_bar c ≡ false) c (d ∷ text) none))

pub parts_between-some : (text : List ℕ) (end : ℕ) → end < length text → All (λ c. is_bar c ≡ false) (take end text) → is_bar (get_or text end 0) ≡ true
    → parts_between text ≡ take end text ∷ parts_between (drop (end + 1) text)
parts_between-some text end within none bar =
    ap parts_between (sym (take-append-drop end text) ∙ ap (λ rest. take end text ++ rest) (drop_more text end 0 within))
    ∙ parts_between-bar (take end text) (drop (end + 1) text) (get_or text end 0) none bar

pub parts_between-none : (text : List ℕ) → 0 < length text → All (λ c. is_bar c ≡ false) text → parts_between text ≡ text ∷ []
parts_between-none [] some none = absurd (omega arith)
parts_between-none (c ∷ text) some none = parts_between-last c text none

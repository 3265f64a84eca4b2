-- An export is read back: its blocks are its levels, with their titles.
use Rattle.std.proofs.Common.{ℕ, ◌≡◌, ◌<◌, ◌-◌, ◌^◌, List, [], ◌∷◌, ◌++◌, Bool, true, false, true≢false, not, suc, All, Option, Some, None, IfSome}
use Rattle.std.proofs.Common.{codes, decimal, length, get_or, map, reverse, sym, ap, ◌∙◌, refl, arith, ◌==◌, ◌||◌, ◌&&◌}
use Rattle.std.proofs.lemmas.Bool.{ne_eqb}
use Rattle.std.proofs.lemmas.Fmt.{decimal_is_IsNumeral}
use Rattle.std.proofs.lemmas.List.{append_assoc, get_or-reverse, length-reverse, reverse-append, reverse-reverse}
use Rattle.std.proofs.lemmas.List.Elements.{All-cons, All-head, All-nil, All-tail}
use Rattle.std.proofs.lemmas.List.Sums.{AllPass-from_list_all}
use Rattle.std.proofs.lemmas.Str.Parse.{digit_from_value}
use Rattle.std.specs.List.{find, list_all}
use Rattle.std.specs.Option.{option_and_then, option_map_or}
use Rattle.std.specs.Str.Lines.{lines}
use Rattle.std.specs.Str.Parse.{AllDigits}
use Rattle.sok_rules.specs.declared.cell.Dir.{Dir}
use Rattle.sok_rules.specs.declared.cell.Dir.TheVariants.{Left, Up, Right, Down}
use Rattle.sok_rules.specs.Squares.{Rows}
use Rattle.sok_rules.specs.Play.{Position, start, step}
use Rattle.sok_rules.specs.Levels.{level_of}
use Rattle.sok_rules.proofs.Proper.{level_of-IsLevel}
use Rattle.sok_rules.proofs.Runs.{pushes-le-length}
use Rattle.sok_text.specs.Canonical.{level_text, row_text}
use Rattle.sok_text.specs.Collections.{Part, Parts, blocks_from, blocks_of, parts_of}
use Rattle.sok_text.specs.declared.kind.Kind.TheVariants.{Row, Note}
use Rattle.sok_text.specs.Kinds.{kind_of, AreOf, StartsOther}
use Rattle.sok_text.specs.Lines.{is_newline}
use Rattle.sok_text.specs.Marked.{marked_letter, marked_text}
use Rattle.sok_text.specs.Titles.{first_text, is_space, some_text, text_behind, title_after, title_before, trimmed_back, trimmed_text}
use Rattle.sok_text.proofs.Canonical.{boards, board_rows-row_text, lines-level_text, some_rows, strip-kept}
use Rattle.sok_text.proofs.Cutting.{board_of, parts_of-front, parts_of-notes}
use Rattle.sok_text.proofs.Lines.{lines-newline}
use Rattle.sok_book.specs.declared.record.Verdict.{Verdict}
use Rattle.sok_book.specs.declared.record.Verdict.TheVariants.{Untested, Optimal, Unsolvable}
use Rattle.sok_book.specs.Books.{Book, Page, Solution}
use Rattle.sok_book.specs.Kept.{IsKeptPage, IsKeptSolution}
use Rattle.sok_book.specs.Texts.{lurd_of}
use Rattle.sok_book.specs.Titles.{IsTitle}
use Rattle.sok_book.proofs.Titles.{some-some_text, whole-without}
use Rattle.sok_book.specs.Exported.{ExportsReadBack, export_text, notes_behind, optimal_words, solution_notes, title_note, titled_block, titled_page}

-- ---- lines

-- the notes that a title is
abbrev notes_of : Option (List ℕ) → List (List ℕ)
notes_of None = []
notes_of (Some title) = (59 ∷ 32 ∷ title) ∷ []

-- the notes before the first level of a book
abbrev first_notes : Book → List (List ℕ)
first_notes [] = []
first_notes (page ∷ book) = notes_of page.title

neither : (p q : Bool) → (p || q) ≡ false → (p ≡ false) × (q ≡ false)
neither true q e = absurd (true≢false e)
neither false q e = (refl, e)

last-note : (title : List ℕ) → 0 < length title → get_or (59 ∷ 32 ∷ title) (length (59 ∷ 32 ∷ title) - 1) 0 ≡ get_or title (length title - 1) 0
last-note title some =
    let e : length (59 ∷ 32 ∷ title) - 1 ≡ suc (suc (length title - 1)) = omega (arith, some) in
    ap (λ k. get_or (59 ∷ 32 ∷ title) k 0) e

lines-note : (title : Option (List ℕ)) (more : List ℕ) → IfSome title IsTitle → lines (title_note title ++ more) ≡ notes_of title ++ lines more
lines-note None more is = refl
lines-note (Some title) more is =
    let line : List ℕ = 59 ∷ 32 ∷ title in
    let plain : All (λ c. is_newline c ≡ false) line =
    All-cons (λ c. is_newline c ≡ false) 59 (32 ∷ title) refl (All-cons (λ c. is_newline c ≡ false) 32 title refl is.one_line) in
    let last : (get_or line (length line - 1) 0 == 13) ≡ false = ap (λ c. c == 13) (last-note title is.some) ∙ (neither _ _ is.back).1 in
    ap lines (append_assoc line (10 ∷ []) more) ∙ lines-newline line more plain ∙ ap (λ l. l ∷ lines more) (strip-kept line last)

-- ---- the lines of solutions

-- a byte that is not of the end of a line
abbrev is_inner : ℕ → Bool
is_inner c = not (is_newline c) && not (c == 13)

inner_is : (newline return : Bool) → (not newline && not return) ≡ true → (newline ≡ false) × (return ≡ false)
inner_is true return e = absurd (true≢false (sym e))
inner_is false true e = absurd (true≢false (sym e))
inner_is false false e = (refl, refl)

-- a line of such bytes
lines-inner : (line more : List ℕ) → 0 < length line → list_all is_inner line ≡ true → lines (line ++ 10 ∷ more) ≡ line ∷ lines more
lines-inner line more some inner =
    let all = AllPass-from_list_all is_inner line inner in
    let plain : All (λ c. is_newline c ≡ false) line = λ k d within. (inner_is _ _ (all k d within)).0 in
    lines-newline line more plain ∙ ap (λ l. l ∷ lines more) (strip-kept line (inner_is _ _ (all (length line - 1) 0 (omega (arith, some)))).1)

inner-letter : (d : Dir) (pushed : Bool) (rest : List ℕ) → list_all is_inner rest ≡ true → list_all is_inner (marked_letter d pushed ++ rest) ≡ true
inner-letter Left true rest is = is
inner-letter Left false rest is = is
inner-letter Up true rest is = is
inner-letter Up false rest is = is
inner-letter Right true rest is = is
inner-letter Right false rest is = is
inner-letter Down true rest is = is
inner-letter Down false rest is = is

inner-marked_text : (rows : Rows) (x : Position) (w : List Dir) → list_all is_inner (marked_text rows x w) ≡ true
inner-marked_text rows x [] = refl
inner-marked_text rows x (d ∷ w) = elim (step rows d x)
    as (λ o. list_all is_inner (option_map_or (λ after. marked_letter d after.pushed ++ marked_text rows after.position w) o []) ≡ true) [
      | None ↦ refl
      | Some a ↦ inner-letter d a.pushed (marked_text rows a.position w) (inner-marked_text rows a.position w)
    ]

inner-digits : (ds rest : List ℕ) → AllDigits 10 ds → list_all is_inner rest ≡ true → list_all is_inner (ds ++ rest) ≡ true
inner-digits [] rest digits is = is
inner-digits (d ∷ ds) rest (digit, digits) is =
    let range = digit_from_value d digit in
    let newline : is_newline d ≡ false = ne_eqb d 10 (λ e. omega arith) in
    let return : (d == 13) ≡ false = ne_eqb d 13 (λ e. omega arith) in
    λ i. (not (newline i) && not (return i)) && inner-digits ds rest digits is i

inner-optimal : (verdict : Verdict) → list_all is_inner (optimal_words verdict) ≡ true
inner-optimal Untested = refl
inner-optimal Optimal = refl
inner-optimal Unsolvable = refl

-- a solution that stands in lines: letters in one, and not too many pushes
record IsInLines (rows : Rows) (best : Solution) : Type 0 where
  lurd : list_all is_inner (lurd_of rows best.letters) ≡ true
  few : best.pushes < 2 ^ 64

in_lines : (rows : Rows) (best : Option Solution) → IfSome best (IsKeptSolution rows) → IfSome best (IsInLines rows)
in_lines rows None kept = tt
in_lines rows (Some best) kept =
    let most = pushes-le-length rows best.letters (start rows) in
    let counted = ap (λ (b : Solution). b.pushes) kept.solution.counted in
    record { lurd = inner-marked_text rows (start rows) best.letters; few = omega (arith, most, counted, kept.few) }

-- the notes of a solution, as lines
abbrev solution_lines : Rows → Option Solution → Verdict → List (List ℕ)
solution_lines rows (Some best) verdict =
    (codes "Solution: " ++ lurd_of rows best.letters) ∷ (codes "Pushes: " ++ (decimal best.pushes ++ optimal_words verdict)) ∷ []
solution_lines rows None Untested = []
solution_lines rows None Optimal = []
solution_lines rows None Unsolvable = codes "Unsolvable" ∷ []

lines-solution : (rows : Rows) (best : Option Solution) (verdict : Verdict) (more : List ℕ) → IfSome best (IsInLines rows)
    → lines (solution_notes rows best verdict ++ more) ≡ solution_lines rows best verdict ++ lines more
lines-solution rows None Untested more kept = refl
lines-solution rows None Optimal more kept = refl
lines-solution rows None Unsolvable more kept = lines-inner (codes "Unsolvable") more (omega arith) refl
lines-solution rows (Some best) verdict more kept =
    let first = codes "Solution: " ++ lurd_of rows best.letters in
    let second = codes "Pushes: " ++ (decimal best.pushes ++ optimal_words verdict) in
    let cut : solution_notes rows (Some best) verdict ++ more ≡ first ++ 10 ∷ (second ++ 10 ∷ more) = simp append_assoc in
    let digits = (decimal_is_IsNumeral best.pushes kept.few).0.1 in
    ap lines cut ∙ lines-inner first (second ++ 10 ∷ more) (omega arith) kept.lurd
    ∙ ap (λ ls. first ∷ ls) (lines-inner second more (omega arith) (inner-digits (decimal best.pushes) (optimal_words verdict) digits (inner-optimal verdict)))

-- and where solutions are not asked for
abbrev lines_behind : Bool → Page → List (List ℕ)
lines_behind true page = solution_lines page.level page.best page.verdict
lines_behind false page = []

lines-behind : (s : Bool) (page : Page) (more : List ℕ) → IsKeptPage page → lines (notes_behind s page ++ more) ≡ lines_behind s page ++ lines more
lines-behind true page more kept = lines-solution page.level page.best page.verdict more (in_lines page.level page.best kept.best)
lines-behind false page more kept = refl

-- ---- the lines of a book

abbrev lines_in : Bool → Book → List (List ℕ)
lines_in s [] = []
lines_in s (page ∷ book) = notes_of page.title ++ (map row_text page.level ++ (lines_behind s page ++ ([] ∷ lines_in s book)))

lines-export : (s : Bool) (book : Book) → All IsKeptPage book → lines (export_text s book) ≡ lines_in s book
lines-export s [] kept = refl
lines-export s (page ∷ book) kept =
    let is = All-head IsKeptPage page book kept in
    let rest = export_text s book in
    let note = title_note page.title in
    let behind = notes_behind s page in
    ap lines (append_assoc note (level_text page.level ++ (behind ++ codes "\n")) rest)
    ∙ lines-note page.title ((level_text page.level ++ (behind ++ codes "\n")) ++ rest) is.title
    ∙ ap (λ ls. notes_of page.title ++ ls) (
    ap lines (append_assoc (level_text page.level) (behind ++ codes "\n") rest) ∙ lines-level_text page.level ((behind ++ codes "\n") ++ rest)
    ∙ ap (λ ls. map row_text page.level ++ ls) (ap lines (append_assoc behind (codes "\n") rest) ∙ lines-behind s page (10 ∷ rest) is
    ∙ ap (λ ls. lines_behind s page ++ ls) (lines-newline [] rest (All-nil (λ c. is_newline c ≡ false))
    ∙ ap (λ ls. [] ∷ ls) (lines-export s book (All-tail IsKeptPage page book kept))))
    )

-- ---- parts

abbrev AreNotes : List (List ℕ) → Type 0
AreNotes ls = AreOf Note ls

note-before : (line : List ℕ) (ls : List (List ℕ)) → kind_of line ≡ Note → AreNotes ls → AreNotes (line ∷ ls)
note-before line ls is are = All-cons (λ line. kind_of line ≡ Note) line ls is are

no_notes : AreNotes []
no_notes = All-nil (λ line. kind_of line ≡ Note)

notes-of : (title : Option (List ℕ)) → AreNotes (notes_of title)
notes-of None = no_notes
notes-of (Some title) = note-before (59 ∷ 32 ∷ title) [] refl no_notes

notes-solution : (rows : Rows) (best : Option Solution) (verdict : Verdict) → AreNotes (solution_lines rows best verdict)
notes-solution rows (Some best) verdict =
    let pushes = codes "Pushes: " ++ (decimal best.pushes ++ optimal_words verdict) in
    note-before (codes "Solution: " ++ lurd_of rows best.letters) (pushes ∷ []) refl (note-before pushes [] refl no_notes)
notes-solution rows None Untested = no_notes
notes-solution rows None Optimal = no_notes
notes-solution rows None Unsolvable = note-before (codes "Unsolvable") [] refl no_notes

notes-behind : (s : Bool) (page : Page) → AreNotes (lines_behind s page)
notes-behind true page = notes-solution page.level page.best page.verdict
notes-behind false page = no_notes

-- no row stands behind a board
other-solution : (rows : Rows) (best : Option Solution) (verdict : Verdict) (ls : List (List ℕ)) → StartsOther Row (solution_lines rows best verdict ++ ([] ∷ ls))
other-solution rows (Some best) verdict ls = λ row. cc
other-solution rows None Untested ls = λ row. cc
other-solution rows None Optimal ls = λ row. cc
other-solution rows None Unsolvable ls = λ row. cc

other-behind : (s : Bool) (page : Page) (ls : List (List ℕ)) → StartsOther Row (lines_behind s page ++ ([] ∷ ls))
other-behind true page ls = other-solution page.level page.best page.verdict ls
other-behind false page ls = λ row. cc

-- the boards of a book's export, with the notes after each
abbrev boards_in : Bool → Book → List Part
boards_in s [] = []
boards_in s (page ∷ book) =
    record { board = map row_text page.level; after = lines_behind s page ++ ([] ∷ first_notes book) } ∷ boards_in s book

parts-export : (s : Bool) (book : Book) → All IsKeptPage book → parts_of (lines_in s book) ≡ record { notes = first_notes book; boards = boards_in s book }
parts-export s [] kept = refl
parts-export s (page ∷ book) kept =
    let is = All-head IsKeptPage page book kept in
    let board = map row_text page.level in
    let behind = lines_behind s page in
    let rest = behind ++ ([] ∷ lines_in s book) in
    let after = behind ++ ([] ∷ first_notes book) in
    let later = parts-export s book (All-tail IsKeptPage page book kept) in
    let blank : parts_of ([] ∷ lines_in s book) ≡ record { notes = [] ∷ first_notes book; boards = boards_in s book } =
    parts_of-notes ([] ∷ []) (lines_in s book) (note-before [] [] refl no_notes)
    ∙ ap (λ (parts : Parts). record { notes = [] ∷ parts.notes; boards = parts.boards }) later in
    let noted : parts_of rest ≡ record { notes = after; boards = boards_in s book } =
    parts_of-notes behind ([] ∷ lines_in s book) (notes-behind s page)
    ∙ ap (λ (parts : Parts). record { notes = behind ++ parts.notes; boards = parts.boards }) blank in
    let front : parts_of (board ++ rest) ≡ record { notes = []; boards = record { board = board; after = after } ∷ boards_in s book } =
    parts_of-front board rest (board_of board rest (some_rows page.level is.level.proper.one_man) (boards page.level is.level.proper.walls)
    (other-behind s page (lines_in s book)))
    ∙ ap (λ (parts : Parts). record { notes = []; boards = record { board = board; after = parts.notes } ∷ parts.boards }) noted in
    parts_of-notes (notes_of page.title) (board ++ rest) (notes-of page.title)
    ∙ ap (λ (parts : Parts). record { notes = notes_of page.title ++ parts.notes; boards = parts.boards }) front
    ∙ ap (λ notes. record { notes = notes; boards = boards_in s (page ∷ book) }) (append-none page.title) where
      append-none : (title : Option (List ℕ)) → notes_of title ++ [] ≡ notes_of title
      append-none None = refl
      append-none (Some title) = refl

-- ---- titles

none_after : (title : Option (List ℕ)) → title_after ([] ∷ notes_of title) ≡ None
none_after None = refl
none_after (Some title) = refl

none_after-first : (book : Book) → title_after ([] ∷ first_notes book) ≡ None
none_after-first [] = refl
none_after-first (page ∷ book) = none_after page.title

-- none of a solution's notes is a title
none_after-solution : (rows : Rows) (best : Option Solution) (verdict : Verdict) (ls : List (List ℕ)) → title_after ls ≡ None
    → title_after (solution_lines rows best verdict ++ ls) ≡ None
none_after-solution rows (Some best) verdict ls none = none
none_after-solution rows None Untested ls none = none
none_after-solution rows None Optimal ls none = none
none_after-solution rows None Unsolvable ls none = none

none_after-behind : (s : Bool) (page : Page) (book : Book) → title_after (lines_behind s page ++ ([] ∷ first_notes book)) ≡ None
none_after-behind true page book = none_after-solution page.level page.best page.verdict ([] ∷ first_notes book) (none_after-first book)
none_after-behind false page book = none_after-first book

whole_title : (title : List ℕ) → IsTitle title → trimmed_text title ≡ title
whole_title title is =
    let long = length-reverse title in
    let last : is_space (get_or (reverse title) 0 0) ≡ false =
    ap is_space (get_or-reverse title 0 0 is.some ∙ ap (λ k. get_or title k 0) (omega arith)) ∙ (neither _ _ is.back).0 in
    ap trimmed_back (whole-without is_space title (λ _. is.front)) ∙ ap reverse (whole-without is_space (reverse title) (λ _. last)) ∙ reverse-reverse title

-- the notes and the empty line behind the level before, if there is one
abbrev front_of : Bool → Option Page → List (List ℕ)
front_of s None = []
front_of s (Some page) = lines_behind s page ++ ([] ∷ [])

-- of them the last one that is not blank is no title
untitled-solution : (rows : Rows) (best : Option Solution) (verdict : Verdict) → title_before ((solution_lines rows best verdict ++ ([] ∷ [])) ++ []) ≡ None
untitled-solution rows (Some best) verdict = refl
untitled-solution rows None Untested = refl
untitled-solution rows None Optimal = refl
untitled-solution rows None Unsolvable = refl

untitled : (s : Bool) (page : Option Page) → title_before (front_of s page ++ []) ≡ None
untitled s None = refl
untitled true (Some page) = untitled-solution page.level page.best page.verdict
untitled false (Some page) = refl

title-before : (s : Bool) (page : Option Page) (title : Option (List ℕ)) → IfSome title IsTitle → title_before (front_of s page ++ notes_of title) ≡ title
title-before s page None is = untitled s page
title-before s page (Some title) is =
    ap (λ ls. option_and_then (text_behind (codes ";")) (find (λ line. not (list_all is_space line)) ls))
    (reverse-append (front_of s page) ((59 ∷ 32 ∷ title) ∷ []))
    ∙ ap some_text (whole_title title is) ∙ some-some_text title is.some

-- ---- blocks

titled : (s : Bool) (before : Option Page) (page : Page) (book : Book) → IsKeptPage page → titled_block (record {
  before = front_of s before ++ notes_of page.title;
  board = map row_text page.level;
  after = lines_behind s page ++ ([] ∷ first_notes book);
}) ≡ titled_page page
titled s before page book is =
    let level = ap level_of (board_rows-row_text page.level is.level.proper.walls) ∙ level_of-IsLevel page.level is.level in
    let title = (λ i. first_text (none_after-behind s page book i ∷ title-before s before page.title is.title i ∷ [])) ∙ first-some page.title in
    λ i. record { level = level i; title = title i } where
      first-some : (title : Option (List ℕ)) → first_text (None ∷ title ∷ []) ≡ title
      first-some None = refl
      first-some (Some title) = refl

titled-from : (s : Bool) (before : Option Page) (book : Book) → All IsKeptPage book
    → map titled_block (blocks_from (front_of s before ++ first_notes book) (boards_in s book)) ≡ map titled_page book
titled-from s before [] kept = refl
titled-from s before (page ∷ book) kept =
    let later = ap (λ notes. map titled_block (blocks_from notes (boards_in s book)))
    (sym (append_assoc (lines_behind s page) ([] ∷ []) (first_notes book)))
    ∙ titled-from s (Some page) book (All-tail IsKeptPage page book kept) in
    λ i. titled s before page book (All-head IsKeptPage page book kept) i ∷ later i

pub exports-read-back : ExportsReadBack
unfolding blocks_of
exports-read-back s book kept =
    ap (λ (parts : Parts). map titled_block (blocks_from parts.notes parts.boards)) (ap parts_of (lines-export s book kept) ∙ parts-export s book kept)
    ∙ titled-from s None book kept

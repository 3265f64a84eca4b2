-- What comes of a text of letters, read from the left: so it has one reading.
use Rattle.std.proofs.Common.{ℕ, ◌≡◌, ◌<◌, ◌≤◌, ◌+◌, List, [], ◌∷◌, ◌++◌, Bool, true, false, Some, None, All, ◌&&◌, if◌then◌else◌}
use Rattle.std.proofs.Common.{length, replicate, flat_map, nat_lt, nat_eq, sym, ap, subst, refl, ◌∙◌, arith}
use Rattle.std.proofs.lemmas.List.{append_assoc, append-nil, length-append, length-replicate}
use Rattle.std.proofs.lemmas.List.Elements.{All-head, All-tail}
use Rattle.std.proofs.lemmas.Bool.Decides.{nat_tests}
use Rattle.std.specs.Char.{is_ascii_digit}
use Rattle.std.specs.List.{AllPass}
use Rattle.std.specs.Option.{option_map_or}
use Rattle.sok_rules.specs.declared.cell.Dir.{Dir}
use Rattle.sok_text.specs.declared.lurd.LurdFault.{LurdFault}
use Rattle.sok_text.specs.declared.lurd.LurdFault.TheVariants.{BadLetter, TooLong}
use Rattle.sok_text.specs.Counts.{times, starts_with_digit}
use Rattle.sok_text.specs.Lurd.{is_blank, direction, Token, blank, letter, IsToken, token_text, token_letters, first_direction}
use Rattle.sok_text.specs.Lurd.{Spells, GoesWrong, IsWrong, unknown, alone, never, many}

data Reading : Type 0 where
  accepted : List Dir → Reading
  refused : LurdFault → Reading

abbrev is_none : List ℕ → Bool
is_none [] = true
is_none (c ∷ digits) = false

-- what comes of what is left of a text, from a place on, with these letters before it and digits from the place on
abbrev reading : List ℕ → ℕ → List Dir → List ℕ → Reading
reading [] at w [] = accepted w
reading [] at w (c ∷ digits) = refused (BadLetter (at + length (c ∷ digits)))
reading (c ∷ left) at w digits =
    if is_ascii_digit c then reading left at w (digits ++ c ∷ [])
    else option_map_or (λ d.
    if nat_eq (times digits) 0 then refused (BadLetter at)
    else if nat_lt 1000000 (length w + times digits) then refused TooLong
    else reading left (at + length (digits ++ c ∷ [])) (w ++ replicate (times digits) d) [])
    (direction c)
    (if is_none digits && is_blank c then reading left (at + 1) w [] else refused (BadLetter (at + length digits)))

-- digits, letters and blanks are apart
letter_no_digit : (c : ℕ) (d : Dir) → direction c ≡ Some d → is_ascii_digit c ≡ false
letter_no_digit c d same = grind (arith, nat_tests)

blank_no_digit : (c : ℕ) → is_blank c ≡ true → is_ascii_digit c ≡ false
blank_no_digit c same = grind (arith, nat_tests)

blank_no_letter : (c : ℕ) → is_blank c ≡ true → direction c ≡ None
blank_no_letter c same = grind (arith, nat_tests)

-- a digit
reading-digit : (c : ℕ) (left : List ℕ) (at : ℕ) (w : List Dir) (digits : List ℕ) → is_ascii_digit c ≡ true
    → reading (c ∷ left) at w digits ≡ reading left at w (digits ++ c ∷ [])
reading-digit c left at w digits digit = rw digit

-- digits
reading-digits : (more left : List ℕ) (at : ℕ) (w : List Dir) (digits : List ℕ) → AllPass is_ascii_digit more
    → reading (more ++ left) at w digits ≡ reading left at w (digits ++ more)
reading-digits [] left at w digits all = ap (reading left at w) (sym (append-nil digits))
reading-digits (c ∷ more) left at w digits all =
    let P : ℕ → Type 0 = λ x. is_ascii_digit x ≡ true in
    reading-digit c (more ++ left) at w digits (All-head P c more all)
    ∙ reading-digits more left at w (digits ++ c ∷ []) (All-tail P c more all)
    ∙ ap (reading left at w) (append_assoc digits (c ∷ []) more)

-- a blank
reading-blank : (c : ℕ) (left : List ℕ) (at : ℕ) (w : List Dir) → is_blank c ≡ true → reading (c ∷ left) at w [] ≡ reading left (at + 1) w []
reading-blank c left at w is =
    let digit = blank_no_digit c is in
    let none = blank_no_letter c is in
    rw (digit, none, is)

-- a letter behind digits
reading-letter : (c : ℕ) (d : Dir) (left : List ℕ) (at : ℕ) (w : List Dir) (digits : List ℕ) → direction c ≡ Some d → 0 < times digits
    → length w + times digits ≤ 1000000 → reading (c ∷ left) at w digits ≡ reading left (at + length (digits ++ c ∷ [])) (w ++ replicate (times digits) d) []
reading-letter c d left at w digits is some few =
    let digit = letter_no_digit c d is in
    let full : nat_eq (times digits) 0 ≡ false = grind (arith, nat_tests) in
    let short : nat_lt 1000000 (length w + times digits) ≡ false = grind (arith, nat_tests) in
    rw (digit, is, full, short)

-- a token
reading-token : (t : Token) (left : List ℕ) (at : ℕ) (w : List Dir) → IsToken t → length (w ++ token_letters t) ≤ 1000000
    → reading (token_text t ++ left) at w [] ≡ reading left (at + length (token_text t)) (w ++ token_letters t) []
reading-token (blank c) left at w is few = reading-blank c left at w is ∙ ap (λ v. reading left (at + 1) v []) (sym (append-nil w))
reading-token (letter digits c d) left at w (digit, is, some) few =
    let room : length w + times digits ≤ 1000000 = omega (arith, length-append w (replicate (times digits) d), length-replicate (times digits) d) in
    ap (λ text. reading text at w []) (append_assoc digits (c ∷ []) left) ∙ reading-digits digits (c ∷ left) at w [] digit
    ∙ reading-letter c d left at w digits is some room

-- tokens, one after another
reading-tokens : (ts : List Token) (left : List ℕ) (at : ℕ) (w : List Dir) → All IsToken ts → length (w ++ flat_map token_letters ts) ≤ 1000000
    → reading (flat_map token_text ts ++ left) at w [] ≡ reading left (at + length (flat_map token_text ts)) (w ++ flat_map token_letters ts) []
reading-tokens [] left at w are few = ap (λ n. reading left n w []) (omega arith) ∙ ap (λ v. reading left (at + 0) v []) (sym (append-nil w))
reading-tokens (t ∷ ts) left at w are few =
    let text = token_text t in
    let texts = flat_map token_text ts in
    let letters = token_letters t in
    let more = flat_map token_letters ts in
    let regroup : (w ++ letters) ++ more ≡ w ++ (letters ++ more) = append_assoc w letters more in
    let room : length ((w ++ letters) ++ more) ≤ 1000000 = subst (λ v. length v ≤ 1000000) (sym regroup) few in
    let first : length (w ++ letters) ≤ 1000000 = omega (arith, length-append (w ++ letters) more) in
    ap (λ bytes. reading bytes at w []) (append_assoc text texts left)
    ∙ reading-token t (texts ++ left) at w (All-head IsToken t ts are) first
    ∙ reading-tokens ts left (at + length text) (w ++ letters) (All-tail IsToken t ts are) room
    ∙ ap (λ n. reading left n ((w ++ letters) ++ more) []) (omega (arith, length-append text texts))
    ∙ ap (λ v. reading left (at + length (text ++ texts)) v []) regroup

reading-front : (front left : List ℕ) (w : List Dir) → Spells front w → reading (front ++ left) 0 [] [] ≡ reading left (length front) w []
reading-front front left w spelled =
    let few : length (flat_map token_letters spelled.tokens) ≤ 1000000 = subst (λ v. length v ≤ 1000000) spelled.letters spelled.few in
    ap (λ bytes. reading (bytes ++ left) 0 [] []) spelled.text
    ∙ reading-tokens spelled.tokens left 0 [] spelled.are few
    ∙ ap (λ n. reading left n (flat_map token_letters spelled.tokens) []) (omega (arith, ap length spelled.text))
    ∙ ap (λ v. reading left (length front) v []) (sym spelled.letters)

reading-spelled : (text : List ℕ) (w : List Dir) → Spells text w → reading text 0 [] [] ≡ accepted w
reading-spelled text w spells = ap (λ bytes. reading bytes 0 [] []) (sym (append-nil text)) ∙ reading-front text [] w spells

-- digits with no letter behind them
reading-alone : (rest : List ℕ) (at : ℕ) (w : List Dir) (c : ℕ) (digits : List ℕ) → starts_with_digit rest ≡ false → first_direction rest ≡ None
    → reading rest at w (c ∷ digits) ≡ refused (BadLetter (at + length (c ∷ digits)))
reading-alone [] at w c digits digit none = refl
reading-alone (x ∷ rest) at w c digits digit none = rw (digit, none)

reading-wrong : (at : ℕ) (w : List Dir) (left : List ℕ) (fault : LurdFault) → length w ≤ 1000000 → IsWrong at w left fault → reading left at w [] ≡ refused fault
reading-wrong at w left fault few (unknown c rest is full digit none is_fault) =
    let here : reading (c ∷ rest) at w [] ≡ refused (BadLetter (at + 0)) = rw (digit, none, full) in
    ap (λ text. reading text at w []) is ∙ here ∙ ap (λ n. refused (BadLetter n)) (omega arith) ∙ ap refused (sym is_fault)
reading-wrong at w left fault few (alone c digits rest is all digit none is_fault) =
    ap (λ text. reading text at w []) is ∙ reading-digits (c ∷ digits) rest at w [] all ∙ reading-alone rest at w c digits digit none
    ∙ ap refused (sym is_fault)
reading-wrong at w left fault few (never digits rest c d is all direct zero is_fault) =
    let digit = letter_no_digit c d direct in
    let none : nat_eq (times digits) 0 ≡ true = grind (arith, nat_tests) in
    let here : reading (c ∷ rest) at w digits ≡ refused (BadLetter at) = rw (digit, direct, none) in
    ap (λ text. reading text at w []) is ∙ reading-digits digits (c ∷ rest) at w [] all ∙ here ∙ ap refused (sym is_fault)
reading-wrong at w left fault few (many digits rest c d is all direct more is_fault) =
    let digit = letter_no_digit c d direct in
    let some : nat_eq (times digits) 0 ≡ false = grind (arith, nat_tests) in
    let long : nat_lt 1000000 (length w + times digits) ≡ true = grind (arith, nat_tests) in
    let here : reading (c ∷ rest) at w digits ≡ refused TooLong = rw (digit, direct, some, long) in
    ap (λ text. reading text at w []) is ∙ reading-digits digits (c ∷ rest) at w [] all ∙ here ∙ ap refused (sym is_fault)

reading-goes_wrong : (text : List ℕ) (fault : LurdFault) → GoesWrong text fault → reading text 0 [] [] ≡ refused fault
reading-goes_wrong text fault goes =
    ap (λ bytes. reading bytes 0 [] []) goes.whole ∙ reading-front goes.front goes.left goes.w goes.spelled
    ∙ reading-wrong (length goes.front) goes.w goes.left fault goes.spelled.few goes.wrong

-- a text spells one list of letters at most
pub Spells-one : (text : List ℕ) (v w : List Dir) → Spells text v → Spells text w → v ≡ w
Spells-one text v w of_v of_w = let same : accepted v ≡ accepted w = sym (reading-spelled text v of_v) ∙ reading-spelled text w of_w in cc

-- a text that goes wrong spells nothing
pub Spells-GoesWrong : (text : List ℕ) (w : List Dir) (fault : LurdFault) → Spells text w → GoesWrong text fault → ⊥
Spells-GoesWrong text w fault spells goes =
    let same : accepted w ≡ refused fault = sym (reading-spelled text w spells) ∙ reading-goes_wrong text fault goes in
    cc

-- a text goes wrong in one way
pub GoesWrong-one : (text : List ℕ) (f g : LurdFault) → GoesWrong text f → GoesWrong text g → f ≡ g
GoesWrong-one text f g a b = let same : refused f ≡ refused g = sym (reading-goes_wrong text f a) ∙ reading-goes_wrong text g b in cc

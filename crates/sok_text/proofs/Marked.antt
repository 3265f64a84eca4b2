-- Marked texts, letter by letter.
use Rattle.std.proofs.Common.{ℕ, ◌≡◌, ◌<◌, ◌≤◌, ◌+◌, List, [], ◌∷◌, ◌++◌, Bool, true, false, true≢false, All, Some, None, IsSome, IsNone}
use Rattle.std.proofs.Common.{length, take, get_or, flat_map, sym, ap, ◌∙◌, refl, subst, arith}
use Rattle.std.proofs.lemmas.List.{append_assoc, append-nil, take_all, take_more}
use Rattle.std.proofs.lemmas.List.Elements.{All-cons, All-nil}
use Rattle.std.proofs.lemmas.Option.{none-some, same_Some}
use Rattle.std.specs.Char.{is_ascii_digit}
use Rattle.std.specs.Option.{option_and_then, option_map_or}
use Rattle.sok_rules.specs.declared.cell.Dir.{Dir}
use Rattle.sok_rules.specs.declared.cell.Dir.TheVariants.{Left, Up, Right, Down}
use Rattle.sok_rules.specs.Squares.{Rows}
use Rattle.sok_rules.specs.Play.{After, Position, run, start, step}
use Rattle.sok_rules.specs.Replay.{AreMarks}
use Rattle.sok_rules.proofs.Marks.{IsLetter-at, length-push_marks, some_of}
use Rattle.sok_rules.proofs.Outcomes.{none_longer}
use Rattle.sok_text.specs.Characters.{code}
use Rattle.sok_text.specs.Lurd.{direction, Token, letter, IsToken, token_text, token_letters}
use Rattle.sok_text.specs.Marked.{marked_letter, marked_text, MarkedTextsSpell}

-- a text behind another
marked_text-append : (rows : Rows) (w v : List Dir) (x y : Position) → run rows x w ≡ Some y
    → marked_text rows x (w ++ v) ≡ marked_text rows x w ++ marked_text rows y v
marked_text-append rows [] v x y = λ e. ap (λ p. marked_text rows p v) (same_Some x y e)
marked_text-append rows (d ∷ w) v x y = elim (step rows d x) as (λ o. option_and_then (λ after. run rows after.position w) o ≡ Some y
    → option_map_or (λ after. marked_letter d after.pushed ++ marked_text rows after.position (w ++ v)) o []
    ≡ option_map_or (λ after. marked_letter d after.pushed ++ marked_text rows after.position w) o [] ++ marked_text rows y v) [
      | None ↦ λ e. absurd (none-some y e)
      | Some a ↦ λ e. ap (λ rest. marked_letter d a.pushed ++ rest) (marked_text-append rows w v a.position y e)
          ∙ sym (append_assoc (marked_letter d a.pushed) (marked_text rows a.position w) (marked_text rows y v))
    ]

-- the front of a legal list is legal
legal_front : (rows : Rows) (w : List Dir) (x : Position) (at : ℕ) → at ≤ length w → IsSome (run rows x w) → (y : Position) × (run rows x (take at w) ≡ Some y)
legal_front rows w x at within legal = elim (run rows x (take at w)) as (λ o. run rows x (take at w) ≡ o → (y : Position) × (o ≡ Some y)) [
  | Some y ↦ λ _. (y, refl)
  | None ↦ λ none.
      let later = none_longer rows w x at (length w) within (subst IsNone (sym none) refl) in
      absurd (true≢false (sym legal ∙ subst (λ v. IsNone (run rows x v)) (take_all (length w) w (omega arith)) later))
] refl

-- one more letter, marked as it is known to push
pub marked_text-take_more : (rows : Rows) (w : List Dir) (at : ℕ) (other : Dir) (none : Bool) (marks : List Bool) → at < length w → AreMarks rows w marks
    → marked_text rows (start rows) (take (at + 1) w) ≡ marked_text rows (start rows) (take at w) ++ marked_letter (get_or w at other) (get_or marks at none)
marked_text-take_more rows w at other none marks within are =
    let x = start rows in
    let d = get_or w at other in
    let (y, so_far) = legal_front rows w x at (omega arith) are.legal in
    let (a, played) = IsLetter-at rows w x y at other none within are.legal so_far in
    let mark : a.pushed ≡ get_or marks at none = sym played.pushed_is ∙ ap (λ flags. get_or flags at none) (sym are.are) in
    let one : marked_text rows y (d ∷ []) ≡ marked_letter d a.pushed ++ [] =
    ap (λ o. option_map_or (λ (after : After). marked_letter d after.pushed ++ []) o []) played.leads in
    ap (marked_text rows x) (take_more w at other within) ∙ marked_text-append rows (take at w) (d ∷ []) x y so_far
    ∙ ap (λ back. marked_text rows x (take at w) ++ back) (one ∙ append-nil (marked_letter d a.pushed) ∙ ap (marked_letter d) mark)

-- each letter has its mark
pub length-AreMarks : (rows : Rows) (w : List Dir) (marks : List Bool) → AreMarks rows w marks → length marks ≡ length w
length-AreMarks rows w marks are =
    let (y, ran) = some_of (run rows (start rows) w) are.legal in
    ap length are.are ∙ length-push_marks rows w (start rows) y ran

-- the code of a letter
abbrev mark : Dir → Bool → ℕ
mark d pushed = code (marked_letter d pushed)

abbrev token : Dir → Bool → Token
token d pushed = letter [] (mark d pushed) d

-- a letter is a token, whether it pushes or not
record IsMark (d : Dir) (pushed : Bool) : Type 0 where
  is : direction (mark d pushed) ≡ Some d
  text : marked_letter d pushed ≡ mark d pushed ∷ []

is_mark : (d : Dir) (pushed : Bool) → IsMark d pushed
is_mark Left true = record { is = refl; text = refl }
is_mark Left false = record { is = refl; text = refl }
is_mark Up true = record { is = refl; text = refl }
is_mark Up false = record { is = refl; text = refl }
is_mark Right true = record { is = refl; text = refl }
is_mark Right false = record { is = refl; text = refl }
is_mark Down true = record { is = refl; text = refl }
is_mark Down false = record { is = refl; text = refl }

-- the bytes are the text of tokens of these letters
record AreTokens (bytes : List ℕ) (w : List Dir) : Type 0 where
  tokens : List Token
  are : All IsToken tokens
  text : bytes ≡ flat_map token_text tokens
  letters : w ≡ flat_map token_letters tokens

one_more : (d : Dir) (pushed : Bool) (rest : List ℕ) (w : List Dir) → AreTokens rest w → AreTokens (marked_letter d pushed ++ rest) (d ∷ w)
one_more d pushed rest w more =
    let own = is_mark d pushed in
    record {
      tokens = token d pushed ∷ more.tokens;
      are = All-cons IsToken (token d pushed) more.tokens (All-nil (λ c. is_ascii_digit c ≡ true), own.is, omega arith) more.are;
      text = ap (λ front. front ++ rest) own.text ∙ ap (λ bytes. mark d pushed ∷ bytes) more.text;
      letters = ap (λ v. d ∷ v) more.letters;
    }

text_spells : (rows : Rows) (w : List Dir) (x : Position) → IsSome (run rows x w) → AreTokens (marked_text rows x w) w
text_spells rows [] x = λ _. record { tokens = []; are = All-nil IsToken; text = refl; letters = refl }
text_spells rows (d ∷ w) x = elim (step rows d x) as (λ o. IsSome (option_and_then (λ after. run rows after.position w) o)
    → AreTokens (option_map_or (λ after. marked_letter d after.pushed ++ marked_text rows after.position w) o []) (d ∷ w)) [
      | None ↦ λ legal. absurd (true≢false (sym legal))
      | Some a ↦ λ legal. one_more d a.pushed (marked_text rows a.position w) w (text_spells rows w a.position legal)
    ]

pub marked-texts-spell : MarkedTextsSpell
marked-texts-spell rows w text marked few =
    let own = text_spells rows w (start rows) marked.legal in
    record { tokens = own.tokens; are = own.are; text = marked.is ∙ own.text; letters = own.letters; few = few }

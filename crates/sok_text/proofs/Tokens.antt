-- A text of letters read token by token, up to a place in it.
use Rattle.std.proofs.Common.{ℕ, ◌≡◌, ◌<◌, ◌≤◌, ◌+◌, ◌-◌, List, [], ◌∷◌, ◌++◌, false, true, Some, None}
use Rattle.std.proofs.Common.{length, get_or, replicate, flat_map, sym, ap, subst, refl, ◌∙◌, arith}
use Rattle.std.proofs.lemmas.List.{append_assoc, append-nil, flat_map_more, length-append, length-replicate}
use Rattle.std.proofs.lemmas.List.Elements.{All-nil, All-push}
use Rattle.std.specs.Char.{is_ascii_digit}
use Rattle.std.specs.List.{AllPass}
use Rattle.sok_rules.specs.declared.cell.Dir.{Dir}
use Rattle.sok_text.specs.declared.lurd.LurdFault.TheVariants.{BadLetter, TooLong}
use Rattle.sok_text.specs.Counts.{times, starts_with_digit}
use Rattle.sok_text.specs.Lurd.{is_blank, Token, blank, letter, IsToken, token_text, token_letters, first_direction}
use Rattle.sok_text.specs.Lurd.{Spells, GoesWrong, unknown, alone, never, many}
use Rattle.sok_text.proofs.Lines.{behind_first, behind_first-cons}

flat_map-push : {A : Type 0} (f : Token → List A) (ts : List Token) (t : Token) → flat_map f ts ++ f t ≡ flat_map f (ts ++ t ∷ [])
flat_map-push f ts t = flat_map_more f [] ts t

-- a token behind others
Spells-more : (front : List ℕ) (w : List Dir) (t : Token) → Spells front w → IsToken t → length (w ++ token_letters t) ≤ 1000000
    → Spells (front ++ token_text t) (w ++ token_letters t)
Spells-more front w t spells is few = record {
  tokens = spells.tokens ++ t ∷ [];
  are = All-push IsToken spells.tokens t spells.are is;
  text = ap (λ bytes. bytes ++ token_text t) spells.text ∙ flat_map-push token_text spells.tokens t;
  letters = ap (λ v. v ++ token_letters t) spells.letters ∙ flat_map-push token_letters spells.tokens t;
  few = few;
}

Spells-blank : (front : List ℕ) (w : List Dir) (c : ℕ) → Spells front w → is_blank c ≡ true → Spells (front ++ c ∷ []) w
Spells-blank front w c spells is =
    let none : w ++ [] ≡ w = append-nil w in
    subst (Spells (front ++ c ∷ [])) none (Spells-more front w (blank c) spells is (subst (λ v. length v ≤ 1000000) (sym none) spells.few))

-- what is left of a text stands behind a front that spells these letters
pub record IsReadTo (text left : List ℕ) (w : List Dir) : Type 0 where
  pub front : List ℕ
  pub whole : text ≡ front ++ left
  pub spelled : Spells front w

pub IsReadTo-start : (text : List ℕ) → IsReadTo text text []
IsReadTo-start text = record {
  front = [];
  whole = refl;
  spelled = record { tokens = []; are = All-nil IsToken; text = refl; letters = refl; few = omega arith };
}

pub left-le : (text left : List ℕ) (w : List Dir) → IsReadTo text left w → length left ≤ length text
left-le text left w read = omega (arith, ap length read.whole, length-append read.front left)

pub Spells-read : (text left : List ℕ) (w : List Dir) → IsReadTo text left w → length left ≡ 0 → Spells text w
Spells-read text [] w read none = subst (λ bytes. Spells bytes w) (sym (read.whole ∙ append-nil read.front)) read.spelled
Spells-read text (c ∷ left) w read none = absurd (omega arith)

pub IsReadTo-blank : (text left : List ℕ) (w : List Dir) → IsReadTo text left w → 0 < length left → is_blank (get_or left 0 0) ≡ true
    → IsReadTo text (behind_first left) w
IsReadTo-blank text [] w read some is = absurd (omega arith)
IsReadTo-blank text (c ∷ left) w read some is = record {
  front = read.front ++ c ∷ [];
  whole =
      read.whole ∙ ap (λ rest. read.front ++ c ∷ rest) (sym (behind_first-cons c left))
      ∙ sym (append_assoc read.front (c ∷ []) (behind_first (c ∷ left)));
  spelled = Spells-blank read.front w c read.spelled is;
}

pub IsReadTo-letter : (text left digits behind : List ℕ) (w : List Dir) (d : Dir) → IsReadTo text left w → left ≡ digits ++ behind → AllPass is_ascii_digit digits
    → first_direction behind ≡ Some d → 0 < times digits → length w + times digits ≤ 1000000
    → IsReadTo text (behind_first behind) (w ++ replicate (times digits) d)
IsReadTo-letter text left digits [] w d read whole all is some few = cc
IsReadTo-letter text left digits (c ∷ behind) w d read whole all is some few = record {
  front = read.front ++ (digits ++ c ∷ []);
  whole =
      read.whole ∙ ap (λ rest. read.front ++ rest) (whole ∙ sym (append_assoc digits (c ∷ []) behind))
      ∙ sym (append_assoc read.front (digits ++ c ∷ []) behind) ∙ ap (λ rest. (read.front ++ (digits ++ c ∷ [])) ++ rest) (sym (behind_first-cons c behind));
  spelled = Spells-more read.front w (letter digits c d) read.spelled (all, is, some)
      (omega (arith, length-append w (replicate (times digits) d), length-replicate (times digits) d));
}

-- no letter where one has to stand
pub GoesWrong-no_letter : (text left digits behind : List ℕ) (w : List Dir) → IsReadTo text left w → 0 < length left → is_blank (get_or left 0 0) ≡ false
    → left ≡ digits ++ behind → AllPass is_ascii_digit digits → starts_with_digit behind ≡ false → first_direction behind ≡ None
    → GoesWrong text (BadLetter (length text - length behind))
GoesWrong-no_letter text left [] [] w read some full whole all digit none = absurd (omega (arith, ap length whole))
GoesWrong-no_letter text left [] (c ∷ rest) w read some full whole all digit none = record {
  front = read.front;
  left = left;
  whole = read.whole;
  w = w;
  spelled = read.spelled;
  wrong = unknown c rest whole (ap (λ bytes. is_blank (get_or bytes 0 0)) (sym whole) ∙ full) digit none (ap BadLetter (omega (
    arith,
    ap length read.whole,
    ap length whole,
    length-append read.front left,
  )));
}
GoesWrong-no_letter text left (c ∷ digits) behind w read some full whole all digit none = record {
  front = read.front;
  left = left;
  whole = read.whole;
  w = w;
  spelled = read.spelled;
  wrong = alone c digits behind whole all digit none (ap BadLetter (omega (
    arith,
    ap length read.whole,
    ap length whole,
    length-append read.front left,
    length-append (c ∷ digits) behind,
  )));
}

-- the number 0
pub GoesWrong-never : (text left digits behind : List ℕ) (w : List Dir) (d : Dir) → IsReadTo text left w → left ≡ digits ++ behind → AllPass is_ascii_digit digits
    → first_direction behind ≡ Some d → times digits ≡ 0 → GoesWrong text (BadLetter (length text - length left))
GoesWrong-never text left digits [] w d read whole all is zero = cc
GoesWrong-never text left digits (c ∷ rest) w d read whole all is zero = record {
  front = read.front;
  left = left;
  whole = read.whole;
  w = w;
  spelled = read.spelled;
  wrong = never digits rest c d whole all is zero (ap BadLetter (omega (arith, ap length read.whole, length-append read.front left)));
}

-- letters beyond the limit
pub GoesWrong-many : (text left digits behind : List ℕ) (w : List Dir) (d : Dir) → IsReadTo text left w → left ≡ digits ++ behind → AllPass is_ascii_digit digits
    → first_direction behind ≡ Some d → 1000000 < length w + times digits → GoesWrong text TooLong
GoesWrong-many text left digits [] w d read whole all is more = cc
GoesWrong-many text left digits (c ∷ rest) w d read whole all is more = record {
  front = read.front;
  left = left;
  whole = read.whole;
  w = w;
  spelled = read.spelled;
  wrong = many digits rest c d whole all is more refl;
}

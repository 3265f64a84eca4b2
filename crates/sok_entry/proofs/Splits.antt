-- A text that grows at its end, cut into lines.
use Rattle.std.proofs.Common.{ℕ, ◌≡◌, ◌+◌, ◌⊎◌, ◌∙◌, inl, inr, sym, ap, refl, List, [], ◌∷◌, ◌++◌, false, length, arith}
use Rattle.std.proofs.lemmas.List.{append_assoc, append-nil, length_push}
use Rattle.std.proofs.lemmas.List.Elements.{All-append, All-nil}
use Rattle.std.proofs.lemmas.List.Splits.{slice_split_at, slice_split_none, length-slice_split}
use Rattle.std.specs.Str.Lines.{lines, strip_carriage_return}
use Rattle.sok_text.specs.Lines.{is_newline, IsUnended}
use Rattle.sok_text.proofs.Lines.{lines-last, lines-newline}
use Rattle.sok_entry.specs.Reading.{ended_lines}
use Rattle.sok_entry.specs.Stages.{IsSplit}

ended_lines-newline : (front more : List ℕ) → IsUnended front → ended_lines (front ++ 10 ∷ more) ≡ ended_lines more + 1
ended_lines-newline front more unended =
    omega (
      arith,
      length-slice_split is_newline (front ++ 10 ∷ more),
      length-slice_split is_newline more,
      ap length (slice_split_at is_newline front 10 more unended refl),
    )

ended_lines-unended : (text : List ℕ) → IsUnended text → ended_lines text ≡ 0
ended_lines-unended text unended = omega (arith, length-slice_split is_newline text, ap length (slice_split_none is_newline text unended))

pub IsSplit-start : IsSplit [] [] []
IsSplit-start = record { has_lines = λ more. refl; ended = λ more. omega arith; unended = All-nil (λ byte. is_newline byte ≡ false) }

-- bytes in which no line ends
pub IsSplit-more : (text part : List ℕ) (ls : List (List ℕ)) (rest : List ℕ) → IsSplit text ls rest → IsUnended part → IsSplit (text ++ part) ls (rest ++ part)
IsSplit-more text part ls rest split unended = record {
  has_lines = λ more. ap lines (append_assoc text part more) ∙ split.has_lines (part ++ more)
      ∙ ap (λ bytes. ls ++ lines bytes) (sym (append_assoc rest part more));
  ended = λ more. ap ended_lines (append_assoc text part more) ∙ split.ended (part ++ more)
      ∙ ap (λ bytes. length ls + ended_lines bytes) (sym (append_assoc rest part more));
  unended = All-append (λ byte. is_newline byte ≡ false) rest part split.unended unended;
}

-- the end of a line
pub IsSplit-end : (text : List ℕ) (ls : List (List ℕ)) (rest : List ℕ) → IsSplit text ls rest
    → IsSplit (text ++ 10 ∷ []) (ls ++ strip_carriage_return rest ∷ []) []
IsSplit-end text ls rest split =
    let line = strip_carriage_return rest in record {
      has_lines = λ more. ap lines (append_assoc text (10 ∷ []) more) ∙ split.has_lines (10 ∷ more)
          ∙ ap (λ more_lines. ls ++ more_lines) (lines-newline rest more split.unended) ∙ sym (append_assoc ls (line ∷ []) (lines more));
      ended = λ more.
          let count = ap ended_lines (append_assoc text (10 ∷ []) more) ∙ split.ended (10 ∷ more) in
          omega (arith, count, ended_lines-newline rest more split.unended, length_push ls line);
      unended = All-nil (λ byte. is_newline byte ≡ false);
    }

-- ---- at the end of the text

pub lines-split : (text : List ℕ) (ls : List (List ℕ)) (rest : List ℕ) → IsSplit text ls rest → lines text ≡ ls ++ lines rest
lines-split text ls rest split = ap lines (sym (append-nil text)) ∙ split.has_lines [] ∙ ap (λ bytes. ls ++ lines bytes) (append-nil rest)

pub ended_lines-split : (text : List ℕ) (ls : List (List ℕ)) (rest : List ℕ) → IsSplit text ls rest → ended_lines text ≡ length ls
ended_lines-split text ls rest split =
    let count = ap ended_lines (sym (append-nil text)) ∙ split.ended [] ∙ ap (λ bytes. length ls + ended_lines bytes) (append-nil rest) in
    omega (arith, count, ended_lines-unended rest split.unended)

-- bytes in which no line ends are nothing, or one line
pub lines-unended : (rest : List ℕ) → IsUnended rest → (rest ≡ []) ⊎ (lines rest ≡ rest ∷ [])
lines-unended [] unended = inl refl
lines-unended (byte ∷ rest) unended = inr (lines-last (byte ∷ rest) (omega arith) unended)

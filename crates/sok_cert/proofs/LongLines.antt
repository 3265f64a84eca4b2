-- A line that is too long for the first two of a certificate.
use Rattle.std.proofs.Common.{ℕ, ◌≡◌, ◌⊎◌, ◌<◌, ◌≤◌, ◌+◌, ◌∙◌, refl, sym, ap, subst, List, [], ◌∷◌, ◌++◌, false, length, inl, inr, arith, lit≤}
use Rattle.std.proofs.lemmas.Bool.{cases_Bool, eqb-true}
use Rattle.std.proofs.lemmas.Fmt.{length-decimal-le}
use Rattle.std.proofs.lemmas.List.{append_assoc, append-nil, length-append}
use Rattle.std.proofs.lemmas.List.Elements.{All-append, All-cons, All-nil}
use Rattle.std.specs.Prelude.{codes, decimal}
use Rattle.std.specs.Str.Lines.{lines, strip_carriage_return}
use Rattle.sok_text.specs.Lines.{IsUnended, is_newline}
use Rattle.sok_text.proofs.Lines.{length-strip_most, lines-last, lines-newline}
use Rattle.sok_entry.specs.declared.claim.Claim.{Claim}
use Rattle.sok_entry.specs.declared.claim.Claim.TheVariants.{Pushes, Unsolvable}
use Rattle.sok_entry.specs.declared.entry.Entry.{Entry}
use Rattle.sok_entry.specs.declared.fault.CertFault.TheVariants.{Header}
use Rattle.sok_entry.specs.declared.stage.Stage.{Stage}
use Rattle.sok_entry.specs.declared.version.Version.{Version}
use Rattle.sok_entry.specs.declared.version.Version.TheVariants.{One, Two}
use Rattle.sok_entry.specs.declared.stage.Stage.TheVariants.{AtClaim, AtHeader}
use Rattle.sok_entry.specs.Reading.{GoesWrong, at_header}
use Rattle.sok_entry.specs.Stages.{IsSplit, IsStage}
use Rattle.sok_entry.specs.Text.{FitsClaim, claim_line, header}

-- the first of these lines has all of a front, or all but one byte
record BeginsWith (front : List ℕ) (ls : List (List ℕ)) : Type 0 where
  first : List ℕ
  others : List (List ℕ)
  has : ls ≡ first ∷ others
  long : length front ≤ length first + 1

begins : (front more : List ℕ) → IsUnended front → 0 < length front → BeginsWith front (lines (front ++ more))
begins front [] unended some = record {
  first = front;
  others = [];
  has = ap lines (append-nil front) ∙ lines-last front some unended;
  long = omega arith;
}
begins front (byte ∷ more) unended some = elim (cases_Bool (is_newline byte)) [
  | inl newline ↦ record {
    first = strip_carriage_return front;
    others = lines more;
    has = ap (λ b. lines (front ++ b ∷ more)) (eqb-true byte 10 newline) ∙ lines-newline front more unended;
    long = length-strip_most front;
  }
  | inr plain ↦
      let longer = front ++ byte ∷ [] in
      let none : IsUnended longer = All-append (λ b. is_newline b ≡ false) front (byte ∷ []) unended (All-cons (λ b. is_newline b ≡ false) byte [] plain (All-nil (λ b. is_newline b ≡ false))) in
      let size = length-append front (byte ∷ []) in
      let rest = begins longer more none (omega (arith, size)) in
      let long = rest.long in
      record {
        first = rest.first;
        others = rest.others;
        has = ap lines (sym (append_assoc front (byte ∷ []) more)) ∙ rest.has;
        long = omega (arith, size);
      }
]

short-header : (version : Version) → length (header version) ≤ 21
unfolding header
short-header One = lit≤ tt
short-header Two = lit≤ tt

short-claim : (claim : Claim) → FitsClaim claim → length (claim_line claim) ≤ 14
unfolding claim_line
short-claim (Pushes k) small = omega (arith, length-append (codes "pushes ") (decimal k), length-decimal-le 7 k (omega arith) (omega arith) (omega arith))
short-claim Unsolvable small = lit≤ tt

-- a text whose first line goes on for longer than a header goes wrong, whatever comes
wrong-header : (text line : List ℕ) → 64 < length line → IsSplit text [] line → (more : List ℕ) → GoesWrong (text ++ more) Header
wrong-header text line many split more =
    let begun = begins line more split.unended (omega arith) in
    let long = begun.long in
    at_header (λ version claim ls fits same.
    let both : begun.first ∷ begun.others ≡ header version ∷ claim_line claim ∷ ls = sym begun.has ∙ sym (split.has_lines more) ∙ same in
    let first : begun.first ≡ header version = cc in
    omega (arith, ap length first, short-header version)) refl

-- and one whose second line goes on for longer than a claim
wrong-claim : (version : Version) (text line : List ℕ) → 64 < length line → IsSplit text (header version ∷ []) line → (more : List ℕ)
    → GoesWrong (text ++ more) Header
wrong-claim version text line many split more =
    let begun = begins line more split.unended (omega arith) in
    let long = begun.long in
    at_header (λ other claim ls fits same.
    let both : header version ∷ begun.first ∷ begun.others ≡ header other ∷ claim_line claim ∷ ls =
    ap (λ rest. header version ∷ rest) (sym begun.has) ∙ sym (split.has_lines more) ∙ same in
    let first : begun.first ≡ claim_line claim = cc in
    omega (arith, ap length first, short-claim claim fits)) refl

pub wrong-front : (stage : Stage) (text : List ℕ) (ls : List (List ℕ)) (es : List Entry) (line : List ℕ) → (stage ≡ AtHeader) ⊎ ((version : Version) × (stage ≡ AtClaim version))
    → 64 < length line → IsSplit text ls line → IsStage ls es stage → (more : List ℕ) → GoesWrong (text ++ more) Header
wrong-front stage text ls es line (inl is) many split at =
    wrong-header text line many (subst (λ passed. IsSplit text passed line) (subst (IsStage ls es) is at).0 split)
wrong-front stage text ls es line (inr (version, is)) many split at =
    wrong-claim version text line many (subst (λ passed. IsSplit text passed line) (subst (IsStage ls es) is at).0 split)

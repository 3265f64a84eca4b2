-- Reading a text line by line.
use Rattle.std.proofs.Common.{ℕ, ◌≡◌, ◌≤◌, ◌+◌, ◌==◌, ◌∙◌, sym, ap, subst, List, [], ◌∷◌, ◌++◌, length, arith}
use Rattle.std.proofs.lemmas.List.{append_assoc, length-append, length_push}
use Rattle.std.proofs.lemmas.List.Sums.{count_by-le-length}
use Rattle.std.specs.Str.Lines.{lines, strip_carriage_return}
use Rattle.sok_text.specs.Lines.{IsCutAtEnd, IsUnended}
use Rattle.sok_entry.specs.declared.entry.Entry.{Entry}
use Rattle.sok_entry.specs.declared.fault.CertFault.{CertFault}
use Rattle.sok_entry.specs.declared.stage.Stage.{Stage}
use Rattle.sok_entry.specs.Reading.{GoesWrong, ended_lines}
use Rattle.sok_entry.specs.Stages.{AreWrong, IsSplit, IsStage}
use Rattle.sok_entry.proofs.Splits.{IsSplit-end, IsSplit-more}

-- a front of so many whole lines that bring a certificate so far, and the rest of the text
pub record Reached (text : List ℕ) (stage : Stage) (es : List Entry) (count : ℕ) (rest : List ℕ) : Type 0 where
  pub front : List ℕ
  pub passed : List (List ℕ)
  pub whole : text ≡ front ++ rest
  pub split : IsSplit front passed []
  pub at : IsStage passed es stage
  pub counted : length passed ≡ count

module _ (text : List ℕ) (stage : Stage) (es : List Entry) (count : ℕ) (rest : List ℕ) (reached : Reached text stage es count rest) where
  module _ (part behind : List ℕ) (cut : IsCutAtEnd rest part behind) where
    abbrev line : List ℕ
    line = strip_carriage_return part

    -- the front with the next line
    abbrev front_with : List ℕ
    front_with = reached.front ++ part ++ 10 ∷ []

    split_with : IsSplit front_with (reached.passed ++ line ∷ []) []
    split_with = IsSplit-end (reached.front ++ part) reached.passed part (IsSplit-more reached.front part reached.passed [] reached.split cut.unended)

    whole_with : text ≡ front_with ++ behind
    whole_with =
        reached.whole ∙ ap (λ bytes. reached.front ++ bytes) cut.whole ∙ sym (append_assoc reached.front part (10 ∷ behind))
        ∙ sym (append_assoc (reached.front ++ part) (10 ∷ []) behind)

    pub Reached-more : (next : Stage) (fs : List Entry) → IsStage (reached.passed ++ line ∷ []) fs next → Reached text next fs (count + 1) behind
    Reached-more next fs at = record {
      front = front_with;
      passed = reached.passed ++ line ∷ [];
      whole = whole_with;
      split = split_with;
      at = at;
      counted = omega (arith, length_push reached.passed line, reached.counted);
    }

    pub Reached-wrong : (fault : CertFault) → AreWrong (reached.passed ++ line ∷ []) fault → GoesWrong text fault
    Reached-wrong fault wrong =
        let ends = ap ended_lines whole_with ∙ split_with.ended behind in
        wrong text (lines behind) (ap lines whole_with ∙ split_with.has_lines behind) (omega (arith, ends))

  -- there are no more lines than bytes
  pub Reached-few : count ≤ length text
  Reached-few =
      let ends = reached.split.ended [] in
      let bytes = count_by-le-length (λ byte. byte == 10) (reached.front ++ []) in
      omega (arith, ends, bytes, length-append reached.front [], ap length reached.whole, length-append reached.front rest, reached.counted)

  -- all of the text, where no line ends in the rest
  pub Reached-ended : IsUnended rest → IsSplit text reached.passed rest
  Reached-ended unended = subst (λ all. IsSplit all reached.passed rest) (sym reached.whole)
      (IsSplit-more reached.front rest reached.passed [] reached.split unended)

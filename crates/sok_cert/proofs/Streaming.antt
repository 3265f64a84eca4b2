-- A certificate that is judged as it is read.
use Rattle.std.proofs.Common.{ℕ, ◌≡◌, ◌+◌, ◌∙◌, sym, ap, refl, subst, List, [], ◌∷◌, ◌++◌, Option, Some, None, is_some, true, false, true≢false, All, MatchOption, length, map, arith}
use Rattle.std.proofs.lemmas.List.{append_assoc, append-nil, length-append, length-map, length_push}
use Rattle.std.specs.Str.Lines.{lines, strip_carriage_return}
use Rattle.sok_text.specs.Lines.{IsCutAtEnd, IsUnended}
use Rattle.sok_board.specs.Area.{BoardView}
use Rattle.sok_entry.specs.declared.claim.Claim.{Claim}
use Rattle.sok_entry.specs.declared.entry.Entry.{Entry}
use Rattle.sok_entry.specs.declared.entry.Inner.{Inner}
use Rattle.sok_entry.specs.declared.fault.CertFault.{CertFault}
use Rattle.sok_entry.specs.declared.stage.Stage.TheVariants.{AtHeader}
use Rattle.sok_entry.specs.Reading.{GoesWrong}
use Rattle.sok_entry.specs.Stages.{AreWrong, IsSplit}
use Rattle.sok_entry.specs.Text.{inner_line, inner_text, FitsInner}
use Rattle.sok_entry.proofs.Printable.{IsSplit-inner}
use Rattle.sok_entry.proofs.Splits.{IsSplit-end, IsSplit-more, IsSplit-start}
use Rattle.sok_cert.specs.Rosters.{Rostered, TellsEntries}
use Rattle.sok_cert.specs.Parts.{IsTaken}
use Rattle.sok_cert.specs.Streams.{AreJudged, IsReadSo, Progressed, StandsBy, StandsFor}

-- what stands for a text that is written in another way
pub StandsFor-same : (b : BoardView) (p : Progressed) (text other : List ℕ) → text ≡ other → StandsFor b text p → StandsFor b other p
StandsFor-same b p text other same stands = subst (λ t. StandsFor b t p) same stands

-- a text that goes wrong whatever comes behind it
goes-wrong : (text part : List ℕ) (fault : CertFault) → ((more : List ℕ) → GoesWrong (text ++ more) fault) → (more : List ℕ)
    → GoesWrong ((text ++ part) ++ more) fault
goes-wrong text part fault wrong more = subst (λ t. GoesWrong t fault) (sym (append_assoc text part more)) (wrong (part ++ more))

-- so it does with more of it
stays : (b : BoardView) (p next : Progressed) (text part : List ℕ) (wrong : Option CertFault) → is_some wrong ≡ true → StandsBy b text p wrong
    → StandsBy b (text ++ part) next wrong
stays b p next text part None none stands = absurd (true≢false (sym none))
stays b p next text part (Some fault) some stands = goes-wrong text part fault stands

pub wrong-stays : (b : BoardView) (p : Progressed) (text part : List ℕ) → is_some p.wrong ≡ true → StandsFor b text p → StandsFor b (text ++ part) p
wrong-stays b p text part some stands = stays b p p text part p.wrong some stands

-- a text that may still be a certificate
reads : (b : BoardView) (p : Progressed) (text : List ℕ) (wrong : Option CertFault) → is_some wrong ≡ false → StandsBy b text p wrong → IsReadSo b text p
reads b p text None none stands = stands
reads b p text (Some fault) none stands = absurd (true≢false none)

pub IsReadSo-unless : (b : BoardView) (p : Progressed) (text : List ℕ) → is_some p.wrong ≡ false → StandsFor b text p → IsReadSo b text p
IsReadSo-unless b p text none stands = reads b p text p.wrong none stands

-- it stands for what was read so
read-stands : (b : BoardView) (p : Progressed) (text : List ℕ) (wrong : Option CertFault) → is_some wrong ≡ false → IsReadSo b text p → StandsBy b text p wrong
read-stands b p text None none so = so
read-stands b p text (Some fault) none so = absurd (true≢false none)

pub GoesWrong-now : (b : BoardView) (p : Progressed) (text : List ℕ) (fault : CertFault) → p.wrong ≡ Some fault → StandsFor b text p → GoesWrong text fault
GoesWrong-now b p text fault is stands =
    let told : StandsBy b text p (Some fault) = subst (StandsBy b text p) is stands in
    subst (λ t. GoesWrong t fault) (append-nil text) (told [])

-- nothing is read
pub stands-nothing : (b : BoardView) (lines : ℕ) (line : List ℕ) (roster : Rostered) → line ≡ [] → lines ≡ 0
    → ((claim : Claim) → TellsEntries b claim [] roster.roll roster.fault)
    → IsReadSo b [] (record { stage = AtHeader; lines = lines; line = line; wrong = None; roster = roster })
stands-nothing b lines line roster empty none tells = record {
  passed = [];
  entries = [];
  split = subst (IsSplit [] []) (sym empty) IsSplit-start;
  count = sym none;
  judged = record { at = (refl, refl); tells = λ claim may. tells claim };
}

-- more bytes of the line
pub IsReadSo-more : (b : BoardView) (text part line : List ℕ) (p : Progressed) → IsReadSo b text p → IsUnended part → line ≡ p.line ++ part
    → IsReadSo b (text ++ part) (record p { line = line })
IsReadSo-more b text part line p so unended is = subst (λ bytes. IsReadSo b (text ++ part) (record p { line = bytes })) (sym is) (record {
  passed = so.passed;
  entries = so.entries;
  split = IsSplit-more text part so.passed p.line so.split unended;
  count = so.count;
  judged = so.judged;
})

pub stands-more : (b : BoardView) (text part line : List ℕ) (p : Progressed) → is_some p.wrong ≡ false → IsUnended part → line ≡ p.line ++ part → StandsFor b text p
    → StandsFor b (text ++ part) (record p { line = line })
stands-more b text part line p none unended is stands =
    let so = IsReadSo-more b text part line p (IsReadSo-unless b p text none stands) unended is in
    read-stands b (record p { line = line }) (text ++ part) p.wrong none so

-- whole lines that are judged, or with which the text goes wrong
module _ (b : BoardView) (text : List ℕ) (next : Progressed) (passed : List (List ℕ)) (split : IsSplit text passed []) (empty : next.line ≡ [])
    (count : length passed ≡ next.lines)
  where
    ends : (wrong : Option CertFault)
        → MatchOption wrong ((es : List Entry) × AreJudged b next.stage next.roster passed es) (AreWrong passed) → StandsBy b text next wrong
    ends None (es, judged) = record { passed = passed; entries = es; split = subst (IsSplit text passed) (sym empty) split; count = count; judged = judged }
    ends (Some fault) wrong = λ more.
        let ended = split.ended more in
        wrong (text ++ more) (lines more) (split.has_lines more) (omega (arith, ended))

    pub stands-whole : MatchOption next.wrong ((es : List Entry) × AreJudged b next.stage next.roster passed es) (AreWrong passed) → StandsFor b text next
    stands-whole told = ends next.wrong told

-- the line ends
module _ (b : BoardView) (text : List ℕ) (p next : Progressed) (so : IsReadSo b text p) (empty : next.line ≡ []) (more_lines : next.lines ≡ p.lines + 1)
  where
    abbrev passed : List (List ℕ)
    passed = so.passed ++ strip_carriage_return p.line ∷ []

    pub stands-end : MatchOption next.wrong ((es : List Entry) × AreJudged b next.stage next.roster passed es) (AreWrong passed)
        → StandsFor b (text ++ 10 ∷ []) next
    stands-end told =
        stands-whole b (text ++ 10 ∷ []) next passed (IsSplit-end text so.passed p.line so.split) empty
        (length_push so.passed (strip_carriage_return p.line) ∙ ap (λ n. n + 1) so.count ∙ sym more_lines) told

-- the lines of all inner positions of a pattern
pub stands-inner : (b : BoardView) (text : List ℕ) (p next : Progressed) (so : IsReadSo b text p) (inner : List Inner) → p.line ≡ [] → next.line ≡ []
    → next.lines ≡ p.lines + length inner → All FitsInner inner
    → MatchOption next.wrong ((es : List Entry) × AreJudged b next.stage next.roster (so.passed ++ map inner_line inner) es)
    (AreWrong (so.passed ++ map inner_line inner))
    → StandsFor b (text ++ inner_text inner) next
stands-inner b text p next so inner none empty more_lines fit told =
    stands-whole b (text ++ inner_text inner) next (so.passed ++ map inner_line inner)
    (IsSplit-inner text so.passed inner fit (subst (IsSplit text so.passed) none so.split)) empty
    (omega (arith, length-append so.passed (map inner_line inner), length-map inner inner_line, so.count, more_lines)) told

-- ---- along a piece

pub IsTaken-start : (b : BoardView) (p : Progressed) (piece : List ℕ) → IsTaken b p p piece piece
IsTaken-start b p piece = record { done = []; whole = refl; stands = λ text stands. StandsFor-same b p text (text ++ []) (sym (append-nil text)) stands }

pub IsTaken-line : (b : BoardView) (old now next : Progressed) (piece rest part behind : List ℕ) → IsTaken b old now piece rest → IsCutAtEnd rest part behind
    → ((text : List ℕ) → StandsFor b text now → StandsFor b (text ++ part ++ 10 ∷ []) next) → IsTaken b old next piece behind
IsTaken-line b old now next piece rest part behind taken cut more = record {
  done = taken.done ++ part ++ 10 ∷ [];
  whole = taken.whole ∙ ap (λ bytes. taken.done ++ bytes) cut.whole ∙ sym (append_assoc taken.done part (10 ∷ behind))
      ∙ sym (append_assoc (taken.done ++ part) (10 ∷ []) behind);
  stands = λ text stands.
      let done = taken.done in
      StandsFor-same b next ((text ++ done) ++ part ++ 10 ∷ []) (text ++ (done ++ part ++ 10 ∷ []))
      (ap (λ bytes. bytes ++ 10 ∷ []) (append_assoc text done part) ∙ append_assoc text (done ++ part) (10 ∷ []))
      (more (text ++ done) (taken.stands text stands));
}

pub IsTaken-all : (b : BoardView) (old now : Progressed) (piece rest : List ℕ) (taken : IsTaken b old now piece rest) (text : List ℕ)
    → (text ++ taken.done) ++ rest ≡ text ++ piece
IsTaken-all b old now piece rest taken text = append_assoc text taken.done rest ∙ ap (λ bytes. text ++ bytes) (sym taken.whole)

-- more of it is taken
pub IsTaken-on : (b : BoardView) (old now next : Progressed) (piece rest behind : List ℕ) → IsTaken b old now piece rest → IsTaken b now next rest behind
    → IsTaken b old next piece behind
IsTaken-on b old now next piece rest behind taken more = record {
  done = taken.done ++ more.done;
  whole = taken.whole ∙ ap (λ bytes. taken.done ++ bytes) more.whole ∙ sym (append_assoc taken.done more.done behind);
  stands = λ text stands.
      StandsFor-same b next ((text ++ taken.done) ++ more.done) (text ++ (taken.done ++ more.done)) (append_assoc text taken.done more.done)
      (more.stands (text ++ taken.done) (taken.stands text stands));
}

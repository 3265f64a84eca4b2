-- What a scan has found, from one byte of a text to the next, and at its end.
use Rattle.std.proofs.Common.{ℕ, ◌≡◌, ◌+◌, ◌<◌, ◌≤◌, ◌^◌, ◌↔◌, List, [], ◌∷◌, ◌++◌, Option, Result, Ok, Err, IsOk, OnOk, OnErr, false}
use Rattle.std.proofs.Common.{length, take, sym, ap, ◌∙◌, subst, refl, arith}
use Rattle.std.proofs.lemmas.List.{append_assoc, append-nil, length-append, length-take, take_all, take-append-le}
use Rattle.std.proofs.lemmas.List.Elements.{All-nil, All-push}
use Rattle.std.specs.Str.Lines.{lines, strip_carriage_return}
use Rattle.sok_text.specs.Lines.{is_newline, IsUnended}
use Rattle.sok_text.proofs.Lines.{lines-newline, lines-last}
use Rattle.sok_near.specs.NearLines.{near_place, near_at, near_from, near_lines}
use Rattle.sok_near.specs.Scans.{HasFound, HasPassed, IsShort}
use Rattle.sok_near.specs.declared.near.NearLine.{NearLine}
use Rattle.sok_near.specs.declared.scan.NearScan.{NearScan}
use Rattle.sok_near.proofs.Places.{length-near_from, near_from-push, near_place-nil, near_place-strip, near_place-take}

-- a list of at most n elements is the front of one that grows, also where it is full
pub take-pushed : {X E : Type 0} (n : ℕ) (old new xs : List X) (x : X) (result : Result (Unit {0}) E) → old ≡ take n xs → (IsOk result ↔ (length old < n))
    → OnOk result (new ≡ old ++ x ∷ []) → OnErr result (new ≡ old) → OnErr result (length old ≡ n) → new ≡ take n (xs ++ x ∷ [])
take-pushed n old new xs x (Ok done) same fits ok err full =
    let short : length old < n = fits.0 refl in
    let all : length xs < n = omega (arith, ap length same, length-take n xs) in
    ok ∙ ap (λ front. front ++ x ∷ []) (same ∙ take_all n xs (omega arith)) ∙ sym (take_all n (xs ++ x ∷ []) (omega (arith, length-append xs (x ∷ []))))
take-pushed n old new xs x (Err refused) same fits ok err full =
    let long : n ≤ length xs = omega (arith, ap length same, length-take n xs) in
    err ∙ same ∙ sym (take-append-le n xs (x ∷ []) long)

-- a text of which no byte has come
pub passed-none : (all : List NearLine) (scan : NearScan) → scan.front.items ≡ [] → scan.ended ≡ 0 → HasFound all scan → HasPassed all [] scan
passed-none all scan empty none found = record {
  done = [];
  front = [];
  cut = λ more. refl;
  unended = All-nil (λ byte. is_newline byte ≡ false);
  fits = omega arith;
  kept = empty;
  ended = none;
  found = subst (λ lines. HasFound lines scan) (sym (append-nil all)) found;
}

-- a byte of a line
pub passed-byte : (before : List NearLine) (text : List ℕ) (byte : ℕ) (old new : NearScan) → is_newline byte ≡ false → (passed : HasPassed before text old)
    → new.front.items ≡ take 1002 (passed.front ++ byte ∷ []) → new.ended ≡ old.ended → HasFound (before ++ near_from 1 passed.done) new
    → HasPassed before (text ++ byte ∷ []) new
passed-byte before text byte old new plain passed kept ended found = record {
  done = passed.done;
  front = passed.front ++ byte ∷ [];
  cut = λ more.
      ap lines (append_assoc text (byte ∷ []) more) ∙ passed.cut (byte ∷ more)
      ∙ ap (λ rest. passed.done ++ lines rest) (sym (append_assoc passed.front (byte ∷ []) more));
  unended = All-push (λ b. is_newline b ≡ false) passed.front byte passed.unended plain;
  fits = omega (arith, passed.fits, length-append text (byte ∷ []), length-append passed.front (byte ∷ []));
  kept = kept;
  ended = ended ∙ passed.ended;
  found = found;
}

-- one line more was found, or none
pub found-line : (before : List NearLine) (done : List (List ℕ)) (line : List ℕ) (n : ℕ) (scan : NearScan) → n ≡ length done + 1
    → HasFound ((before ++ near_from 1 done) ++ near_at n (near_place line)) scan → HasFound (before ++ near_from 1 (done ++ line ∷ [])) scan
found-line before done line n scan number found =
    let next : 1 + length done ≡ n = omega arith in
    let same : (before ++ near_from 1 done) ++ near_at n (near_place line) ≡ before ++ near_from 1 (done ++ line ∷ []) =
    append_assoc before (near_from 1 done) (near_at n (near_place line))
    ∙ ap (λ more. before ++ more) (ap (λ m. near_from 1 done ++ near_at m (near_place line)) (sym next) ∙ sym (near_from-push 1 done line)) in
    subst (λ all. HasFound all scan) same found

-- how many were found before a line ends can be counted
pub found-few : (before : List NearLine) (text : List ℕ) (scan : NearScan) (passed : HasPassed before text scan) → IsShort before text
    → (scan.ended + 1 < 2 ^ 64) × (length (before ++ near_from 1 passed.done) + 1 < 2 ^ 64)
found-few before text scan passed short = (
  omega (arith, passed.fits, passed.ended),
  omega (arith, passed.fits, length-append before (near_from 1 passed.done), length-near_from 1 passed.done),
)

-- the end of a line
pub passed-line : (before : List NearLine) (text : List ℕ) (old new : NearScan) (passed : HasPassed before text old) → new.front.items ≡ []
    → new.ended ≡ old.ended + 1
    → HasFound ((before ++ near_from 1 passed.done) ++ near_at (old.ended + 1) (near_place (strip_carriage_return old.front.items))) new
    → HasPassed before (text ++ 10 ∷ []) new
passed-line before text old new passed empty next found =
    let line = strip_carriage_return passed.front in
    let place : near_place (strip_carriage_return old.front.items) ≡ near_place line =
    ap (λ kept. near_place (strip_carriage_return kept)) passed.kept ∙ near_place-strip passed.front in
    let found_so = subst (λ place. HasFound ((before ++ near_from 1 passed.done) ++ near_at (old.ended + 1) place) new) place found in
    record {
      done = passed.done ++ line ∷ [];
      front = [];
      cut = λ more.
          ap lines (append_assoc text (10 ∷ []) more) ∙ passed.cut (10 ∷ more)
          ∙ ap (λ rest. passed.done ++ rest) (lines-newline passed.front more passed.unended)
          ∙ sym (append_assoc passed.done (line ∷ []) (lines more));
      unended = All-nil (λ byte. is_newline byte ≡ false);
      fits = omega (arith, passed.fits, length-append passed.done (line ∷ []), length-append text (10 ∷ []));
      kept = empty;
      ended = next ∙ ap (λ n. n + 1) passed.ended ∙ sym (length-append passed.done (line ∷ []));
      found = found-line before passed.done line (old.ended + 1) new (ap (λ n. n + 1) passed.ended) found_so;
    }

-- the lines of a text are those that have ended and what stands behind them, if that is not empty
near_lines-rest : (done : List (List ℕ)) (front text : List ℕ) (n : ℕ) → IsUnended front → lines (text ++ []) ≡ done ++ lines (front ++ [])
    → n ≡ length done + 1 → near_lines text ≡ near_from 1 done ++ near_at n (near_place front)
near_lines-rest done [] text n unended cut number =
    ap (λ all. near_lines all) (sym (append-nil text)) ∙ ap (near_from 1) (cut ∙ append-nil done)
    ∙ sym (append-nil (near_from 1 done)) ∙ ap (λ place. near_from 1 done ++ near_at n place) (sym near_place-nil)
near_lines-rest done (byte ∷ front) text n unended cut number =
    let line = byte ∷ front in
    let next : 1 + length done ≡ n = omega arith in
    let last : lines (line ++ []) ≡ line ∷ [] = ap lines (append-nil line) ∙ lines-last line (omega arith) unended in
    ap (λ all. near_lines all) (sym (append-nil text)) ∙ ap (near_from 1) (cut ∙ ap (λ rest. done ++ rest) last)
    ∙ near_from-push 1 done line ∙ ap (λ m. near_from 1 done ++ near_at m (near_place line)) next

-- what was found when a text has ended, and with it its last line
pub found-end : (before : List NearLine) (text : List ℕ) (place : Option ℕ) (old new : NearScan) → IsShort before text → HasPassed before text old
    → place ≡ near_place old.front.items
    → ((all : List NearLine) → old.ended + 1 < 2 ^ 64 → length all + 1 < 2 ^ 64 → HasFound all old → HasFound (all ++ near_at (old.ended + 1) place) new)
    → HasFound (before ++ near_lines text) new
found-end before text place old new short passed is found =
    let all = before ++ near_from 1 passed.done in
    let few = found-few before text old passed short in
    let at = near_at (old.ended + 1) in
    let here : place ≡ near_place passed.front = is ∙ ap near_place passed.kept ∙ near_place-take passed.front in
    let same : all ++ at place ≡ before ++ near_lines text =
    append_assoc before (near_from 1 passed.done) (at place)
    ∙ ap (λ more. before ++ more) (
    ap (λ place. near_from 1 passed.done ++ at place) here
    ∙ sym (near_lines-rest passed.done passed.front text (old.ended + 1) passed.unended (passed.cut []) (ap (λ n. n + 1) passed.ended))
    ) in
    subst (λ lines. HasFound lines new) same (found all few.0 few.1 passed.found)

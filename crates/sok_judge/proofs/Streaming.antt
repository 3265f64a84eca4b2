-- A certificate that is judged as it is read from a reader.
use Rattle.std.proofs.Common.{ℕ, ◌≡◌, ◌+◌, ◌<◌, ◌≤◌, ◌∙◌, List, [], ◌++◌, Option, Some, None, IfSome, length, length-append, arith, ap, refl, sym, subst}
use Rattle.std.specs.Io.KnownBytes.{Consumes, IsAtEnd}
use Rattle.std.proofs.lemmas.List.{append-nil}
use Rattle.std.proofs.KnownBytes.{Consumes-nil, Consumes-trans}
use Rattle.sok_board.specs.Area.{BoardView}
use Rattle.sok_cert.specs.Streams.{StandsFor, Streamed}
use Rattle.sok_judge.specs.Streams.{IsStreamOf}

-- the stream stands for the bytes that were read, which are so many
pub record ReadSo (old now : Option (List ℕ)) (b : BoardView) (s : Streamed) (total : ℕ) : Type 0 where
  pub text : List ℕ
  pub consumed : Consumes old now text
  pub count : total ≡ length text
  pub board : s.board ≡ b
  pub stands : StandsFor s.board text s.progress

pub ReadSo-start : (known : Option (List ℕ)) (b : BoardView) (s : Streamed) → s.board ≡ b → StandsFor b [] s.progress → ReadSo known known b s 0
ReadSo-start known b s board stands = record {
  text = [];
  consumed = Consumes-nil known;
  count = refl;
  board = board;
  stands = subst (λ x. StandsFor x [] s.progress) (sym board) stands;
}

pub ReadSo-more : (old now next : Option (List ℕ)) (b : BoardView) (s t : Streamed) (total count : ℕ) (part : List ℕ) → ReadSo old now b s total
    → Consumes now next part → length part ≡ count → t.board ≡ s.board
    → ((text : List ℕ) → StandsFor s.board text s.progress → StandsFor s.board (text ++ part) t.progress)
    → ReadSo old next b t (total + count)
ReadSo-more old now next b s t total count part so consumed size board takes = record {
  text = so.text ++ part;
  consumed = Consumes-trans old now next so.text part so.consumed consumed;
  count = let before = so.count in omega (arith, length-append so.text part);
  board = board ∙ so.board;
  stands = subst (λ x. StandsFor x (so.text ++ part) t.progress) (sym board) (takes so.text so.stands);
}

-- more was read than is allowed
longer : (old now : Option (List ℕ)) (limit : ℕ) (text : List ℕ) → Consumes old now text → limit < length text → IfSome old (λ input. limit < length input)
longer None now limit text consumed many = tt
longer (Some bytes) None limit text consumed many = absurd consumed
longer (Some bytes) (Some rest) limit text consumed many = omega (arith, ap length consumed, length-append text rest)

pub ReadSo-much : (old now : Option (List ℕ)) (limit : ℕ) (b : BoardView) (s : Streamed) (total : ℕ) → ReadSo old now b s total → limit < total
    → IfSome old (λ input. limit < length input)
ReadSo-much old now limit b s total so many = longer old now limit so.text so.consumed (let count = so.count in omega arith)

-- where no known byte is left, all of them were read
whole : (old now : Option (List ℕ)) (text : List ℕ) → Consumes old now text → IsAtEnd now → IfSome old (λ input. text ≡ input)
whole None now text consumed none = tt
whole (Some bytes) None text consumed none = absurd consumed
whole (Some bytes) (Some rest) text consumed none = sym (consumed ∙ ap (λ more. text ++ more) none ∙ append-nil text)

pub ReadSo-end : (old now next : Option (List ℕ)) (limit : ℕ) (b : BoardView) (s : Streamed) (total : ℕ) → ReadSo old now b s total → Consumes now next []
    → IsAtEnd next → total ≤ limit → IsStreamOf old limit b s
ReadSo-end old now next limit b s total so nothing none few = record {
  text = so.text;
  all = whole old next so.text (subst (Consumes old next) (append-nil so.text) (Consumes-trans old now next so.text [] so.consumed nothing)) none;
  few = let count = so.count in omega arith;
  board = so.board;
  stands = so.stands;
}

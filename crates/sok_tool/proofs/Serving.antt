-- What is answered to a job is what serves its form.
use Rattle.std.proofs.Common.{ℕ, ℤ, ◌≡◌, ◌≢◌, ◌∙◌, codes, inl, inr, Bool, FitsSigned, Global, IfSome, String, List, Option, Some, None, Result, Err, option_map, refl}
use Rattle.std.proofs.Common.{◌≤◌, ◌∷◌, ap, arith, length, map, pos, string_bytes, subst, subst₂, sym, w64}
use Rattle.std.proofs.lemmas.List.{length-map}
use Rattle.std.proofs.lemmas.Option.{none-some}
use Rattle.std.specs.Str.Parse.{digits_value}
use Rattle.sok_engine.specs.declared.fault.ToolFault.{ToolFault}
use Rattle.sok_engine.specs.declared.fault.ToolFault.TheVariants as tool
use Rattle.sok_engine.specs.Certified.{Bytes, Stays}
use Rattle.sok_engine.specs.Written.{Answers}
use Rattle.sok_play.specs.Drawings.{IsDrawing}
use Rattle.sok_play.specs.Plays.{IsReplay}
use Rattle.sok_keep.specs.Shows.{IsBookText, IsShow}
use Rattle.sok_keep.proofs.Ids.{fits, of_passed, passed}
use Rattle.sok_book.specs.declared.text.BookText.TheVariants as texts
use Rattle.sok_words.specs.declared.job.Job.TheVariants as job
use Rattle.sok_words.specs.Forms.{Form, IsId, IsPlain, Means, add, check, draw, export, from_of, id_value, limit_of, list, offer, offers, prove, replay, settle, show, solve, to_of, words_of}
use Rattle.sok_files.specs.Endings.{Ends}
use Rattle.sok_files.specs.Files.{Files}
use Rattle.sok_files.specs.Solving.{SolvesLevel}
use Rattle.sok_tool.specs.Commands.{EndsWith, RunsAdd, RunsCheck, RunsOffer, RunsOffers, RunsPlay, RunsProve, RunsSettle, RunsShowing, Serves}
use Rattle.sok_tool.specs.Databases.{Databases, refused, unread}
use Rattle.sok_tool.specs.Letters.{OnLetters}
use Rattle.sok_tool.proofs.Plain.{on_word}

-- a form has a word after the program's name
asks : (form : Form) → 1 ≤ length (words_of form)
asks (list file) = omega arith
asks _ = omega arith

-- so without further words none is asked for
pub too_few : (words : List (String Global)) (program : List ℕ) (form : Form) → length words ≤ 1
    → map (λ word. string_bytes word) words ≡ program ∷ words_of form → ⊥
too_few words program form few is = omega (arith, asks form, simp length-map at (ap (λ l. length l) is))

-- ---- what is answered to values is answered to those that are the same

same_three : {A B C : Type 0} (P : A → B → C → Type 0) (a a' : A) (b b' : B) (c c' : C) → a ≡ a' → b ≡ b' → c ≡ c' → P a b c → P a' b' c'
same_three P a a' b b' c c' same_a same_b same_c holds = subst (λ z. P a' b' z) same_c (subst₂ (λ x y. P x y c) same_a same_b holds)

-- an id below 2 ^ 63 fits
plain_id : (id : ℤ) (number : List ℕ) → IsId number → id ≡ id_value number → FitsSigned w64 id
plain_id id number plain is = subst (λ i. FitsSigned w64 i) (sym is) (fits (id_value number) plain.1)

-- and so do the first one and the last
plain_from : (id : ℤ) (from : Option (List ℕ)) → IfSome from IsId → id ≡ from_of from → FitsSigned w64 id
plain_from id None plain is = subst (λ i. FitsSigned w64 i) (sym is) (fits (pos 1) (omega arith))
plain_from id (Some number) plain is = plain_id id number plain is

plain_to : (id : ℤ) (to : Option (List ℕ)) → IfSome to IsId → id ≡ to_of to → FitsSigned w64 id
plain_to id None plain is = subst (λ i. FitsSigned w64 i) (sym is) (fits (pos 9223372036854775807) (omega arith))
plain_to id (Some number) plain is = plain_id id number plain is

module _ (files : Files Bytes) (databases : Databases) (out err : Bytes) (exit : ℕ) where
  -- where memory was refused, nothing is written
  pub Serves-memory : (form : Form) → Ends (Err tool.Memory) err.old err.new exit → Stays out → Serves files databases form out err exit
  Serves-memory (list file) ends kept = (Err tool.Memory, kept, ends)
  Serves-memory (replay file number text) ends kept = (Err tool.Memory, kept, ends)
  Serves-memory (draw file number text) ends kept = (Err tool.Memory, kept, ends)
  Serves-memory (check file number cert) ends kept = (Err tool.Memory, kept, ends)
  Serves-memory (solve file number below limit bound None) ends kept = (Err tool.Memory, kept, ends)
  Serves-memory (solve file number below limit bound (Some cert)) ends kept = (Err tool.Memory, inl (inl refl, kept), ends)
  Serves-memory (show db (Some id)) ends kept = (Err tool.Memory, refused tool.Memory (unread refl) refl kept, ends)
  Serves-memory (show db None) ends kept = (Err tool.Memory, refused tool.Memory (unread refl) refl kept, ends)
  Serves-memory _ ends kept = (Err tool.Memory, refused tool.Memory (unread refl) refl kept, ends)

  -- a form is served where its word is no hyphen alone and what is done on the word itself serves it
  pub word_serves : (form : Form) (word : List ℕ) (known : Option (List ℕ)) (Does : List ℕ → Type 0) (result : Result ℕ ToolFault) → word ≢ codes "-"
      → OnLetters word known Does out result → Ends result err.old err.new exit → (Does word → Serves files databases form out err exit)
      → Serves files databases form out err exit
  word_serves form word known Does result other on ends serves = elim (on_word word known Does out result other on) [
    | inl (is, stays) ↦ Serves-memory form (subst (λ r. Ends r err.old err.new exit) is ends) stays
    | inr does ↦ serves does
  ]

  module _ (file : String Global) (name : List ℕ) (named : name ≡ string_bytes file) where
    -- a job of solving serves its form
    pub Serves-solve : (form : Form) (n : ℕ) (best : Option ℕ) (most : ℕ) (bounds : Bool) (path : Option (String Global))
        → Means form (job.Solve file n best most bounds path)
        → EndsWith (SolvesLevel name (files.reads name) files.makes (record { n = n; below = best; limit = most; bound = bounds })
        (option_map (λ s. string_bytes s) path) out) err exit
        → Serves files databases form out err exit
    Serves-solve (solve of number below limit bound cert) n best most bounds path (file_is, number_is, best_is, limit_is, bound_is, path_is) runs =
        same_three (λ k b p. EndsWith (SolvesLevel of (files.reads of) files.makes
        (record { n = digits_value 10 number; below = k; limit = limit_of limit; bound = b }) p out) err exit)
        _ _ _ _ _ _ best_is bound_is path_is
        (same_three (λ f k m. EndsWith (SolvesLevel f (files.reads f) files.makes (record { n = k; below = best; limit = m; bound = bounds })
        (option_map (λ s. string_bytes s) path) out) err exit)
        _ _ _ _ _ _ (named ∙ file_is) number_is limit_is runs)
    Serves-solve _ n best most bounds path means runs = absurd means

    -- and so does one on a text, or on a file that it names
    module _ (n : ℕ) (text : String Global) (letters : List ℕ) (spelt : letters ≡ string_bytes text) where
      -- a text is played
      Plays : (ℕ → List ℕ → List ℕ → Answers) → List ℕ → ℕ → List ℕ → Type 0
      Plays P f k t = EndsWith (λ result. RunsPlay P (files.reads f) k out result t) err exit

      pub Serves-replay : (form : Form) → Means form (job.Replay file n text) → EndsWith (λ result. RunsPlay IsReplay (files.reads name) n out result letters) err exit
          → Serves files databases form out err exit
      unfolding Plays
      Serves-replay (replay of number spelled) (file_is, number_is, text_is) =
          same_three (Plays IsReplay) _ _ _ _ _ _ (named ∙ file_is) number_is (spelt ∙ text_is)
      Serves-replay _ means = absurd means

      pub Serves-draw : (form : Form) → Means form (job.Draw file n text) → EndsWith (λ result. RunsPlay IsDrawing (files.reads name) n out result letters) err exit
          → Serves files databases form out err exit
      unfolding Plays
      Serves-draw (draw of number spelled) (file_is, number_is, text_is) =
          same_three (Plays IsDrawing) _ _ _ _ _ _ (named ∙ file_is) number_is (spelt ∙ text_is)
      Serves-draw _ means = absurd means

      pub Serves-check : (form : Form) → Means form (job.Check file n text) → EndsWith (RunsCheck files name n letters out) err exit
          → Serves files databases form out err exit
      Serves-check (check of number place) (file_is, number_is, cert_is) =
          same_three (λ f k p. EndsWith (RunsCheck files f k p out) err exit) _ _ _ _ _ _ (named ∙ file_is) number_is (spelt ∙ cert_is)
      Serves-check _ means = absurd means

  -- ---- on a book

  module _ (db : String Global) (db_name : List ℕ) (db_named : db_name ≡ string_bytes db) where
    -- and so does one on a book and a text, or a file that it names
    module _ (file : String Global) (name : List ℕ) (named : name ≡ string_bytes file) where
      pub Serves-add : (form : Form) → Means form (job.Add db file) → EndsWith (RunsAdd files databases db_name name out) err exit
          → Serves files databases form out err exit
      Serves-add (add of place) (db_is, file_is) =
          subst₂ (λ d f. EndsWith (RunsAdd files databases d f out) err exit) (db_named ∙ db_is) (named ∙ file_is)
      Serves-add _ means = absurd means

      pub Serves-offers : (form : Form) → Means form (job.Offers db file) → EndsWith (RunsOffers files databases db_name name out) err exit
          → Serves files databases form out err exit
      Serves-offers (offers of place) (db_is, file_is) =
          subst₂ (λ d f. EndsWith (RunsOffers files databases d f out) err exit) (db_named ∙ db_is) (named ∙ file_is)
      Serves-offers _ means = absurd means

      pub Serves-offer : (form : Form) (id : ℤ) → IsPlain form → Means form (job.Offer db id file)
          → EndsWith (λ result. RunsOffer databases db_name (passed id) out result name) err exit → Serves files databases form out err exit
      Serves-offer (offer of number spelled) id plain (db_is, id_is, text_is) runs =
          same_three (λ d i t. EndsWith (λ result. RunsOffer databases d i out result t) err exit) _ _ _ _ _ _ (db_named ∙ db_is) id_is (named ∙ text_is)
          (of_passed (λ i. EndsWith (λ result. RunsOffer databases db_name i out result name) err exit) id (plain_id id number plain.1 id_is) runs)
      Serves-offer _ id plain means runs = absurd means

      pub Serves-prove : (form : Form) (id : ℤ) → IsPlain form → Means form (job.Prove db id file)
          → EndsWith (RunsProve files databases db_name (passed id) name out) err exit → Serves files databases form out err exit
      Serves-prove (prove of number place) id plain (db_is, id_is, cert_is) runs =
          same_three (λ d i f. EndsWith (RunsProve files databases d i f out) err exit) _ _ _ _ _ _ (db_named ∙ db_is) id_is (named ∙ cert_is)
          (of_passed (λ i. EndsWith (RunsProve files databases db_name i name out) err exit) id (plain_id id number plain.1 id_is) runs)
      Serves-prove _ id plain means runs = absurd means

    pub Serves-settle : (form : Form) (most : ℕ) (first last : ℤ) (folder : Option (String Global)) → IsPlain form
        → Means form (job.Settle db most first last folder)
        → EndsWith (RunsSettle files databases db_name most (record { first = passed first; last = passed last }) (option_map (λ s. string_bytes s) folder) out) err exit
        → Serves files databases form out err exit
    Serves-settle (settle of limit from to certs) most first last folder plain (db_is, limit_is, from_is, to_is, certs_is) runs =
        let span : record { first = first; last = last } ≡ record { first = from_of from; last = to_of to } = λ i. record { first = from_is i; last = to_is i } in
        subst (λ f. EndsWith (RunsSettle files databases of (limit_of limit) (record { first = from_of from; last = to_of to }) f out) err exit) certs_is
        (same_three (λ d l s. EndsWith (RunsSettle files databases d l s (option_map (λ s. string_bytes s) folder) out) err exit) _ _ _ _ _ _
        (db_named ∙ db_is) limit_is span
        (of_passed (λ i. EndsWith (RunsSettle files databases db_name most (record { first = i; last = last }) (option_map (λ s. string_bytes s) folder) out) err exit)
        first (plain_from first from plain.2 from_is)
        (of_passed (λ j. EndsWith (RunsSettle files databases db_name most (record { first = passed first; last = j }) (option_map (λ s. string_bytes s) folder) out) err exit)
        last (plain_to last to plain.3 to_is) runs)))
    Serves-settle _ most first last folder plain means runs = absurd means

    pub Serves-show : (form : Form) (id : ℤ) → IsPlain form → Means form (job.Show db (Some id))
        → EndsWith (RunsShowing databases db_name (λ book. IsShow book (passed id)) out) err exit → Serves files databases form out err exit
    Serves-show (show of (Some number)) id plain (db_is, is) runs =
        let id_is : id ≡ id_value number = cc in
        subst₂ (λ d i. EndsWith (RunsShowing databases d (λ book. IsShow book i) out) err exit) (db_named ∙ db_is) id_is
        (of_passed (λ i. EndsWith (RunsShowing databases db_name (λ book. IsShow book i) out) err exit) id (plain_id id number plain.1 id_is) runs)
    Serves-show (show of None) id plain (db_is, is) runs = absurd (none-some id (sym is))
    Serves-show _ id plain means runs = absurd means

    pub Serves-overview : (form : Form) → Means form (job.Show db None) → EndsWith (RunsShowing databases db_name (IsBookText texts.Overview) out) err exit
        → Serves files databases form out err exit
    Serves-overview (show of None) (db_is, is) = subst (λ d. EndsWith (RunsShowing databases d (IsBookText texts.Overview) out) err exit) (db_named ∙ db_is)
    Serves-overview (show of (Some number)) (db_is, is) = absurd (none-some (id_value number) is)
    Serves-overview _ means = absurd means

    pub Serves-export : (form : Form) (solutions : Bool) → Means form (job.Export db solutions)
        → EndsWith (RunsShowing databases db_name (IsBookText (texts.Export solutions)) out) err exit → Serves files databases form out err exit
    Serves-export (export of asked) solutions (db_is, asked_is) =
        subst₂ (λ d s. EndsWith (RunsShowing databases d (IsBookText (texts.Export s)) out) err exit) (db_named ∙ db_is) asked_is
    Serves-export _ solutions means = absurd means

-- What the command makes of a form.
use Rattle.std.proofs.Common.{◌≡◌, ◌∙◌, ◌++◌, IfSome, get_or, sym, true≢false, Bool, false, true, refl, ap, List, [], ◌∷◌, map, Option, Some, None, codes, lit<}
use Rattle.std.proofs.Common.{Result, Ok, Err, IsErrAnd, Global, String, option_map, string_bytes, unwrap_or}
use Rattle.std.specs.Str.{bytes_eq}
use Rattle.clap.specs.Walk.{Row, Text, walked}
use Rattle.clap.specs.Simple.{subcommand_of}
use Rattle.clap.specs.Takes.{takes}
use Rattle.sok_words.specs.Forms.{Answers, Form, IsId, IsNumber, IsPlain, IsPushes, IsValue, flag_words, list, replay, draw, solve, check, add, offer, offers, prove, settle, show, export, words_of}
use Rattle.sok_words.specs.Rows.{HasValues}
use Rattle.sok_words.specs.Shapes.{sok_app}
use Rattle.sok_words.specs.declared.job.Job.{Job}
use Rattle.sok_words.specs.declared.job.JobRefused.{JobRefused}
use Rattle.sok_words.proofs.WordSteps.{Said, all_met, all_pass, asked_of, named, number_is_value, value, word_of}
use Rattle.sok_words.proofs.Lines.{IsSub, id_passes, number_passes, pushes_pass, rows_said, runs, takes_said}

-- the command takes the words, and gives the values of the form
pub record Reads (program : Text) (form : Form) : Type 0 where
  pub takes : takes sok_app (program ∷ words_of form) ≡ true
  pub name : Text
  pub rows : List Row
  pub enters : subcommand_of sok_app (program ∷ words_of form) ≡ Some (name, rows)
  pub values : HasValues form name rows

-- ---- what is said in a form

abbrev text : (word : Text) → IsValue word → Said
text word is = value word is true refl

abbrev number : (word : Text) → IsNumber word → Said
number word n = value word (number_is_value word n.0) _ (number_passes word n)

abbrev pushes : (word : Text) → IsPushes word → Said
pushes word n = value word (number_is_value word n.0) _ (pushes_pass word n)

abbrev id : (word : Text) → IsId word → Said
id word n = value word (number_is_value word n.0) _ (id_passes word n)

abbrev option : Text → List Said
option name = named false name ∷ []

abbrev flag : Text → Bool → List Said
flag name is_given = map (named true) (flag_words name is_given)

-- a text that may be left out, behind the name of its option
abbrev given : {Has : Text → Type 0} → List Said → ((word : Text) → Has word → Said) → (word : Option Text) → IfSome word Has → List Said
given name say None has = []
given name say (Some word) has = name ++ say word has ∷ []

-- in the order of its words
abbrev said_of : (form : Form) → IsPlain form → List Said
said_of (list file) f = text file f ∷ []
said_of (replay file digits letters) (f, n, t) = text file f ∷ number digits n ∷ text letters t ∷ []
said_of (draw file digits letters) (f, n, t) = text file f ∷ number digits n ∷ given [] text letters t
said_of (solve file digits below limit bound cert) (f, n, k, l, c) = text file f ∷ number digits n
    ∷ (given (option (codes "--below")) pushes below k ++ given (option (codes "--limit")) number limit l ++ flag (codes "--bound") bound
    ++ given (option (codes "--cert")) text cert c)
said_of (check file digits cert) (f, n, c) = text file f ∷ number digits n ∷ text cert c ∷ []
said_of (add db file) (d, f) = text db d ∷ text file f ∷ []
said_of (offer db digits letters) (d, i, t) = text db d ∷ id digits i ∷ text letters t ∷ []
said_of (offers db file) (d, f) = text db d ∷ text file f ∷ []
said_of (prove db digits cert) (d, i, c) = text db d ∷ id digits i ∷ text cert c ∷ []
said_of (settle db limit from to certs) (d, l, i, j, c) = text db d
    ∷ (given (option (codes "--limit")) number limit l ++ given (option (codes "--from")) id from i ++ given (option (codes "--to")) id to j
    ++ given (option (codes "--certs")) text certs c)
said_of (show db digits) (d, i) = text db d ∷ given [] id digits i
said_of (export db solutions) d = text db d ∷ flag (codes "--solutions") solutions

abbrev name_of : Form → Text
name_of form = get_or (words_of form) 0 []

-- the words of the form are its name and what is said, of which the command asks no more than is asked of the values, and these are found
abbrev Finds : (form : Form) → IsPlain form → Type 0
Finds form plain = let name = name_of form in let said = said_of form plain in
    (words_of form ≡ name ∷ map word_of said) × IsSub name (map word_of said) × (takes_said name said ≡ asked_of said true)
    × HasValues form name (rows_said name said)

-- what stands for an option that is left out
default_limit : IsNumber (codes "100000")
default_limit = ((lit< tt, (lit< tt, (lit< tt, (lit< tt, (lit< tt, (lit< tt, (lit< tt, tt))))))), lit< tt)

default_from : IsId (codes "1")
default_from = ((lit< tt, (lit< tt, tt)), lit< tt)

finds : (form : Form) (plain : IsPlain form) → Finds form plain
unfolding walked all_pass
finds (list file) f = (refl, refl, refl, (refl, refl))
finds (replay file digits letters) (f, n, t) = (refl, refl, refl, (refl, refl, (n, refl, refl), refl))
finds (draw file digits None) (f, n, t) = (refl, refl, refl, (refl, refl, (n, refl, refl), refl))
finds (draw file digits (Some letters)) (f, n, t) = (refl, refl, refl, (refl, refl, (n, refl, refl), refl))
finds (solve file digits None None false None) (f, n, k, l, c) = (refl, refl, refl, (refl, refl, (n, refl, refl), (k, refl), (default_limit, refl, refl), refl, refl))
finds (solve file digits (Some below) None false None) (f, n, k, l, c) = (refl, refl, refl, (refl, refl, (n, refl, refl), (k, refl), (default_limit, refl, refl), refl, refl))
finds (solve file digits None None false (Some cert)) (f, n, k, l, c) = (refl, refl, refl, (refl, refl, (n, refl, refl), (k, refl), (default_limit, refl, refl), refl, refl))
finds (solve file digits (Some below) None false (Some cert)) (f, n, k, l, c) = (refl, refl, refl, (refl, refl, (n, refl, refl), (k, refl), (default_limit, refl, refl), refl, refl))
finds (solve file digits None None true None) (f, n, k, l, c) = (refl, refl, refl, (refl, refl, (n, refl, refl), (k, refl), (default_limit, refl, refl), refl, refl))
finds (solve file digits (Some below) None true None) (f, n, k, l, c) = (refl, refl, refl, (refl, refl, (n, refl, refl), (k, refl), (default_limit, refl, refl), refl, refl))
finds (solve file digits None None true (Some cert)) (f, n, k, l, c) = (refl, refl, refl, (refl, refl, (n, refl, refl), (k, refl), (default_limit, refl, refl), refl, refl))
finds (solve file digits (Some below) None true (Some cert)) (f, n, k, l, c) = (refl, refl, refl, (refl, refl, (n, refl, refl), (k, refl), (default_limit, refl, refl), refl, refl))
finds (solve file digits None (Some limit) false None) (f, n, k, l, c) = (refl, refl, refl, (refl, refl, (n, refl, refl), (k, refl), (l, refl, refl), refl, refl))
finds (solve file digits (Some below) (Some limit) false None) (f, n, k, l, c) = (refl, refl, refl, (refl, refl, (n, refl, refl), (k, refl), (l, refl, refl), refl, refl))
finds (solve file digits None (Some limit) false (Some cert)) (f, n, k, l, c) = (refl, refl, refl, (refl, refl, (n, refl, refl), (k, refl), (l, refl, refl), refl, refl))
finds (solve file digits (Some below) (Some limit) false (Some cert)) (f, n, k, l, c) = (refl, refl, refl, (refl, refl, (n, refl, refl), (k, refl), (l, refl, refl), refl, refl))
finds (solve file digits None (Some limit) true None) (f, n, k, l, c) = (refl, refl, refl, (refl, refl, (n, refl, refl), (k, refl), (l, refl, refl), refl, refl))
finds (solve file digits (Some below) (Some limit) true None) (f, n, k, l, c) = (refl, refl, refl, (refl, refl, (n, refl, refl), (k, refl), (l, refl, refl), refl, refl))
finds (solve file digits None (Some limit) true (Some cert)) (f, n, k, l, c) = (refl, refl, refl, (refl, refl, (n, refl, refl), (k, refl), (l, refl, refl), refl, refl))
finds (solve file digits (Some below) (Some limit) true (Some cert)) (f, n, k, l, c) = (refl, refl, refl, (refl, refl, (n, refl, refl), (k, refl), (l, refl, refl), refl, refl))
finds (check file digits cert) (f, n, c) = (refl, refl, refl, (refl, refl, (n, refl, refl), refl))
finds (add db file) (d, f) = (refl, refl, refl, (refl, refl, refl))
finds (offer db digits letters) (d, i, t) = (refl, refl, refl, (refl, refl, (i, refl), refl))
finds (offers db file) (d, f) = (refl, refl, refl, (refl, refl, refl))
finds (prove db digits cert) (d, i, c) = (refl, refl, refl, (refl, refl, (i, refl), refl))
finds (settle db None None None None) (d, l, i, j, c) = (refl, refl, refl, (refl, refl, (default_limit, refl, refl), (default_from, refl), (j, refl), refl))
finds (settle db None None (Some to) None) (d, l, i, j, c) = (refl, refl, refl, (refl, refl, (default_limit, refl, refl), (default_from, refl), (j, refl), refl))
finds (settle db None None None (Some certs)) (d, l, i, j, c) = (refl, refl, refl, (refl, refl, (default_limit, refl, refl), (default_from, refl), (j, refl), refl))
finds (settle db None None (Some to) (Some certs)) (d, l, i, j, c) = (refl, refl, refl, (refl, refl, (default_limit, refl, refl), (default_from, refl), (j, refl), refl))
finds (settle db None (Some from) None None) (d, l, i, j, c) = (refl, refl, refl, (refl, refl, (default_limit, refl, refl), (i, refl), (j, refl), refl))
finds (settle db None (Some from) (Some to) None) (d, l, i, j, c) = (refl, refl, refl, (refl, refl, (default_limit, refl, refl), (i, refl), (j, refl), refl))
finds (settle db None (Some from) None (Some certs)) (d, l, i, j, c) = (refl, refl, refl, (refl, refl, (default_limit, refl, refl), (i, refl), (j, refl), refl))
finds (settle db None (Some from) (Some to) (Some certs)) (d, l, i, j, c) = (refl, refl, refl, (refl, refl, (default_limit, refl, refl), (i, refl), (j, refl), refl))
finds (settle db (Some limit) None None None) (d, l, i, j, c) = (refl, refl, refl, (refl, refl, (l, refl, refl), (default_from, refl), (j, refl), refl))
finds (settle db (Some limit) None (Some to) None) (d, l, i, j, c) = (refl, refl, refl, (refl, refl, (l, refl, refl), (default_from, refl), (j, refl), refl))
finds (settle db (Some limit) None None (Some certs)) (d, l, i, j, c) = (refl, refl, refl, (refl, refl, (l, refl, refl), (default_from, refl), (j, refl), refl))
finds (settle db (Some limit) None (Some to) (Some certs)) (d, l, i, j, c) = (refl, refl, refl, (refl, refl, (l, refl, refl), (default_from, refl), (j, refl), refl))
finds (settle db (Some limit) (Some from) None None) (d, l, i, j, c) = (refl, refl, refl, (refl, refl, (l, refl, refl), (i, refl), (j, refl), refl))
finds (settle db (Some limit) (Some from) (Some to) None) (d, l, i, j, c) = (refl, refl, refl, (refl, refl, (l, refl, refl), (i, refl), (j, refl), refl))
finds (settle db (Some limit) (Some from) None (Some certs)) (d, l, i, j, c) = (refl, refl, refl, (refl, refl, (l, refl, refl), (i, refl), (j, refl), refl))
finds (settle db (Some limit) (Some from) (Some to) (Some certs)) (d, l, i, j, c) = (refl, refl, refl, (refl, refl, (l, refl, refl), (i, refl), (j, refl), refl))
finds (show db None) (d, i) = (refl, refl, refl, (refl, refl, (i, refl)))
finds (show db (Some digits)) (d, i) = (refl, refl, refl, (refl, refl, (i, refl)))
finds (export db false) d = (refl, refl, refl, (refl, refl, refl))
finds (export db true) d = (refl, refl, refl, (refl, refl, refl))

pub reads : (program : Text) (form : Form) → IsPlain form → Reads program form
reads program form plain =
    let (is, sub, asked, values) = finds form plain in
    let said = said_of form plain in
    let runs = runs program (name_of form) said sub (asked ∙ all_met said true refl) in record {
      takes = ap (λ (words : List Text). takes sok_app (program ∷ words)) is ∙ runs.takes;
      name = name_of form;
      rows = rows_said (name_of form) said;
      enters = ap (λ (words : List Text). subcommand_of sok_app (program ∷ words)) is ∙ runs.enters;
      values = values;
    }

-- ---- a job of the values

-- no form has two names
pub another : (a b : Text) → a ≡ b → bytes_eq b a ≡ false → bytes_eq a a ≡ true → ⊥
another a b e apart same = true≢false (sym same ∙ ap (λ (w : Text). bytes_eq w a) e ∙ apart)

-- the bytes of a text, or none where it is left out
pub given_or_none : (given : Option (String Global)) (none made : String Global) (text : Option Text) → string_bytes none ≡ []
    → option_map (λ s. string_bytes s) given ≡ text → made ≡ unwrap_or given none → string_bytes made ≡ unwrap_or text []
given_or_none None none made text empty is same = ap (λ (s : String Global). string_bytes s) same ∙ empty ∙ ap (λ t. unwrap_or t []) is
given_or_none (Some s) none made text empty is same = ap (λ (s : String Global). string_bytes s) same ∙ ap (λ t. unwrap_or t []) is

-- memory was refused
pub refuses : (form : Form) (made : Result Job JobRefused) (e : JobRefused) → IsErrAnd made (λ told. told ≡ e) → e.status ≡ 6 → Answers form made
refuses form (Ok job) e none memory = absurd none
refuses form (Err told) e is memory = ap (λ (r : JobRefused). r.status) is ∙ memory

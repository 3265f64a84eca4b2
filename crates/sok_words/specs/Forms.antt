-- The command lines for which the answer of `job` is specified, and that answer.
use Rattle.std.specs.Prelude.{◌≡◌, ◌≢◌, ◌<◌, ◌≤◌, ◌^◌, ℕ, ℤ, List, [], ◌∷◌, ◌++◌, Bool, true, false, Option, Some, None, IfSome, Result, Ok, Err, codes, pos, option_map, option_to_list, string_bytes, unwrap_or, String}
use Rattle.std.specs.Global.{Global}
use Rattle.std.specs.Str.Parse.{IsNumeral, digits_value}
use Rattle.sok_words.specs.declared.job.Job.{Job}
use Rattle.sok_words.specs.declared.job.Job.TheVariants as job
use Rattle.sok_words.specs.declared.job.JobRefused.{JobRefused}

-- a word that is not empty and does not begin with a hyphen
abbrev pub IsValue : List ℕ → Type 0
IsValue [] = ⊥
IsValue (b ∷ bs) = b ∷ [] ≢ codes "-"

-- digits alone, of a number below 2^32
abbrev pub IsNumber : List ℕ → Type 0
IsNumber text = IsNumeral 10 text × (digits_value 10 text < 2 ^ 32)

-- digits alone, of a number below 2^63
abbrev pub IsId : List ℕ → Type 0
IsId text = IsNumeral 10 text × (digits_value 10 text < 2 ^ 63)

-- digits alone, of a number of pushes that a certificate can claim
abbrev pub IsPushes : List ℕ → Type 0
IsPushes text = IsNumeral 10 text × (digits_value 10 text ≤ 1000000)

-- the words in the places and options of a command line
pub data Form : Type 0 where
  list : List ℕ → Form
  replay : List ℕ → List ℕ → List ℕ → Form
  draw : List ℕ → List ℕ → Option (List ℕ) → Form
  solve : List ℕ → List ℕ → Option (List ℕ) → Option (List ℕ) → Bool → Option (List ℕ) → Form
  check : List ℕ → List ℕ → List ℕ → Form
  add : List ℕ → List ℕ → Form
  offer : List ℕ → List ℕ → List ℕ → Form
  offers : List ℕ → List ℕ → Form
  prove : List ℕ → List ℕ → List ℕ → Form
  settle : List ℕ → Option (List ℕ) → Option (List ℕ) → Option (List ℕ) → Option (List ℕ) → Form
  show : List ℕ → Option (List ℕ) → Form
  export : List ℕ → Bool → Form

abbrev pub IsPlain : Form → Type 0
IsPlain (list file) = IsValue file
IsPlain (replay file number text) = IsValue file × IsNumber number × IsValue text
IsPlain (draw file number text) = IsValue file × IsNumber number × IfSome text IsValue
IsPlain (solve file number below limit bound cert) =
    IsValue file × IsNumber number × IfSome below IsPushes × IfSome limit IsNumber × IfSome cert IsValue
IsPlain (check file number cert) = IsValue file × IsNumber number × IsValue cert
IsPlain (add db file) = IsValue db × IsValue file
IsPlain (offer db id text) = IsValue db × IsId id × IsValue text
IsPlain (offers db file) = IsValue db × IsValue file
IsPlain (prove db id cert) = IsValue db × IsId id × IsValue cert
IsPlain (settle db limit from to certs) = IsValue db × IfSome limit IsNumber × IfSome from IsId × IfSome to IsId × IfSome certs IsValue
IsPlain (show db id) = IsValue db × IfSome id IsId
IsPlain (export db solutions) = IsValue db

-- an option and its value, if it is given
abbrev pub option_words : List ℕ → Option (List ℕ) → List (List ℕ)
option_words name None = []
option_words name (Some value) = name ∷ value ∷ []

-- a flag, if it is given
abbrev pub flag_words : List ℕ → Bool → List (List ℕ)
flag_words name true = name ∷ []
flag_words name false = []

-- the words after the program's name
abbrev pub words_of : Form → List (List ℕ)
words_of (list file) = codes "list" ∷ file ∷ []
words_of (replay file number text) = codes "replay" ∷ file ∷ number ∷ text ∷ []
words_of (draw file number text) = codes "draw" ∷ file ∷ number ∷ option_to_list text
words_of (solve file number below limit bound cert) = codes "solve" ∷ file ∷ number
    ∷ (option_words (codes "--below") below ++ option_words (codes "--limit") limit ++ flag_words (codes "--bound") bound ++ option_words (codes "--cert") cert)
words_of (check file number cert) = codes "check" ∷ file ∷ number ∷ cert ∷ []
words_of (add db file) = codes "add" ∷ db ∷ file ∷ []
words_of (offer db id text) = codes "offer" ∷ db ∷ id ∷ text ∷ []
words_of (offers db file) = codes "offers" ∷ db ∷ file ∷ []
words_of (prove db id cert) = codes "prove" ∷ db ∷ id ∷ cert ∷ []
words_of (settle db limit from to certs) = codes "settle" ∷ db
    ∷ (option_words (codes "--limit") limit ++ option_words (codes "--from") from ++ option_words (codes "--to") to ++ option_words (codes "--certs") certs)
words_of (show db id) = codes "show" ∷ db ∷ option_to_list id
words_of (export db solutions) = codes "export" ∷ db ∷ flag_words (codes "--solutions") solutions

abbrev pub limit_of : Option (List ℕ) → ℕ
limit_of None = 100000
limit_of (Some text) = digits_value 10 text

-- the id that digits spell
abbrev pub id_value : List ℕ → ℤ
id_value text = pos (digits_value 10 text)

-- the first id of a span, or 1 if none is given
abbrev pub from_of : Option (List ℕ) → ℤ
from_of None = pos 1
from_of (Some text) = id_value text

-- the last id of a span, or the highest if none is given
abbrev pub to_of : Option (List ℕ) → ℤ
to_of None = pos 9223372036854775807
to_of (Some text) = id_value text

-- The job has the values of the form. Letters that are left out are an empty text, and an id that is left out is none.
abbrev pub Means : Form → Job → Type 0
Means (list file) (job.List a) = (string_bytes a ≡ file)
Means (replay file number text) (job.Replay a b c) = (string_bytes a ≡ file) × (b ≡ digits_value 10 number) × (string_bytes c ≡ text)
Means (draw file number text) (job.Draw a b c) =
    (string_bytes a ≡ file) × (b ≡ digits_value 10 number) × (string_bytes c ≡ unwrap_or text [])
Means (solve file number below limit bound cert) (job.Solve a n best most bounds path) =
    (string_bytes a ≡ file) × (n ≡ digits_value 10 number) × (best ≡ option_map (λ d. digits_value 10 d) below) × (most ≡ limit_of limit) × (bounds ≡ bound)
    × (option_map (λ s. string_bytes s) path ≡ cert)
Means (check file number cert) (job.Check a b c) = (string_bytes a ≡ file) × (b ≡ digits_value 10 number) × (string_bytes c ≡ cert)
Means (add db file) (job.Add a b) = (string_bytes a ≡ db) × (string_bytes b ≡ file)
Means (offer db id text) (job.Offer a b c) = (string_bytes a ≡ db) × (b ≡ id_value id) × (string_bytes c ≡ text)
Means (offers db file) (job.Offers a b) = (string_bytes a ≡ db) × (string_bytes b ≡ file)
Means (prove db id cert) (job.Prove a b c) = (string_bytes a ≡ db) × (b ≡ id_value id) × (string_bytes c ≡ cert)
Means (settle db limit from to certs) (job.Settle a most first last folder) =
    (string_bytes a ≡ db) × (most ≡ limit_of limit) × (first ≡ from_of from) × (last ≡ to_of to) × (option_map (λ s. string_bytes s) folder ≡ certs)
Means (show db id) (job.Show a b) = (string_bytes a ≡ db) × (b ≡ option_map id_value id)
Means (export db solutions) (job.Export a b) = (string_bytes a ≡ db) × (b ≡ solutions)
Means _ _ = ⊥

-- a word that is a hyphen alone
abbrev pub IsHyphen : String Global → Type 0
IsHyphen word = string_bytes word ≡ codes "-"

-- a certificate is to be written to the standard input, or a certificate or letters are to be read from it after the collection
abbrev pub MisusesInput : Job → Type 0
MisusesInput (job.Replay a n text) = IsHyphen a × IsHyphen text
MisusesInput (job.Draw a n text) = IsHyphen a × IsHyphen text
MisusesInput (job.Solve a n best most bounds (Some path)) = IsHyphen path
MisusesInput (job.Check a n cert) = IsHyphen a × IsHyphen cert
MisusesInput _ = ⊥

-- certificates are to be kept in a folder without a name
abbrev pub LacksFolder : Job → Type 0
LacksFolder (job.Settle a most first last (Some folder)) = (string_bytes folder ≡ [])
LacksFolder _ = ⊥

-- a job that is run
abbrev pub IsAllowed : Job → Type 0
IsAllowed job = (MisusesInput job → ⊥) × (LacksFolder job → ⊥)

-- the answer to a form: its job, or that memory was refused
abbrev pub Answers : Form → Result Job JobRefused → Type 0
Answers form (Ok made) = Means form made
Answers form (Err refused) = refused.status ≡ 6

-- The values that the parser finds in the words of a form.
use Rattle.std.specs.Prelude.{◌≡◌, ℕ, Bool, true, false, List, Option, Some, None, IfSome, codes, option_map}
use Rattle.std.specs.Str.Parse.{digits_value}
use Rattle.clap.specs.Words.{Row, Text, first_of, one_of}
use Rattle.clap.specs.Lexer.{without_minus}
use Rattle.sok_words.specs.Forms.{Form, IsId, IsNumber, IsPushes, limit_of, list, replay, draw, solve, check, add, offer, offers, prove, settle, show, export}

-- the value of the name is the digits of the number
abbrev pub HasNumber : List Row → Text → Text → ℕ → Type 0
HasNumber rows name digits number = IsNumber digits × (one_of name rows ≡ Some (without_minus digits)) × (digits_value 10 digits ≡ number)

-- the value of the name is the digits of a number of pushes, if it is given, and otherwise there is none
abbrev pub HasPushes : List Row → Text → Option Text → Type 0
HasPushes rows name digits = IfSome digits IsPushes × (one_of name rows ≡ option_map (λ d. without_minus d) digits)

-- the value of the name is the digits of an id
abbrev pub HasId : List Row → Text → Text → Type 0
HasId rows name digits = IsId digits × (one_of name rows ≡ Some digits)

-- the same if it is given, and otherwise there is none
abbrev pub HasOptionalId : List Row → Text → Option Text → Type 0
HasOptionalId rows name digits = IfSome digits IsId × (one_of name rows ≡ digits)

-- the value of a flag: whether it is given
abbrev pub flag_text : Bool → Text
flag_text true = codes "true"
flag_text false = codes "false"

abbrev pub HasFlag : List Row → Text → Bool → Type 0
HasFlag rows name flag = one_of name rows ≡ Some (flag_text flag)

abbrev pub limit_text : Option Text → Text
limit_text None = codes "100000"
limit_text (Some text) = text

abbrev pub from_text : Option Text → Text
from_text None = codes "1"
from_text (Some text) = text

abbrev pub HasValues : Form → Text → List Row → Type 0
HasValues (list file) name rows = (name ≡ codes "list") × (first_of (codes "FILE") rows ≡ Some file)
HasValues (replay file number text) name rows = (name ≡ codes "replay")
    × (first_of (codes "FILE") rows ≡ Some file)
    × HasNumber rows (codes "N") number (digits_value 10 number)
    × (first_of (codes "TEXT") rows ≡ Some text)
HasValues (draw file number text) name rows = (name ≡ codes "draw")
    × (first_of (codes "FILE") rows ≡ Some file)
    × HasNumber rows (codes "N") number (digits_value 10 number)
    × (first_of (codes "TEXT") rows ≡ text)
HasValues (solve file number below limit bound cert) name rows = (name ≡ codes "solve")
    × (first_of (codes "FILE") rows ≡ Some file)
    × HasNumber rows (codes "N") number (digits_value 10 number)
    × HasPushes rows (codes "below") below
    × HasNumber rows (codes "limit") (limit_text limit) (limit_of limit)
    × HasFlag rows (codes "bound") bound
    × (first_of (codes "cert") rows ≡ cert)
HasValues (check file number cert) name rows = (name ≡ codes "check")
    × (first_of (codes "FILE") rows ≡ Some file)
    × HasNumber rows (codes "N") number (digits_value 10 number)
    × (first_of (codes "CERT") rows ≡ Some cert)
HasValues (add db file) name rows = (name ≡ codes "add") × (first_of (codes "DB") rows ≡ Some db) × (first_of (codes "FILE") rows ≡ Some file)
HasValues (offer db id text) name rows = (name ≡ codes "offer")
    × (first_of (codes "DB") rows ≡ Some db)
    × HasId rows (codes "ID") id
    × (first_of (codes "TEXT") rows ≡ Some text)
HasValues (offers db file) name rows = (name ≡ codes "offers") × (first_of (codes "DB") rows ≡ Some db) × (first_of (codes "FILE") rows ≡ Some file)
HasValues (prove db id cert) name rows = (name ≡ codes "prove")
    × (first_of (codes "DB") rows ≡ Some db)
    × HasId rows (codes "ID") id
    × (first_of (codes "CERT") rows ≡ Some cert)
HasValues (settle db limit from to certs) name rows = (name ≡ codes "settle")
    × (first_of (codes "DB") rows ≡ Some db)
    × HasNumber rows (codes "limit") (limit_text limit) (limit_of limit)
    × HasId rows (codes "from") (from_text from)
    × HasOptionalId rows (codes "to") to
    × (first_of (codes "certs") rows ≡ certs)
HasValues (show db id) name rows = (name ≡ codes "show") × (first_of (codes "DB") rows ≡ Some db) × HasOptionalId rows (codes "ID") id
HasValues (export db solutions) name rows = (name ≡ codes "export")
    × (first_of (codes "DB") rows ≡ Some db)
    × HasFlag rows (codes "solutions") solutions

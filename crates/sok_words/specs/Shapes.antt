-- The rules that make up the program's command.
use Rattle.std.specs.Prelude.{◌≡◌, List, [], ◌∷◌, Some, true, false, codes, fold, negsuc, pos}
use Rattle.clap.specs.Words.{App, Rule, Text, app_of, new_app, new_rule, rule_of, with_rule, with_subcommand}
use Rattle.clap.specs.Simple.{on_top}
use Rattle.clap.specs.declared.builder.arg.Arg.{Arg}
use Rattle.clap.specs.declared.builder.command.Command.{Command}
use Rattle.clap.specs.declared.builder.command.Command.TheViews.{out-Command}
use Rattle.clap.specs.declared.builder.action.ArgAction.TheVariants as action
use Rattle.clap.specs.declared.builder.value_parser.ValueParser.TheVariants as vp
use Rattle.sok_words.specs.declared.place.Kind.{Kind}
use Rattle.sok_words.specs.declared.place.Kind.TheVariants as kind
use Rattle.sok_words.specs.declared.place.Place.{Place}
use Rattle.sok_words.specs.declared.subcommand.Subcommand.{Subcommand}

abbrev pub required_rule : Text → Rule
required_rule id = record (new_rule id) { required = true }

abbrev pub number_rule : Text → Rule
number_rule id = record (required_rule id) { parser = Some (vp.Signed (pos 0) (pos 4294967295)) }

abbrev pub limit_rule : Text → Rule
limit_rule name = record (new_rule name) {
  long = Some name;
  value_names = 1;
  parser = Some (vp.Signed (pos 0) (pos 4294967295));
  defaults = codes "100000" ∷ [];
}

-- a number of pushes
abbrev pub pushes_rule : Text → Rule
pushes_rule name = record (new_rule name) { long = Some name; value_names = 1; parser = Some (vp.Signed (pos 0) (pos 1000000)) }

-- the path of a file or of a folder
abbrev pub path_rule : Text → Rule
path_rule name = record (new_rule name) { long = Some name; value_names = 1 }

abbrev pub flag_rule : Text → Rule
flag_rule name = record (new_rule name) { long = Some name; action = Some action.SetTrue }

-- an id that may be left out
abbrev pub optional_id_rule : Text → Rule
optional_id_rule id = record (new_rule id) { parser = Some (vp.Signed (negsuc 9223372036854775807) (pos 9223372036854775807)) }

abbrev pub id_rule : Text → Rule
id_rule id = record (optional_id_rule id) { required = true }

-- the last id of a span
abbrev pub last_rule : Text → Rule
last_rule name = record (optional_id_rule name) { long = Some name; value_names = 1 }

-- the first id of a span
abbrev pub first_rule : Text → Rule
first_rule name = record (last_rule name) { defaults = codes "1" ∷ [] }

-- the place or option is read by the rule, and is not global
pub record Follows (rule : Rule) (arg : Arg) : Type 0 where
  pub rule_is : rule_of arg ≡ rule
  pub local : arg.global ≡ false

-- the command is that of the app, and none of its options is global
pub record Builds (app : App) (command : Command) : Type 0 where
  pub app_is : app_of command ≡ app
  pub local : (out-Command command).has_globals ≡ false

-- the rule of a place with this kind and name
abbrev pub rule_of_kind : Kind → Text → Rule
rule_of_kind kind.Text name = required_rule name
rule_of_kind kind.Optional name = new_rule name
rule_of_kind kind.Number name = number_rule name
rule_of_kind kind.Id name = id_rule name
rule_of_kind kind.OptionalId name = optional_id_rule name
rule_of_kind kind.Pushes name = pushes_rule name
rule_of_kind kind.Limit name = limit_rule name
rule_of_kind kind.First name = first_rule name
rule_of_kind kind.Last name = last_rule name
rule_of_kind kind.Flag name = flag_rule name
rule_of_kind kind.Path name = path_rule name
rule_of_kind kind.Folder name = path_rule name

abbrev pub with_place : App → Place → App
with_place app place = with_rule app (rule_of_kind place.kind place.name.now)

-- the app of a subcommand with these places
abbrev pub own_app : Text → List Place → App
own_app name places = fold with_place (new_app name) places

abbrev pub with_own : App → Subcommand → App
with_own app subcommand = with_subcommand app (own_app subcommand.name.now subcommand.places.now).top

-- the program's command without its subcommands, one of which is required; it has a version
abbrev pub sok_top : App
sok_top = on_top (λ s. record s { subcommand_required = true; has_version = true }) (new_app (codes "sok"))

abbrev pub file_rule : Rule
file_rule = required_rule (codes "FILE")

abbrev pub level_rule : Rule
level_rule = number_rule (codes "N")

abbrev pub text_rule : Rule
text_rule = required_rule (codes "TEXT")

abbrev pub letters_rule : Rule
letters_rule = new_rule (codes "TEXT")

abbrev pub cert_rule : Rule
cert_rule = required_rule (codes "CERT")

abbrev pub book_rule : Rule
book_rule = required_rule (codes "DB")

abbrev pub entry_rule : Rule
entry_rule = id_rule (codes "ID")

abbrev pub shown_rule : Rule
shown_rule = optional_id_rule (codes "ID")

-- the subcommands, each with its places and options
abbrev pub subcommand_rules : List (Text × List Rule)
subcommand_rules = (codes "list", file_rule ∷ [])
    ∷ (codes "replay", file_rule ∷ level_rule ∷ text_rule ∷ [])
    ∷ (codes "draw", file_rule ∷ level_rule ∷ letters_rule ∷ [])
    ∷ (
      codes "solve",
      file_rule ∷ level_rule ∷ pushes_rule (codes "below") ∷ limit_rule (codes "limit") ∷ flag_rule (codes "bound")
          ∷ path_rule (codes "cert") ∷ [],
    )
    ∷ (codes "check", file_rule ∷ level_rule ∷ cert_rule ∷ [])
    ∷ (codes "add", book_rule ∷ file_rule ∷ [])
    ∷ (codes "offer", book_rule ∷ entry_rule ∷ text_rule ∷ [])
    ∷ (codes "offers", book_rule ∷ file_rule ∷ [])
    ∷ (codes "prove", book_rule ∷ entry_rule ∷ cert_rule ∷ [])
    ∷ (
      codes "settle",
      book_rule ∷ limit_rule (codes "limit") ∷ first_rule (codes "from") ∷ last_rule (codes "to") ∷ path_rule (codes "certs") ∷ [],
    )
    ∷ (codes "show", book_rule ∷ shown_rule ∷ [])
    ∷ (codes "export", book_rule ∷ flag_rule (codes "solutions") ∷ [])
    ∷ []

-- the program's command
abbrev pub sok_app : App
sok_app = fold (λ app own. with_subcommand app (fold with_rule (new_app own.0) own.1).top) sok_top subcommand_rules

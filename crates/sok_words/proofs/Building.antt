-- The command of an app, with one rule or one subcommand more.
use Rattle.std.proofs.Common.{◌∙◌, ◌||◌, ◌<◌, ◌+◌, ◌≤◌, ℕ, List, ap, ap₂, get_or, length, take, take_all}
use Rattle.std.specs.List.{fold}
use Rattle.std.proofs.lemmas.List.Sums.{fold_more}
use Rattle.clap.specs.Words.{AddsArg, AddsSubcommand, App, Rule, with_rule, with_subcommand}
use Rattle.clap.specs.declared.builder.arg.Arg.{Arg}
use Rattle.clap.specs.declared.builder.command.Command.{Command}
use Rattle.sok_words.specs.Shapes.{Builds, Follows}

pub adds_rule : (app : App) (rule : Rule) (old new : Command) (arg : Arg) → Builds app old → Follows rule arg → AddsArg old arg new
    → Builds (with_rule app rule) new
adds_rule app rule old new arg builds follows adds = record {
  app_is = adds.shape follows.local ∙ ap₂ with_rule builds.app_is follows.rule_is;
  local = adds.globals ∙ ap₂ ◌||◌ builds.local follows.local;
}

pub adds_subcommand : (app own : App) (old new below : Command) → Builds app old → Builds own below → AddsSubcommand old below new
    → Builds (with_subcommand app own.top) new
adds_subcommand app own old new below builds within adds = record {
  app_is = adds.shape within.local ∙ ap₂ with_subcommand builds.app_is (ap (λ (a : App). a.top) within.app_is);
  local = adds.globals ∙ ap₂ ◌||◌ builds.local within.local;
}

-- one step of a loop that builds
pub one_more : {X : Type 0} (with : App → X → App) (app : App) (xs : List X) (i : ℕ) (d : X) (command : Command) → i < length xs
    → Builds (with (fold with app (take i xs)) (get_or xs i d)) command → Builds (fold with app (take (i + 1) xs)) command
one_more with app xs i d command inside builds = rw (fold_more with app xs i d inside) builds

pub all_of_them : {X : Type 0} (with : App → X → App) (app : App) (xs : List X) (i : ℕ) (command : Command) → length xs ≤ i
    → Builds (fold with app (take i xs)) command → Builds (fold with app xs) command
all_of_them with app xs i command past builds = rw (take_all i xs past) at builds

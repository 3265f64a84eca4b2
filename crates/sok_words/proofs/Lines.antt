-- What the command makes of the words of each form.
use Rattle.std.proofs.Common.{◌≡◌, ◌∙◌, ◌&&◌, ◌==◌, Bool, true, false, refl, sym, ap, ap₂, List, [], ◌∷◌, ◌++◌, map, Option, Some, arith, pos, negsuc, codes}
use Rattle.std.specs.List.{fold, find, list_all}
use Rattle.std.specs.Prelude.{unwrap_or, is_some}
use Rattle.std.specs.Str.{bytes_eq}
use Rattle.std.proofs.lemmas.Bool.{ne_eqb}
use Rattle.std.proofs.lemmas.Int.{ints}
use Rattle.std.proofs.lemmas.Str.Parse.{digit_from_value}
use Rattle.clap.specs.Lexer.{without_minus}
use Rattle.clap.specs.Values.{IsSignedIn}
use Rattle.clap.specs.ValueTests.{accepts}
use Rattle.clap.specs.Walk.{after_step, subcommand_met, subcommand_or_other, Held, Names, Row, Text, Walk, answers_to, finished, nothing_held}
use Rattle.clap.specs.Walk.{rows_after, walk, walk_from, walked, idle}
use Rattle.clap.specs.Simple.{App, Shape, built, entered, is_simple, label_of, names_of, new_shape, subcommand_of}
use Rattle.clap.specs.Takes.{other_passes, default_passes, entered_passes, is_valid, level_passes, settle_passes, step_passes, takes, walk_passes}
use Rattle.clap.specs.declared.builder.value_parser.ValueParser.TheVariants as vp
use Rattle.clap.proofs.ValueTestLemmas.{Accepts-accepts}
use Rattle.clap.proofs.WalkLemmas.{walk_stopped}
use Rattle.sok_words.specs.Forms.{IsId, IsNumber, IsPushes}
use Rattle.sok_words.specs.Shapes.{sok_app}
use Rattle.sok_words.proofs.WordSteps.{Said, all_pass, all_turns, led, no_minus, no_plus, word_of}

-- ---- the first word

abbrev pub made : App
made = built sok_app

-- the subcommand as built
abbrev pub sub_shape : Text → Shape
sub_shape name = unwrap_or (find (λ s. answers_to name (label_of s)) made.subs) (new_shape name)

stopped_passes : (s : Shape) (names : Names) (w : Walk) (p : Text × List Text) (words : List Text)
    → walk_passes s names (record w { stopped = Some p }) words ≡ true
unfolding walk_passes walked
stopped_passes s names w p [] = refl
stopped_passes s names w p (x ∷ xs) = stopped_passes s names w (p.0, p.1 ++ x ∷ []) xs

-- what is asked of the command itself, where its walk ends so
abbrev ends_well : Walk → Bool → Bool
ends_well w passes = entered_passes made w.stopped
    && (passes && (settle_passes made.top.rules made.top.args_override_self w.held
    && (list_all default_passes made.top.rules
    && is_valid made.top (finished made.top.rules w.held) (is_some (entered made w.stopped)))))

abbrev stopped_at : Text → List Text → Walk
stopped_at name words = record (walk_from nothing_held) { stopped = Some (name, words) }

pub simple : is_simple sok_app ≡ true
simple = refl

-- a word that names a subcommand ends the walk there
met : (name : Text) (words : List Text) → subcommand_met (names_of made) idle name ≡ Some name
    → walk made.top.rules (names_of made) nothing_held (name ∷ words) ≡ stopped_at name words
unfolding walked
met name words named =
    ap (λ o. let m = subcommand_or_other made.top.rules o idle 1 name nothing_held in
    fold (walked made.top.rules (names_of made)) (after_step made.top.rules name (walk_from nothing_held) m.0 m.1) words) named
    ∙ sym (walk_stopped made.top.rules (names_of made) (walk_from nothing_held) name [] words)

-- and passes, where it is not the word for help
passes : (name : Text) (words : List Text) → subcommand_met (names_of made) idle name ≡ Some name → bytes_eq name (codes "help") ≡ false
    → walk_passes made.top (names_of made) (walk_from nothing_held) (name ∷ words) ≡ true
unfolding walk_passes walked
passes name words named own =
    ap (λ o. let m = subcommand_or_other made.top.rules o idle 1 name nothing_held in
    (other_passes made.top o name nothing_held && step_passes made.top 1 m.0 m.1)
    && walk_passes made.top (names_of made) (after_step made.top.rules name (walk_from nothing_held) m.0 m.1) words) named
    ∙ (rw own (stopped_passes made.top (names_of made) (walk_from nothing_held) (name, []) words))

pub taken : (program name : Text) (words : List Text) → subcommand_met (names_of made) idle name ≡ Some name → bytes_eq name (codes "help") ≡ false
    → ends_well (stopped_at name words) true ≡ true → takes sok_app (program ∷ name ∷ words) ≡ true
taken program name words named own below = ap₂ (λ w p. ends_well w p) (met name words named) (passes name words named own) ∙ below

pub entered_at : (program name : Text) (words : List Text) → subcommand_met (names_of made) idle name ≡ Some name
    → subcommand_of sok_app (program ∷ name ∷ words) ≡ entered made (Some (name, words))
entered_at program name words named = ap (λ w. entered made w.stopped) (met name words named)

-- ---- a subcommand's own words

-- what is asked of a subcommand where its walk ends so
abbrev pub leaf_ends_well : Shape → Held → Bool
leaf_ends_well s h = settle_passes s.rules s.args_override_self h && (list_all default_passes s.rules && is_valid s (finished s.rules h) false)

-- what is held after the words that are said
abbrev pub held_after : Shape → List Said → Held
held_after s said = (fold (led s) (walk_from nothing_held) said).held

abbrev pub rows_said : Text → List Said → List Row
rows_said name said = finished (sub_shape name).rules (held_after (sub_shape name) said)

-- the words that are said pass, and the subcommand's walk ends well behind them
abbrev pub takes_said : Text → List Said → Bool
takes_said name said = all_pass (leaf_ends_well (sub_shape name)) (sub_shape name) (walk_from nothing_held) said

-- the word is the name of a subcommand and not that for help; what is asked of its words is what they ask, and it is entered with their rows
abbrev pub IsSub : Text → List Text → Type 0
IsSub name words =
    ◌≡◌ {A = Option Text × Bool × Bool × Option (Text × List Row)}
    (subcommand_met (names_of made) idle name, bytes_eq name (codes "help"), ends_well (stopped_at name words) true, entered made (Some (name, words)))
    (Some name, false, level_passes (sub_shape name) [] nothing_held words false && true, Some (name, rows_after (sub_shape name).rules [] words))

-- the command takes the words of a subcommand, and these are its matches
pub record Runs (program name : Text) (words : List Text) (rows : List Row) : Type 0 where
  pub takes : takes sok_app (program ∷ name ∷ words) ≡ true
  pub enters : subcommand_of sok_app (program ∷ name ∷ words) ≡ Some (name, rows)

pub runs : (program name : Text) (said : List Said) → IsSub name (map word_of said) → takes_said name said ≡ true
    → Runs program name (map word_of said) (rows_said name said)
runs program name said sub well =
    let words = map word_of said in
    let met = ap (λ p. p.0) sub in
    let (turns, steps, ends) = all_turns (leaf_ends_well (sub_shape name)) (sub_shape name) (walk_from nothing_held) said well in
    let level : level_passes (sub_shape name) [] nothing_held words false ≡ true =
    ap₂ ◌&&◌ turns (ap (λ (w : Walk). leaf_ends_well (sub_shape name) w.held) steps ∙ ends) in
    record {
      takes = taken program name words met (ap (λ p. p.1) sub) (ap (λ p. p.2) sub ∙ ap (λ b. b && true) level);
      enters = entered_at program name words met ∙ ap (λ p. p.3) sub
          ∙ ap (λ (w : Walk). Some (name, finished (sub_shape name).rules w.held)) steps;
    }

-- ---- numbers

-- what is asked of a number passes, whatever rule asks it
pub number_passes : (text : Text) → IsNumber text → accepts false (vp.Signed (pos 0) (pos 4294967295)) text ≡ true
number_passes text n = Accepts-accepts false (vp.Signed (pos 0) (pos 4294967295)) text (accepted text n)
  where
    accepted : (t : Text) → IsNumber t → IsSignedIn (pos 0) (pos 4294967295) t
    accepted t n = rw (no_minus t n.0, no_plus t n.0) (n.0, omega (arith, ints), omega (arith, ints), omega (arith, ints))

pub pushes_pass : (text : Text) → IsPushes text → accepts false (vp.Signed (pos 0) (pos 1000000)) text ≡ true
pushes_pass text n = Accepts-accepts false (vp.Signed (pos 0) (pos 1000000)) text (accepted text n)
  where
    accepted : (t : Text) → IsPushes t → IsSignedIn (pos 0) (pos 1000000) t
    accepted t n = rw (no_minus t n.0, no_plus t n.0) (n.0, omega (arith, ints), omega (arith, ints), omega (arith, ints))

pub id_passes : (text : Text) → IsId text → accepts false (vp.Signed (negsuc 9223372036854775807) (pos 9223372036854775807)) text ≡ true
id_passes text n = Accepts-accepts false (vp.Signed (negsuc 9223372036854775807) (pos 9223372036854775807)) text (accepted text n)
  where
    accepted : (t : Text) → IsId t → IsSignedIn (negsuc 9223372036854775807) (pos 9223372036854775807) t
    accepted t n = rw (no_minus t n.0, no_plus t n.0) (n.0, omega (arith, ints), omega (arith, ints), omega (arith, ints))

pub minus_free : (text : Text) → IsNumber text → without_minus text ≡ text
minus_free [] n = refl
minus_free (d ∷ ds) n =
    let e : (d == 45) ≡ false = ne_eqb _ _ (λ e. omega (arith, digit_from_value d n.0.1.0)) in
    rw e refl

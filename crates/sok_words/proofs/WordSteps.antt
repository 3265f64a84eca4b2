-- One step of the walk over the words of a subcommand.
use Rattle.std.proofs.Common.{◌≡◌, ◌∙◌, ◌==◌, ◌&&◌, Bool, not, ℕ, true, false, true≢false, refl, sym, ap, ap₂, List, [], ◌∷◌, map, Option, Some, None, is_none, arith}
use Rattle.std.specs.List.{fold}
use Rattle.std.specs.Str.{bytes_eq}
use Rattle.std.specs.Str.Parse.{IsNumeral, without_leading_plus, starts_with_minus}
use Rattle.std.proofs.lemmas.Bool.{and_parts, ne_eqb}
use Rattle.std.proofs.lemmas.Str.Parse.{digit_from_value}
use Rattle.clap.specs.Lexer.{long_of, short_of}
use Rattle.clap.specs.Walk.{Held, Rule, Text, Waiting, Walk, after_step, plain_word, walked, word_met, idle, option, positional}
use Rattle.clap.specs.Simple.{Shape}
use Rattle.clap.specs.Takes.{step_passes, turn_passes, walk_passes, word_passes}
use Rattle.sok_words.specs.Forms.{IsValue}

-- a value does not begin with a hyphen
no_hyphen : (b : ℕ) (bs : Text) → IsValue (b ∷ bs) → b ≡ 45 → ⊥
no_hyphen b bs v e = v (ap (λ c. c ∷ []) e)

pub no_long : (word : Text) → IsValue word → long_of word ≡ None
no_long [] v = absurd v
no_long (b ∷ bs) v = let e : (b == 45) ≡ false = ne_eqb _ _ (no_hyphen b bs v) in rw e refl

pub no_short : (word : Text) → IsValue word → short_of word ≡ None
no_short [] v = absurd v
no_short (b ∷ bs) v = let e : (b == 45) ≡ false = ne_eqb _ _ (no_hyphen b bs v) in rw e refl

pub no_dashes : (word : Text) → IsValue word → bytes_eq word (45 ∷ 45 ∷ []) ≡ false
no_dashes [] v = absurd v
no_dashes (b ∷ bs) v = let e : (b == 45) ≡ false = ne_eqb _ _ (no_hyphen b bs v) in rw e refl

-- a place of the walk at which no subcommand was met
abbrev pub at : Held → Waiting → ℕ → Walk
at h waiting position = record { held = h; waiting = waiting; position = position; is_trailing = false; stopped = None }

pub value_met : (c : List Rule) (waiting : Waiting) (position : ℕ) (word : Text) (h : Held) → IsValue word
    → word_met c [] false waiting position word h ≡ plain_word c waiting word h
value_met c idle position word h v = rw (no_dashes word v, no_long word v, no_short word v) refl
value_met c (option id) position word h v = rw (no_dashes word v, no_long word v, no_short word v) refl
value_met c positional position word h v = rw (no_dashes word v, no_long word v, no_short word v) refl

pub value_walked : (c : List Rule) (waiting : Waiting) (position : ℕ) (word : Text) (h : Held) → IsValue word
    → walked c [] (at h waiting position) word ≡ after_step c word (at h waiting position) (plain_word c waiting word h).0 (plain_word c waiting word h).1
unfolding walked
value_walked c waiting position word h v =
    ap (λ m. after_step c word (at h waiting position) m.0 m.1) (value_met c waiting position word h v)

pub value_asks_nothing : (s : Shape) (waiting : Waiting) (word : Text) (h : Held) → IsValue word → word_passes s [] false waiting word h ≡ true
value_asks_nothing s idle word h v = rw (no_dashes word v, no_long word v, no_short word v) refl
value_asks_nothing s (option id) word h v = rw (no_dashes word v, no_long word v, no_short word v) refl
value_asks_nothing s positional word h v = rw (no_dashes word v, no_long word v, no_short word v) refl

pub value_turn : (s : Shape) (waiting : Waiting) (position : ℕ) (word : Text) (h : Held) → IsValue word
    → turn_passes s [] (at h waiting position) word
    ≡ step_passes s position (plain_word s.rules waiting word h).0 (plain_word s.rules waiting word h).1
value_turn s waiting position word h v =
    ap₂ ◌&&◌ (value_asks_nothing s waiting word h v)
    (ap (λ m. step_passes s position m.0 m.1) (value_met s.rules waiting position word h v))

-- a word that is said: a value, with what its rule asks of it, which it meets, or the name of an option, which may be a flag
pub data Said : Type 0 where
  value : (word : Text) → IsValue word → (asked : Bool) → asked ≡ true → Said
  named : (is_flag : Bool) → Text → Said

abbrev pub word_of : Said → Text
word_of (value word is asked met) = word
word_of (named is_flag word) = word

-- What is asked of the values, each at the word behind it or at the end; `last` is what is asked of the one before. It is spelled as the walk computes it.
abbrev pub asked_of : List Said → Bool → Bool
asked_of [] last = (last && true) && true
asked_of (value word is asked met ∷ xs) last = (last && true) && asked_of xs asked
asked_of (named false word ∷ xs) last = ((last && true) && true) && asked_of xs true
asked_of (named true word ∷ xs) last = (((last && true) && true) && true) && asked_of xs true

pub all_met : (said : List Said) (last : Bool) → last ≡ true → asked_of said last ≡ true
all_met [] last p = ap (λ b. (b && true) && true) p
all_met (value word is asked met ∷ xs) last p = ap₂ (λ a b. (a && true) && b) p (all_met xs asked met)
all_met (named false word ∷ xs) last p = ap₂ (λ a b. ((a && true) && true) && b) p (all_met xs true refl)
all_met (named true word ∷ xs) last p = ap₂ (λ a b. (((a && true) && true) && true) && b) p (all_met xs true refl)

-- where the walk is after it
abbrev pub led : Shape → Walk → Said → Walk
led s w (value word is asked met) = after_step s.rules word w (plain_word s.rules w.waiting word w.held).0 (plain_word s.rules w.waiting word w.held).1
led s w (named is_flag word) = walked s.rules [] w word

-- whether all that it does passes, where no subcommand was met before it
abbrev pub passes : Shape → Walk → Said → Bool
passes s w (value word is asked met) = (not w.is_trailing && is_none w.stopped)
    && step_passes s w.position (plain_word s.rules w.waiting word w.held).0 (plain_word s.rules w.waiting word w.held).1
passes s w (named is_flag word) = turn_passes s [] w word

-- and all of them, and then the end
unfoldable pub all_pass : (Held → Bool) → Shape → Walk → List Said → Bool
all_pass ends s w [] = ends w.held
all_pass ends s w (x ∷ xs) = passes s w x && all_pass ends s (led s w x) xs

goes_on : (h : Held) (waiting : Waiting) (position : ℕ) (is_trailing : Bool) (stopped : Option (Text × List Text))
    → (not is_trailing && is_none stopped) ≡ true
    → record { held = h; waiting = waiting; position = position; is_trailing = is_trailing; stopped = stopped } ≡ at h waiting position
goes_on h waiting position false None p = refl
goes_on h waiting position false (Some x) p = absurd (true≢false (sym p))
goes_on h waiting position true stopped p = absurd (true≢false (sym p))

turn : (s : Shape) (w : Walk) (x : Said) → passes s w x ≡ true → turn_passes s [] w (word_of x) ≡ true
turn s w (named is_flag word) p = p
turn s w (value word is asked met) p =
    let (here, step) = and_parts _ _ p in
    let on : w ≡ at w.held w.waiting w.position = goes_on w.held w.waiting w.position w.is_trailing w.stopped here in
    ap (λ w. turn_passes s [] w word) on ∙ value_turn s w.waiting w.position word w.held is ∙ step

step : (s : Shape) (w : Walk) (x : Said) → passes s w x ≡ true → walked s.rules [] w (word_of x) ≡ led s w x
step s w (named is_flag word) p = refl
step s w (value word is asked met) p =
    let (here, step) = and_parts _ _ p in
    let on : w ≡ at w.held w.waiting w.position = goes_on w.held w.waiting w.position w.is_trailing w.stopped here in
    let met = plain_word s.rules w.waiting word w.held in
    ap (λ w. walked s.rules [] w word) on ∙ value_walked s.rules w.waiting w.position word w.held is
    ∙ ap (λ w. after_step s.rules word w met.0 met.1) (sym on)

-- the words that are said pass, and lead where each of them does
pub all_turns : (ends : Held → Bool) (s : Shape) (w : Walk) (said : List Said) → all_pass ends s w said ≡ true
    → (walk_passes s [] w (map word_of said) ≡ true) × (fold (walked s.rules []) w (map word_of said) ≡ fold (led s) w said)
    × (ends (fold (led s) w said).held ≡ true)
unfolding walk_passes all_pass
all_turns ends s w [] p = (refl, refl, p)
all_turns ends s w (x ∷ xs) p =
    let (here, later) = and_parts _ _ p in
    let (turns, steps, end) = all_turns ends s (led s w x) xs later in (
      ap₂ ◌&&◌ (turn s w x here) (ap (λ w. walk_passes s [] w (map word_of xs)) (step s w x here) ∙ turns),
      ap (λ w. fold (walked s.rules []) w (map word_of xs)) (step s w x here) ∙ steps,
      end,
    )

-- ---- numbers

pub number_is_value : (text : Text) → IsNumeral 10 text → IsValue text
number_is_value [] n = absurd (omega (arith, n.0))
number_is_value (d ∷ ds) n = λ e. let hyphen : d ≡ 45 = cc in omega (arith, digit_from_value d n.1.0)

pub no_plus : (text : Text) → IsNumeral 10 text → without_leading_plus text ≡ text
no_plus [] n = refl
no_plus (d ∷ ds) n =
    let plus : (d == 43) ≡ false = ne_eqb _ _ (λ e. omega (arith, digit_from_value d n.1.0)) in
    rw plus refl

pub no_minus : (text : Text) → IsNumeral 10 text → starts_with_minus text ≡ false
no_minus [] n = refl
no_minus (d ∷ ds) n = ne_eqb _ _ (λ e. omega (arith, digit_from_value d n.1.0))

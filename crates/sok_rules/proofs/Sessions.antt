-- Sessions: letters played one by one, taken back and played again.
use Rattle.std.proofs.Common.{ℕ, ◌≡◌, ◌≢◌, ◌<◌, ◌≤◌, ◌+◌, ◌-◌, refl, sym, ap, ◌∙◌, subst, List, [], ◌∷◌, ◌++◌, length, take, drop}
use Rattle.std.proofs.Common.{add-one, drop-cons, get_or, suc, Bool, false, Option, Some, None, IsSome, IsNone, IsSomeAnd, MatchOption, arith}
use Rattle.std.proofs.lemmas.List.{length-append, length-take-le, take_all, take_more, drop_all}
use Rattle.std.proofs.lemmas.Option.{same_Some, option_and_then_some}
use Rattle.std.specs.Option.{option_and_then, option_map_or}
use Rattle.sok_rules.specs.declared.cell.Dir.{Dir}
use Rattle.sok_rules.specs.Squares.{Rows}
use Rattle.sok_rules.specs.Play.{After, Position, one_if, pushes, run, start, step}
use Rattle.sok_rules.specs.Kept.{IsSession}
use Rattle.sok_rules.specs.Replay.{push_marks}
use Rattle.sok_rules.specs.Session.{Letters, Redoes, StaysAt, StepsOn, position_of, with_letter}
use Rattle.sok_rules.specs.declared.fault.PlayFault.TheVariants.{Memory}
use Rattle.sok_rules.specs.Scene.{CameBy, SameGround, Steps}
use Rattle.sok_rules.proofs.Man.{IsStanding-start}
use Rattle.sok_rules.proofs.Marks.{IsLetter-at, length-push_marks, push_marks-append, some_of, take-push_marks}
use Rattle.sok_rules.proofs.Replays.{step-SameGround}
use Rattle.sok_rules.proofs.Runs.{IsStanding-run, pushes-append, pushes-le-length, pushes-take_more, run-append, run-take_more}
use Rattle.sok_rules.proofs.Scenes.{SameGround-trans}

-- a session after one more letter
pub IsSession-stepped : (rows scene new : Rows) (letters : List Dir) (pushed : List Bool) (played count : ℕ) (d : Dir) (p : Bool)
    → IsSession rows scene letters pushed played count → played < 1000000 → Steps scene d p new
    → IsSession rows new (take played letters ++ d ∷ []) (take played pushed ++ p ∷ []) (played + 1) (count + one_if p)
IsSession-stepped rows scene new letters pushed played count d p session few steps =
    let w = take played letters in
    let x = start rows in
    let y = start scene in
    let size : length w ≡ played = length-take-le played letters session.mark in
    let longer : length (w ++ d ∷ []) ≡ played + 1 = omega (arith, length-append w (d ∷ []), size) in
    let leads : step rows d y ≡ Some (record { position = start new; pushed = p }) = step-SameGround rows scene d y session.ground ∙ steps.leads in
    let ran : run rows x (w ++ d ∷ []) ≡ Some (start new) =
    run-append rows w (d ∷ []) x ∙ ap (option_and_then (λ z. run rows z (d ∷ []))) session.ran ∙ ap (option_and_then (λ (a : After). Some a.position)) leads in
    let one : push_marks rows y (d ∷ []) ≡ p ∷ [] = ap (λ o. option_map_or (λ (a : After). a.pushed ∷ []) o []) leads in
    let counted_one : pushes rows y (d ∷ []) ≡ one_if p + 0 = ap (λ o. option_map_or (λ (a : After). one_if a.pushed + 0) o 0) leads in
    let all : take (played + 1) (w ++ d ∷ []) ≡ w ++ d ∷ [] = take_all (played + 1) (w ++ d ∷ []) (omega (arith, longer)) in
    record {
      proper = session.proper;
      mark = omega (arith, longer);
      few = omega (arith, longer, few);
      legal = subst IsSome (sym ran) refl;
      pushed_are = ap (λ front. front ++ p ∷ []) (ap (take played) session.pushed_are ∙ take-push_marks rows letters x y played session.mark session.ran)
          ∙ ap (λ back. push_marks rows x w ++ back) (sym one) ∙ sym (push_marks-append rows w (d ∷ []) x y session.ran);
      ground = SameGround-trans rows scene new session.ground steps.ground;
      ran = ap (run rows x) all ∙ ran;
      counted = omega (arith, session.counted, counted_one, pushes-append rows w (d ∷ []) x y session.ran, ap (pushes rows x) all);
    }

-- a session whose first undone letter is played again
pub IsSession-redone : (rows scene new : Rows) (letters : List Dir) (pushed : List Bool) (played count : ℕ) (other : Dir) (p : Bool)
    → IsSession rows scene letters pushed played count → played < length letters → Steps scene (get_or letters played other) p new
    → IsSession rows new letters pushed (played + 1) (count + one_if p)
IsSession-redone rows scene new letters pushed played count other p session more steps =
    let x = start rows in
    let y = start scene in
    let d = get_or letters played other in
    let leads : step rows d y ≡ Some (record { position = start new; pushed = p }) = step-SameGround rows scene d y session.ground ∙ steps.leads in
    record {
      proper = session.proper;
      mark = omega (arith, more);
      few = session.few;
      legal = session.legal;
      pushed_are = session.pushed_are;
      ground = SameGround-trans rows scene new session.ground steps.ground;
      ran = run-take_more rows x y letters played other more session.ran ∙ ap (option_and_then (λ (a : After). Some a.position)) leads;
      counted = let one = pushes-take_more rows x y letters played other (record { position = start new; pushed = p }) more session.ran leads in
          omega (arith, session.counted, one);
    }

-- the next undone letter is legal
pub legal_redo : (rows scene : Rows) (letters : List Dir) (pushed : List Bool) (played count : ℕ) (other : Dir)
    → IsSession rows scene letters pushed played count → played < length letters
    → (a : After) × (step scene (get_or letters played other) (start scene) ≡ Some a)
legal_redo rows scene letters pushed played count other session more =
    let letter = IsLetter-at rows letters (start rows) (start scene) played other false more session.legal session.ran in
    (letter.0, sym (step-SameGround rows scene _ (start scene) session.ground) ∙ letter.1.leads)

-- the position before the last letter played
pub record WasBefore (rows scene : Rows) (letters : List Dir) (pushed : List Bool) (at count : ℕ) (d : Dir) (p : Bool) : Type 0 where
  pub x : Position
  pub came : CameBy scene d p x
  pub ran : run rows (start rows) (take at letters) ≡ Some x
  pub counted : count ≡ pushes rows (start rows) (take at letters) + one_if p

pub WasBefore-from_IsSession : (rows scene : Rows) (letters : List Dir) (pushed : List Bool) (at count : ℕ) (other : Dir) (none : Bool)
    → IsSession rows scene letters pushed (at + 1) count → WasBefore rows scene letters pushed at count (get_or letters at other) (get_or pushed at none)
WasBefore-from_IsSession rows scene letters pushed at count other none session =
    let x = start rows in
    let d = get_or letters at other in
    let within : at < length letters = omega (arith, session.mark) in
    let split = ap (run rows x) (sym (take_more letters at other within)) ∙ session.ran in
    option_and_then_some (λ z. run rows z (d ∷ [])) (run rows x (take at letters)) (start scene) (sym (run-append rows (take at letters) (d ∷ []) x) ∙ split)
    (λ y so_far last.
    let letter = IsLetter-at rows letters x y at other none within session.legal so_far in
    let flag : get_or pushed at none ≡ letter.0.pushed = ap (λ flags. get_or flags at none) session.pushed_are ∙ letter.1.pushed_is in
    let leads : step rows d y ≡ Some letter.0 = letter.1.leads in
    let there : letter.0.position ≡ start scene = same_Some _ _ (ap (option_and_then (λ (a : After). Some a.position)) (sym leads) ∙ last) in
    let stands = IsStanding-run rows (take at letters) x y (IsStanding-start rows session.proper) so_far in
    let counted = pushes-take_more rows x y letters at other letter.0 within so_far leads in
    record {
      x = y;
      came = record {
        man_open = session.ground.opened y.man ∙ stands.on_open;
        man_free = stands.no_box;
        led = sym (step-SameGround rows scene d y session.ground) ∙ leads ∙ (λ i. Some (record { position = there i; pushed = sym flag i }));
      };
      ran = so_far;
      counted = omega (arith, session.counted, counted, ap one_if flag);
    })

-- a session whose last letter is taken back
pub IsSession-undone : (rows scene new : Rows) (letters : List Dir) (pushed : List Bool) (at count left : ℕ) (d : Dir) (p : Bool)
    → IsSession rows scene letters pushed (at + 1) count
    → (before : WasBefore rows scene letters pushed at count d p) → SameGround scene new → start new ≡ before.x → left + one_if p ≡ count
    → IsSession rows new letters pushed at left
IsSession-undone rows scene new letters pushed at count left d p session before ground back rest = record {
  proper = session.proper;
  mark = omega (arith, session.mark);
  few = session.few;
  legal = session.legal;
  pushed_are = session.pushed_are;
  ground = SameGround-trans rows scene new session.ground ground;
  ran = before.ran ∙ ap Some (sym back);
  counted = omega (arith, before.counted, rest);
}

-- each letter has its flag
pub length-IsSession : (rows scene : Rows) (letters : List Dir) (pushed : List Bool) (played count : ℕ) → IsSession rows scene letters pushed played count
    → length pushed ≡ length letters
length-IsSession rows scene letters pushed played count session =
    ap length session.pushed_are ∙ (let legal = some_of (run rows (start rows) letters) session.legal in
    length-push_marks rows letters (start rows) legal.0 legal.1)

pub few_pushes : (rows scene : Rows) (letters : List Dir) (pushed : List Bool) (played count : ℕ) → IsSession rows scene letters pushed played count
    → count ≤ 1000000
few_pushes rows scene letters pushed played count session =
    omega (
      arith,
      session.counted,
      pushes-le-length rows (take played letters)
          (start rows),
      length-take-le played letters session.mark,
      session.mark,
      session.few,
    )

-- what is seen of a session
abbrev pub viewed : Rows → List Dir → ℕ → Letters
viewed rows letters played = record { rows = rows; played = take played letters; undone = drop played letters }

-- the first letter undone is played again
pub Redoes-viewed : (rows : Rows) (letters : List Dir) (played : ℕ) (d : Dir) → played < length letters → d ≡ get_or letters played d
    → Redoes (viewed rows letters played) (viewed rows letters (played + 1))
Redoes-viewed rows letters played d within is = record {
  rows = refl;
  d = d;
  undone = rw (add-one, drop-cons letters played d) (ap (λ e. e ∷ drop (suc played) letters) (sym is));
  played = take_more letters played d within ∙ ap (λ e. take played letters ++ e ∷ []) (sym is);
}

-- want of memory changes nothing, and comes where no letter is undone
pub StaysAt-memory : (rows : Rows) (letters same : List Dir) (played : ℕ) (d : Dir) → same ≡ letters → played ≡ length letters → played < 1000000
    → StaysAt (viewed rows letters played) d (viewed rows same played) Memory
StaysAt-memory rows letters same played d is end few =
    let size : length (take played letters) ≡ played = length-take-le played letters (omega arith) in
    record { unchanged = ap (λ items. viewed rows items played) is; cause = (omega arith, drop_all played letters (omega arith)) }

pub IsNone-blocked : (rows scene : Rows) (letters : List Dir) (pushed : List Bool) (played count : ℕ) (d : Dir)
    → IsSession rows scene letters pushed played count
    → step scene d (start scene) ≡ None → IsNone (position_of (with_letter (viewed rows letters played) d))
IsNone-blocked rows scene letters pushed played count d session none =
    subst IsNone (sym (run-append rows (take played letters) (d ∷ []) (start rows) ∙ ap (option_and_then (λ z. run rows z (d ∷ []))) session.ran
    ∙ ap (option_and_then (λ (a : After). Some a.position)) (step-SameGround rows scene d (start scene) session.ground ∙ none))) refl

pub StepsOn-stepped : (rows scene new : Rows) (letters later : List Dir) (pushed : List Bool) (played count : ℕ) (d : Dir) (p : Bool)
    → IsSession rows scene letters pushed played count
    → played < 1000000 → Steps scene d p new → later ≡ take played letters ++ d ∷ [] → StepsOn (viewed rows letters played) d (viewed rows later (played + 1)) p
StepsOn-stepped rows scene new letters later pushed played count d p session few steps is =
    let w = take played letters in
    let size : length w ≡ played = length-take-le played letters session.mark in
    let longer : length later ≤ played + 1 = omega (arith, ap length is, length-append w (d ∷ []), size) in
    let leads = step-SameGround rows scene d (start scene) session.ground ∙ steps.leads in
    let here : IsSomeAnd (step rows d (start scene)) (λ (a : After). a.pushed ≡ p) = subst (λ o. IsSomeAnd o (λ (a : After). a.pushed ≡ p)) (sym leads) refl in
    record {
      after = λ i. record { rows = rows; played = (take_all (played + 1) later longer ∙ is) i; undone = drop_all (played + 1) later longer i };
      few = omega (arith, size, few);
      legal = subst (λ o. IsSomeAnd o (λ x. IsSomeAnd (step rows d x) (λ (a : After). a.pushed ≡ p))) (sym session.ran) here;
    }

pub IsSession-same : (rows scene : Rows) (letters letters' : List Dir) (pushed pushed' : List Bool) (played count count' : ℕ) → letters' ≡ letters
    → pushed' ≡ pushed → count' ≡ count
    → IsSession rows scene letters pushed played count → IsSession rows scene letters' pushed' played count'
IsSession-same rows scene letters letters' pushed pushed' played count count' l p n session =
    subst (λ xs. IsSession rows scene xs pushed' played count') (sym l)
    (subst (λ flags. IsSession rows scene letters flags played count') (sym p) (subst (λ k. IsSession rows scene letters pushed played k) (sym n) session))

-- a letter that is legal is played
pub some_step : (P : Type 0) (Q : Bool → Type 0) (o : Option Bool) → MatchOption o P Q → ¬ P → IsSome o
some_step P Q None p none = absurd (none p)
some_step P Q (Some b) q none = refl

-- the position before the last of some letters
pub was_before : (rows scene : Rows) (letters : List Dir) (pushed : List Bool) (played count : ℕ) (d : Dir) (p : Bool)
    → IsSession rows scene letters pushed played count
    → played ≢ 0 → d ≡ get_or letters (played - 1) d → p ≡ get_or pushed (played - 1) p → WasBefore rows scene letters pushed (played - 1) count d p
was_before rows scene letters pushed played count d p session some letter flag =
    let one_more : played ≡ (played - 1) + 1 = omega (arith, some) in
    let before = WasBefore-from_IsSession rows scene letters pushed (played - 1) count d p
    (subst (λ n. IsSession rows scene letters pushed n count) one_more session) in
    subst (λ e. WasBefore rows scene letters pushed (played - 1) count e p) (sym letter)
    (subst (λ b. WasBefore rows scene letters pushed (played - 1) count (get_or letters (played - 1) d) b) (sym flag) before)

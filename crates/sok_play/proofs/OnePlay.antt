-- A text that is played on a level has one answer at most, and one drawing.
use Rattle.std.proofs.Common.{ℕ, ◌≡◌, ◌∙◌, List, Option, Some, None, Ok, Err, IsSome, IsSomeAnd, ap, refl, subst, sym}
use Rattle.sok_rules.specs.declared.cell.Dir.{Dir}
use Rattle.sok_rules.specs.declared.fault.PlayFault.TheVariants.{Blocked}
use Rattle.sok_rules.specs.Squares.{Rows}
use Rattle.sok_rules.specs.Play.{Position, run, start}
use Rattle.sok_rules.specs.Replay.{IsTally, IsBlockedAt}
use Rattle.sok_rules.proofs.Outcomes.{blocked_not_legal, blocked_one, tally_one}
use Rattle.sok_text.specs.declared.lurd.LurdFault.{LurdFault}
use Rattle.sok_text.specs.Collections.{blocks_of, level_at}
use Rattle.sok_text.specs.Lurd.{Spells, GoesWrong}
use Rattle.sok_text.proofs.Letters.{Spells-one, GoesWrong-one, Spells-GoesWrong}
use Rattle.sok_engine.specs.declared.fault.ToolFault.{ToolFault}
use Rattle.sok_engine.specs.declared.fault.ToolFault.TheVariants as tool
use Rattle.sok_play.specs.Plays.{IsReplay, IsPlayedAnswer, IsPlayFault, tally_answer}
use Rattle.sok_engine.specs.Written.{Answer, HasOne}
use Rattle.sok_play.specs.Drawings.{IsDrawing, IsDrawnAnswer, drawing}
use Rattle.sok_engine.proofs.Unique.{OnLevel-one}

-- why a text is not played: it goes wrong, or one of its letters is not legal
data Fails (rows : Rows) (text : List ℕ) (fault : ToolFault) : Type 0 where
  wrong : (f : LurdFault) → GoesWrong text f → fault ≡ tool.Lurd f → Fails rows text fault
  blocked : (w : List Dir) (at : ℕ) → Spells text w → IsBlockedAt rows w at → fault ≡ tool.Play (Blocked at) → Fails rows text fault

fails : (rows : Rows) (text : List ℕ) (fault : ToolFault) → IsPlayFault rows text fault → Fails rows text fault
fails rows text (tool.Lurd fault) h = wrong fault h refl
fails rows text (tool.Play (Blocked at)) h = blocked h.0 at h.1 h.2 refl
fails rows text _ h = absurd h

fails_one : (rows : Rows) (text : List ℕ) (f g : ToolFault) → Fails rows text f → Fails rows text g → f ≡ g
fails_one rows text f g (wrong a goes_a is_f) (wrong b goes_b is_g) = is_f ∙ ap tool.Lurd (GoesWrong-one text a b goes_a goes_b) ∙ sym is_g
fails_one rows text f g (wrong a goes_a is_f) (blocked w j spells block is_g) = absurd (Spells-GoesWrong text w a spells goes_a)
fails_one rows text f g (blocked v i spells block is_f) (wrong b goes_b is_g) = absurd (Spells-GoesWrong text v b spells goes_b)
fails_one rows text f g (blocked v i spells_v block_v is_f) (blocked w j spells_w block_w is_g) =
    let same = Spells-one text v w spells_v spells_w in
    is_f ∙ ap (λ at. tool.Play (Blocked at)) (blocked_one rows w i j (subst (λ u. IsBlockedAt rows u i) same block_v) block_w) ∙ sym is_g

-- a text that is played does not fail
played_or_fails : (rows : Rows) (text : List ℕ) (v : List Dir) (g : ToolFault) → Spells text v → IsSome (run rows (start rows) v) → Fails rows text g → ⊥
played_or_fails rows text v g spells legal (wrong b goes is_g) = Spells-GoesWrong text v b spells goes
played_or_fails rows text v g spells legal (blocked w j spells_w block is_g) =
    blocked_not_legal rows w j block (subst (λ u. IsSome (run rows (start rows) u)) (Spells-one text v w spells spells_w) legal)

IsPlayedAnswer-one : (text : List ℕ) (rows : Rows) → HasOne (IsPlayedAnswer text rows)
IsPlayedAnswer-one text rows (Ok a) (Ok b) is_a is_b =
    let (s, (v, spells_v, tally_v), a_is) = is_a in
    let (t, (w, spells_w, tally_w), b_is) = is_b in
    let same = Spells-one text v w spells_v spells_w in
    ap Ok (a_is ∙ ap tally_answer (tally_one rows w s t (subst (λ u. IsTally rows u s) same tally_v) tally_w) ∙ sym b_is)
IsPlayedAnswer-one text rows (Ok a) (Err g) is_a is_b =
    let (s, (v, spells, tally), a_is) = is_a in absurd (played_or_fails rows text v g spells tally.legal (fails rows text g is_b))
IsPlayedAnswer-one text rows (Err f) (Ok b) is_a is_b =
    let (t, (w, spells, tally), b_is) = is_b in absurd (played_or_fails rows text w f spells tally.legal (fails rows text f is_a))
IsPlayedAnswer-one text rows (Err f) (Err g) is_a is_b = ap Err (fails_one rows text f g (fails rows text f is_a) (fails rows text g is_b))

-- and is drawn once
one_drawing : (rows : Rows) (a b : Answer) (o : Option Position) → IsSomeAnd o (λ x. a ≡ drawing rows x) → IsSomeAnd o (λ x. b ≡ drawing rows x) → a ≡ b
one_drawing rows a b None is_a is_b = absurd is_a
one_drawing rows a b (Some x) is_a is_b = is_a ∙ sym is_b

drawn_legal : (rows : Rows) (a : Answer) (o : Option Position) → IsSomeAnd o (λ x. a ≡ drawing rows x) → IsSome o
drawn_legal rows a None is = absurd is
drawn_legal rows a (Some x) is = refl

IsDrawnAnswer-one : (text : List ℕ) (rows : Rows) → HasOne (IsDrawnAnswer text rows)
IsDrawnAnswer-one text rows (Ok a) (Ok b) (v, spells_v, is_a) (w, spells_w, is_b) =
    let same = Spells-one text v w spells_v spells_w in
    ap Ok (one_drawing rows a b _ (subst (λ u. IsSomeAnd (run rows (start rows) u) (λ x. a ≡ drawing rows x)) same is_a) is_b)
IsDrawnAnswer-one text rows (Ok a) (Err g) (v, spells, is) is_g =
    absurd (played_or_fails rows text v g spells (drawn_legal rows a _ is) (fails rows text g is_g))
IsDrawnAnswer-one text rows (Err f) (Ok b) is_f (w, spells, is) =
    absurd (played_or_fails rows text w f spells (drawn_legal rows b _ is) (fails rows text f is_f))
IsDrawnAnswer-one text rows (Err f) (Err g) is_f is_g = ap Err (fails_one rows text f g (fails rows text f is_f) (fails rows text g is_g))

pub IsDrawing-one : (n : ℕ) (text bytes : List ℕ) → HasOne (IsDrawing n text bytes)
IsDrawing-one n text bytes = OnLevel-one _ (IsDrawnAnswer-one text) (level_at (blocks_of bytes) n)

pub IsReplay-one : (n : ℕ) (text bytes : List ℕ) → HasOne (IsReplay n text bytes)
IsReplay-one n text bytes = OnLevel-one _ (IsPlayedAnswer-one text) (level_at (blocks_of bytes) n)

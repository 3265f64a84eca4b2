-- The chain of pushes back to the start: a list of letters that comes to a state, with no more pushes than it is deep.
use Rattle.std.proofs.Common.{ℕ, ◌≡◌, ◌≤◌, ◌+◌, ◌∙◌, refl, ap, List, [], ◌∷◌, ◌++◌, zero, suc, Option, Some, None, true, arith, slice_get}
use Rattle.std.specs.Option.{option_and_then, option_map_or}
use Rattle.std.specs.Map.{values_of}
use Rattle.sok_rules.specs.declared.cell.Dir.{Dir}
use Rattle.sok_rules.specs.Squares.{Rows}
use Rattle.sok_rules.specs.Play.{After, Position, one_if, pushes, run, start, step}
use Rattle.sok_rules.specs.States.{Same}
use Rattle.sok_rules.proofs.Runs.{pushes-append, run-append}
use Rattle.sok_rules.proofs.Walking.{Same-trans}
use Rattle.sok_board.specs.Area.{BoardView}
use Rattle.sok_state.specs.declared.key.Key.{Key}
use Rattle.sok_state.specs.declared.push.Push.{Push}
use Rattle.sok_state.specs.Keys.{IsKeyOf, key_position}
use Rattle.sok_state.specs.Pushes.{LeadsTo}
use Rattle.sok_state.specs.Tables.{IsAt}
use Rattle.sok_search.specs.declared.note.Origin.{Origin}
use Rattle.sok_search.specs.Searches.{Progress, IsCome, IsSearch}
use Rattle.sok_search.proofs.StatesByIndex.{noted-at}

-- a list of letters from the start that comes to a position of the state, with at most so many pushes
pub record IsReached (b : BoardView) (key : Key) (n : ℕ) : Type 0 where
  pub letters : List Dir
  pub to : Position
  pub leads : run b.rows (start b.rows) letters ≡ Some to
  pub is : IsKeyOf b to key
  pub few : pushes b.rows (start b.rows) letters ≤ n

-- a walk, and then a letter that pushes
pub run-push : (rows : Rows) (x y z : Position) (d : Dir) (same : Same rows x y) → step rows d y ≡ Some (record { position = z; pushed = true })
    → run rows x (same.0 ++ d ∷ []) ≡ Some z
run-push rows x y z d same steps =
    run-append rows same.0 (d ∷ []) x ∙ ap (option_and_then (λ t. run rows t (d ∷ []))) same.1
    ∙ ap (option_and_then (λ (after : After). Some after.position)) steps

pub pushes-push : (rows : Rows) (x y z : Position) (d : Dir) (same : Same rows x y) → step rows d y ≡ Some (record { position = z; pushed = true })
    → pushes rows x (same.0 ++ d ∷ []) ≡ 1
pushes-push rows x y z d same steps =
    let one : pushes rows y (d ∷ []) ≡ 1 + 0 = ap (λ o. option_map_or (λ (after : After). one_if after.pushed + 0) o 0) steps in
    let quiet = same.2 in
    pushes-append rows same.0 (d ∷ []) x y same.1 ∙ omega (arith, one, quiet)

-- one push more
pub reached-more : (b : BoardView) (key next : Key) (n : ℕ) (push : Push) (after : Position) → IsReached b key n → LeadsTo b key push after
    → IsKeyOf b after next → IsReached b next (n + 1)
reached-more b key next n push after reached leads is =
    let walk : Same b.rows reached.to leads.before = Same-trans b.rows reached.to (key_position b key) leads.before reached.is.same leads.same in
    let more = walk.0 ++ push.dir ∷ [] in
    let one = pushes-push b.rows reached.to leads.before after push.dir walk leads.steps in
    let few = reached.few in
    let sum = pushes-append b.rows reached.letters more (start b.rows) reached.to reached.leads in
    record {
      letters = reached.letters ++ more;
      to = after;
      leads = run-append b.rows reached.letters more (start b.rows) ∙ ap (option_and_then (λ t. run b.rows t more)) reached.leads
          ∙ run-push b.rows reached.to leads.before after push.dir walk leads.steps;
      is = is;
      few = omega (arith, sum, one, few);
    }

reached-deeper : (b : BoardView) (key : Key) (n m : ℕ) → n ≤ m → IsReached b key n → IsReached b key m
reached-deeper b key n m less reached =
    let few = reached.few in
    record { letters = reached.letters; to = reached.to; leads = reached.leads; is = reached.is; few = omega (arith, few, less) }

reached-start : (b : BoardView) (key : Key) (n : ℕ) → IsKeyOf b (start b.rows) key → IsReached b key n
reached-start b key n is = record { letters = []; to = start b.rows; leads = refl; is = is; few = omega arith }

-- by the origins, as the depths fall
abbrev AllReached : BoardView → Progress → ℕ → Type 0
AllReached b p n = (i : ℕ) (key : Key) (depth : ℕ) → IsAt p.table key i → slice_get (values_of p.table) i ≡ Some depth → depth ≤ n → IsReached b key depth

reached-come : (b : BoardView) (p : Progress) (n : ℕ) → AllReached b p n → (key : Key) (depth : ℕ) → depth ≤ n + 1 → (origin : Option Origin)
    → IsCome b p key depth origin → IsReached b key depth
reached-come b p n all key depth near None is = reached-start b key depth is
reached-come b p n all key depth near (Some origin) from =
    let nearer = from.nearer in
    let before = all origin.parent from.parent from.deep from.there from.depth_is (omega (arith, nearer, near)) in
    reached-deeper b key (from.deep + 1) depth (omega (arith, nearer))
    (reached-more b from.parent key from.deep origin.push from.after before from.leads from.is)

-- nothing is come to at depth 0 but the start
reached-first : (b : BoardView) (p : Progress) (key : Key) (depth : ℕ) → depth ≤ 0 → (origin : Option Origin) → IsCome b p key depth origin
    → IsReached b key depth
reached-first b p key depth near None is = reached-start b key depth is
reached-first b p key depth near (Some origin) from = let nearer = from.nearer in absurd (omega (arith, nearer, near))

-- the note at the index of a key
come-at : (b : BoardView) (limit : ℕ) (p : Progress) → IsSearch b limit p → (i : ℕ) (key : Key) (depth : ℕ) → IsAt p.table key i
    → slice_get (values_of p.table) i ≡ Some depth → (origin : Option Origin) × IsCome b p key depth origin
come-at b limit p search i key depth there depth_is =
    let (note, note_is, noted) = noted-at b limit p search i key depth there depth_is in
    (note.origin, noted.come)

all-reached : (b : BoardView) (limit : ℕ) (p : Progress) → IsSearch b limit p → (n : ℕ) → AllReached b p n
all-reached b limit p search zero i key depth there depth_is near =
    let (origin, come) = come-at b limit p search i key depth there depth_is in
    reached-first b p key depth near origin come
all-reached b limit p search (suc n) i key depth there depth_is near =
    let (origin, come) = come-at b limit p search i key depth there depth_is in
    reached-come b p n (all-reached b limit p search n) key depth (omega (arith, near)) origin come

-- each known state is reached with no more pushes than it is deep
pub state-reached : (b : BoardView) (limit : ℕ) (p : Progress) → IsSearch b limit p → (i : ℕ) (key : Key) (depth : ℕ) → IsAt p.table key i
    → slice_get (values_of p.table) i ≡ Some depth → IsReached b key depth
state-reached b limit p search i key depth there depth_is = all-reached b limit p search depth i key depth there depth_is (omega arith)

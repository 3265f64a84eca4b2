-- What a search answers, finished or cut off.
use Rattle.std.proofs.Common.{ℕ, ◌≡◌, ◌<◌, ◌≤◌, ◌+◌, ◌∙◌, inl, inr, refl, sym, ap, subst, Bool, true, false, true≢false, List, [], Option, Some, None, Result, Ok, Err, All, IfOk, IfSome, MatchBool, arith, length}
use Rattle.std.proofs.lemmas.Bool.{cases_lt}
use Rattle.sok_rules.specs.declared.cell.Dir.{Dir}
use Rattle.sok_rules.specs.Play.{AtLeast}
use Rattle.sok_rules.specs.States.{MoreStatesThan}
use Rattle.sok_rules.specs.Squares.{Rows}
use Rattle.sok_board.specs.Area.{BoardView, IsAccepted, boxes_of}
use Rattle.sok_board.proofs.OneRefusal.{IsAccepted-one}
use Rattle.sok_price.specs.Prices.{Priced}
use Rattle.sok_cert.specs.Claim.{Claim}
use Rattle.sok_cert.specs.Claim.TheVariants as claim
use Rattle.sok_cert.specs.Certificate.{Certificate}
use Rattle.sok_cert.specs.Entry.{Entry}
use Rattle.sok_cert.specs.Text.{FitsClaim, FitsEntry, number_limit}
use Rattle.sok_state.specs.declared.push.Push.{Push}
use Rattle.sok_cert.specs.Closed.{IsClosed, IsTrueOf}
use Rattle.sok_search.specs.declared.finding.Finding.{Finding}
use Rattle.sok_search.specs.declared.finding.Finding.TheVariants as finding
use Rattle.sok_search.specs.Findings.{IsFewer, IsFinding, IsFindingWithProof, claim_of, found_of, improved_of}
use Rattle.sok_search.specs.Finished.{AreFirstEntries, AreTaken, IsOfBest}
use Rattle.sok_search.specs.Halted.{IsLeastOpen, IsOpenAt}
use Rattle.sok_search.specs.Limits.{state_limit}
use Rattle.sok_search.specs.Outcomes.{Certifies, OfClaim, IsCutShort, IsFoundWithProof, IsFoundWithin, IsImproved, IsImprovedWithProof, IsLeastSolution, IsProvedSolved, ShowsLeast}
use Rattle.sok_search.specs.Searches.{Progress, IsBeaten, IsSearch}
use Rattle.sok_search.specs.Walkthroughs.{IsSolvedAt, IsSolvedWith, IsSolvedWithin, IsSolvingTrace, TracesBack}
use Rattle.sok_search.proofs.Certified.{beaten-at_most, done-finished, done-least}
use Rattle.sok_search.proofs.Finishing.{entries-closed}
use Rattle.sok_search.proofs.Halting.{least-covers}
use Rattle.sok_search.proofs.StatesByIndex.{key-within, noted-at}
use Rattle.sok_search.proofs.Shown.{shows}

-- the index of a solved state is one of the notes
pub solved-noted : (b : BoardView) (limit : ℕ) (p : Progress) (k index : ℕ) → IsSearch b limit p → IsSolvedAt b p k index → index < length p.notes
solved-noted b limit p k index search solved =
    let within = key-within p index solved.key solved.there in
    let notes = search.a_note_each in
    omega (arith, within, notes)

pub solving-trace : (b : BoardView) (limit : ℕ) (p : Progress) (k index : ℕ) (trace : List Push) → IsSearch b limit p → IsSolvedAt b p k index
    → TracesBack p index trace → IsSolvingTrace b trace
solving-trace b limit p k index trace search solved traces =
    let one = traces b limit solved.key solved.depth search solved.there solved.depth_is in
    record { from = one.from; is = one.is; to = solved.key; lead = one.lead; solved = solved.solved }

-- a state is less deep than there are states
less-deep : (b : BoardView) (limit : ℕ) (p : Progress) (k index : ℕ) → IsSearch b limit p → (solved : IsSolvedAt b p k index) → solved.depth < length p.table
less-deep b limit p k index search solved =
    let within = key-within p index solved.key solved.there in
    let (note, note_is, noted) = noted-at b limit p search index solved.key solved.depth solved.there solved.depth_is in
    let shallow = noted.shallow in
    omega (arith, shallow, within)

pub solved-within : (b : BoardView) (limit : ℕ) (p : Progress) (k index : ℕ) (trace : List Push) (w : List Dir) → IsSearch b limit p → IsSolvedAt b p k index
    → TracesBack p index trace → IsSolvedWith b (length trace) w
    → IsSolvedWithin b (length p.table) k w
solved-within b limit p k index trace w search solved traces with_pushes =
    let few = (traces b limit solved.key solved.depth search solved.there solved.depth_is).few in
    let shallow = solved.shallow in
    let less = less-deep b limit p k index search solved in
    record { n = length trace; solved = with_pushes; near = omega (arith, few, shallow); small = omega (arith, few, less) }

-- what is claimed has a text
pub fits-claim : (upper : Option ℕ) → IfSome upper (λ k. k ≤ number_limit) → FitsClaim (claim_of upper)
fits-claim None small = tt
fits-claim (Some k) small = small

module _ (b : BoardView) (accepted : IsAccepted b) (limit : ℕ) (p : Progress) (search : IsSearch b limit p) where
  -- a whole search gives a closed list
  pub certifies : p.frame.aim.whole ≡ true → (shown : Claim) (entries : List Entry) → FitsClaim shown → AreFirstEntries b shown p (length p.table) entries
      → All FitsEntry entries → Certifies b.rows limit shown entries
  certifies whole shown entries fits are fit =
      let closed = entries-closed b accepted limit shown p entries search whole are in
      record {
        fits = record { claim_fits = fits; entries_fit = fit };
        closed = λ c rows other. subst (λ board. IsClosed board shown entries) (IsAccepted-one b c (sym rows) accepted other) closed;
        few = let few = search.few in let count = are.as_many in omega (arith, few, count);
      }

  -- nothing waits
  module _ (none : p.queue ≡ []) where
    shows-best : (best : Option ℕ) → p.best ≡ best → IsTrueOf b.rows (claim_of best)
    shows-best best is = shows b accepted limit p search (claim_of best) (done-finished b limit p (claim_of best) search none (ap claim_of (sym is)))
        (λ n beaten. beaten-at_most best n (subst (λ o. IsBeaten o n) is (search.upper n beaten)))

    -- the solution that is known beside it is the best
    pub no-better : p.best ≡ p.frame.aim.upper → IsTrueOf b.rows (claim_of p.frame.aim.upper)
    no-better same = shows-best p.frame.aim.upper same

    -- the letters have no more pushes than the best, and the list says that none have fewer
    pub least-solution : (k : ℕ) (w : List Dir) → p.best ≡ Some k → IsSolvedWithin b (length p.table) k w → IsLeastSolution b.rows w k
    least-solution k w is within =
        let least : AtLeast b.rows k = shows-best (Some k) is in
        let solves = within.solved.solves in
        let above = least w solves in
        let counted = within.solved.counted in
        let near = within.near in
        record {
          solves = solves;
          counted = omega (arith, above, counted, near);
          fewest = record { least = least; reached = (w, solves, omega (arith, above, counted, near)) };
          ends = within.solved.ends;
        }

    -- so they have fewer pushes than there are states
    pub below-states : (k : ℕ) (w : List Dir) → p.best ≡ Some k → IsSolvedWithin b (length p.table) k w → k < length p.table
    below-states k w is within =
        let exact = (least-solution k w is within).counted in
        let counted = within.solved.counted in
        let below = within.small in
        omega (arith, exact, counted, below)

    pub shown-solved : p.frame.aim.whole ≡ true → length p.table ≤ state_limit → (k : ℕ) (w : List Dir) (entries : List Entry) → k < length p.table
        → IsLeastSolution b.rows w k → AreFirstEntries b (claim.Pushes k) p (length p.table) entries → All FitsEntry entries → IsProvedSolved b.rows limit w k entries
    shown-solved whole small k w entries below solution are fit =
        record { solution = solution; certified = certifies whole (claim.Pushes k) entries (omega (arith, below, small)) are fit }

    -- its best has no more pushes than a solution that is known
    within-upper : (best : Option ℕ) → p.best ≡ best → (u : ℕ) → p.frame.aim.upper ≡ Some u → IsBeaten best u
    within-upper best is u upper = subst (λ o. IsBeaten o u) is (search.upper u (subst (λ o. IsBeaten o u) (sym upper) (omega arith)))

    pub best-none : (upper : Option ℕ) → p.frame.aim.upper ≡ upper → p.best ≡ None → p.best ≡ upper
    best-none None alone is = is
    best-none (Some u) beside is = absurd (within-upper None is u beside)

    pub best-beaten : (k : ℕ) → p.best ≡ Some k → (upper : Option ℕ) → p.frame.aim.upper ≡ upper → IsBeaten upper k → p.best ≡ upper
    best-beaten k is None alone beaten = absurd beaten
    best-beaten k is (Some u) beside beaten =
        let within : k ≤ u = within-upper (Some k) is u beside in
        let same : k ≡ u = omega (arith, within, beaten) in
        is ∙ ap Some same

    -- what it finds, with the entries that were taken for the claim of its best
    pub concluded : p.frame.aim.whole ≡ true → length p.table ≤ state_limit → IfSome p.frame.aim.upper (λ k. k ≤ number_limit) → (Took : List Entry → Type 0)
        (shown : Claim) → shown ≡ claim_of p.best → AreTaken Took b shown p (length p.table) → (wanted : Bool) (found : Finding)
        → IsFinding b.rows limit p.frame.aim.upper found → IsOfBest p found → IsFindingWithProof Took b.rows limit wanted p.frame.aim.upper found
    concluded whole small fits Took shown claims taken wanted (finding.Solved dirs k) (solution, within, fewer) (best, below) = (
      taken.entries,
      taken.took,
      shown-solved whole small k dirs.items taken.entries below solution
          (subst (λ c. AreFirstEntries b c p (length p.table) taken.entries) (claims ∙ ap claim_of best) taken.first) taken.fit,
      fewer,
    )
    concluded whole small fits Took shown claims taken wanted finding.NoBetter is best = (
      taken.entries,
      taken.took,
      is,
      certifies whole (claim_of p.frame.aim.upper) taken.entries (fits-claim p.frame.aim.upper fits)
          (subst (λ c. AreFirstEntries b c p (length p.table) taken.entries) (claims ∙ ap claim_of best) taken.first) taken.fit,
    )
    concluded whole small fits Took shown claims taken wanted (finding.Limit states least) is none = absurd none

  -- it was cut off, and so much is needed in each open state
  at-least : (least : ℕ) → ((i n : ℕ) → i < length p.table → IsOpenAt p i n → least ≤ n) → ((n : ℕ) → IsBeaten p.frame.aim.upper n → least ≤ n) → AtLeast b.rows least
  at-least least below beside = shows b accepted limit p search (claim.Pushes least) (done-least b limit p least search below) beside

  -- no open state needs fewer than the solution has that is known
  pub no-fewer : (least : ℕ) → IsLeastOpen p least → (upper : Option ℕ) → p.frame.aim.upper ≡ upper → IsBeaten upper least → IsTrueOf b.rows (claim_of upper)
  no-fewer least of_all None alone beaten = absurd beaten
  no-fewer least of_all (Some u) beside above = at-least u (λ i n within at. let enough = of_all.below i n within at in omega (arith, enough, above))
      (λ n beaten. subst (λ o. IsBeaten o n) beside beaten)

  module _ (more : MoreStatesThan b.rows limit) (least : ℕ) (of_all : IsLeastOpen p least) where
    pub cut-short : (upper : Option ℕ) → p.frame.aim.upper ≡ upper → ((n : ℕ) → IsBeaten upper n → least ≤ n) → IsCutShort b.rows limit limit least
    cut-short upper is beside = record {
      past = record { more = more; is = refl };
      at_least = at-least least of_all.below (λ n beaten. beside n (subst (λ o. IsBeaten o n) is beaten));
      covers = λ c rows other u v n priced. least-covers b accepted limit p search least of_all u v n
          (subst (λ board. Priced board (boxes_of board) u v n) (sym (IsAccepted-one b c (sym rows) accepted other)) priced);
      small = of_all.small;
    }

    pub shown-least : p.frame.aim.whole ≡ true → (entries : List Entry) → AreFirstEntries b (claim.Pushes least) p (length p.table) entries
        → All FitsEntry entries → Certifies b.rows limit (claim.Pushes least) entries
    shown-least whole entries are fit = certifies whole (claim.Pushes least) entries of_all.small are fit

-- so many pushes and none more are beaten, or are fewer
pub and-none : (upper : Option ℕ) (k : ℕ) → IsBeaten upper (k + 0) → IsBeaten upper k
and-none None k beaten = beaten
and-none (Some u) k beaten = omega (arith, beaten)

pub not-beaten : (upper : Option ℕ) (k : ℕ) → (IsBeaten upper (k + 0) → ⊥) → IsFewer upper k
not-beaten None k far = tt
not-beaten (Some u) k far = elim (cases_lt k u) [ inl below ↦ below | inr above ↦ absurd (far (omega (arith, above))) ]

pub fewer-beaten : (upper : Option ℕ) (k : ℕ) → IsFewer upper k → (n : ℕ) → IsBeaten upper n → k ≤ n
fewer-beaten None k fewer n beaten = absurd beaten
fewer-beaten (Some u) k fewer n beaten = omega (arith, fewer, beaten)

-- what is found where no solution is known, and what is found beside one
pub found-alone : (rows : Rows) (limit : ℕ) (finding : Finding) → IsFinding rows limit None finding → IsFoundWithin rows limit (found_of finding)
found-alone rows limit (finding.Solved dirs pushes) (solution, within, fewer) = (solution, within)
found-alone rows limit finding.NoBetter is = is
found-alone rows limit (finding.Limit states least) (cut, fewer) = cut

pub found-beside : (rows : Rows) (limit best : ℕ) (finding : Finding) → IsFinding rows limit (Some best) finding → IsImproved rows limit best (improved_of finding)
found-beside rows limit best (finding.Solved dirs pushes) is = is
found-beside rows limit best finding.NoBetter is = is
found-beside rows limit best (finding.Limit states least) is = is

-- the same with the entries that were taken
pub proved-alone : (Took : List Entry → Type 0) (rows : Rows) (limit : ℕ) (wanted : Bool) (finding : Finding)
    → IsFindingWithProof Took rows limit wanted None finding → IsFoundWithProof Took rows limit wanted (found_of finding)
proved-alone Took rows limit wanted (finding.Solved dirs pushes) (entries, took, solved, fewer) = (entries, took, solved)
proved-alone Took rows limit wanted finding.NoBetter (entries, took, unsolvable, certified) =
    (entries, took, record { unsolvable = unsolvable; certified = certified })
proved-alone Took rows limit wanted (finding.Limit states least) (cut, fewer, shown) = (cut, shown)

pub proved-beside : (Took : List Entry → Type 0) (rows : Rows) (limit best : ℕ) (wanted : Bool) (finding : Finding)
    → IsFindingWithProof Took rows limit wanted (Some best) finding → IsImprovedWithProof Took rows limit wanted best (improved_of finding)
proved-beside Took rows limit best wanted (finding.Solved dirs pushes) is = is
proved-beside Took rows limit best wanted finding.NoBetter is = is
proved-beside Took rows limit best wanted (finding.Limit states least) is = is

-- what is true of an answer by two clauses
pub both-found : {X E : Type 0} (r : Result X E) (P Q R : X → Type 0) → ((x : X) → P x → Q x → R x) → IfOk r P → IfOk r Q → IfOk r R
both-found (Ok x) P Q R both first second = both x first second
both-found (Err e) P Q R both first second = tt

-- what is there where it is wanted, and what is there where it is not
pub wanted-so : (P Q : Type 0) (wanted : Bool) → wanted ≡ true → P → MatchBool wanted P Q
wanted-so P Q true is there = there
wanted-so P Q false is there = absurd (true≢false (sym is))

pub wanted-not : (P Q : Type 0) (wanted : Bool) → wanted ≡ false → Q → MatchBool wanted P Q
wanted-not P Q true is there = absurd (true≢false is)
wanted-not P Q false is there = there

-- the entries that were taken show as much as those that were kept
pub kept-shown : (Shows : List Entry → Type 0) (kept : List Entry) → (entries : List Entry) × (kept ≡ entries) × Shows entries → Shows kept
kept-shown Shows kept (entries, same, shown) = subst Shows (sym same) shown

pub kept-least : (rows : Rows) (limit : ℕ) (kept : List Entry) (wanted : Bool) (least : ℕ) → wanted ≡ true
    → MatchBool wanted ((entries : List Entry) × (kept ≡ entries) × Certifies rows limit (claim.Pushes least) entries) (kept ≡ [])
    → Certifies rows limit (claim.Pushes least) kept
kept-least rows limit kept true least is shown = kept-shown (Certifies rows limit (claim.Pushes least)) kept shown
kept-least rows limit kept false least is none = absurd (true≢false (sym is))

pub some-kept : (rows : Rows) (limit : ℕ) (wanted : Bool) (least : ℕ) (certificate : Certificate) → wanted ≡ true
    → OfClaim (claim.Pushes least) (Certifies rows limit (claim.Pushes least)) certificate → ShowsLeast rows limit wanted least (Some certificate)
some-kept rows limit true least certificate is shown = shown
some-kept rows limit false least certificate is shown = absurd (true≢false (sym is))

pub none-kept : (rows : Rows) (limit : ℕ) (wanted : Bool) (least : ℕ) → wanted ≡ false → ShowsLeast rows limit wanted least None
none-kept rows limit true least is = absurd (true≢false is)
none-kept rows limit false least is = refl

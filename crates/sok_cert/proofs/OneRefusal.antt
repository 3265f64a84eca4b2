-- A list of entries is refused for one fault.
use Rattle.std.proofs.Common.{ℕ, ◌≡◌, ◌≢◌, ◌<◌, ◌⊎◌, inl, inr, refl, sym, ap, ◌∙◌, subst, List, true, false, true≢false, arith, length, slice_get}
use Rattle.std.proofs.lemmas.Bool.{cases_eq, cases_lt}
use Rattle.std.proofs.lemmas.Option.{same_Some, slice_get_within}
use Rattle.sok_rules.proofs.Refusing.{Names, Names-one, OrLater, OrLater-one}
use Rattle.sok_board.specs.Area.{BoardView}
use Rattle.sok_state.specs.declared.push.Push.{Push}
use Rattle.sok_state.proofs.Order.{Precedes-total}
use Rattle.sok_entry.specs.declared.claim.Claim.{Claim}
use Rattle.sok_entry.specs.declared.entry.Entry.{Entry}
use Rattle.sok_entry.specs.declared.fault.CertFault.{CertFault}
use Rattle.sok_entry.specs.declared.fault.CertFault.TheVariants as fault
use Rattle.sok_cert.specs.Closed.{IsClosed, IsPosition, IsStarter}
use Rattle.sok_cert.specs.Refusals.{AreFine, IsFaulty, IsFine, IsFirstOpen, IsNew, IsOpen, IsRefused, IsRepeated, IsSolved, IsUnreasoned}
use Rattle.sok_cert.proofs.Closing.{closed-refused, reason-is}

-- what is wrong with an entry, and the fault that names it
abbrev ByReason : BoardView → Claim → List Entry → ℕ → Entry → CertFault → Type 0
ByReason b claim entries i e =
    OrLater (Names (fault.SolvedEntry i) (IsSolved b entries i e)) (IsUnreasoned b claim entries i e) (λ f. f ≡ fault.BadReason i)

abbrev ByState : BoardView → Claim → List Entry → ℕ → Entry → CertFault → Type 0
ByState b claim entries i e = OrLater (Names (fault.Duplicate i) (IsRepeated b entries i e)) (IsNew b entries i e) (ByReason b claim entries i e)

abbrev ByEntry : BoardView → Claim → List Entry → ℕ → Entry → CertFault → Type 0
ByEntry b claim entries i e = OrLater (Names (fault.BadEntry i) (IsPosition b e → ⊥)) (IsPosition b e) (ByState b claim entries i e)

-- the fault of the first open push
abbrev AtFirstOpen : BoardView → List Entry → CertFault → Type 0
AtFirstOpen b entries f = (i : ℕ) × (push : Push) × (f ≡ fault.OpenPush i push.from push.dir) × IsFirstOpen b entries i push

-- what is wrong with entries that are fine, each by itself
abbrev ByAll : BoardView → List Entry → CertFault → Type 0
ByAll b entries =
    OrLater (Names fault.Start ((e : Entry) → IsStarter b entries e → ⊥)) ((e : Entry) × IsStarter b entries e) (AtFirstOpen b entries)

abbrev ByOrder : BoardView → Claim → List Entry → CertFault → Type 0
ByOrder b claim entries f =
    ((i : ℕ) × IsFaulty b claim entries i (λ e. ByEntry b claim entries i e f)) ⊎ (AreFine b claim entries (length entries) × ByAll b entries f)

faulty-as : {P Q : Entry → Type 0} (b : BoardView) (claim : Claim) (entries : List Entry) (i : ℕ) → ((e : Entry) → P e → Q e) → IsFaulty b claim entries i P
    → IsFaulty b claim entries i Q
faulty-as b claim entries i to faulty = record { entry = faulty.entry; there = faulty.there; before = faulty.before; fault = to faulty.entry faulty.fault }

by_order : (b : BoardView) (claim : Claim) (entries : List Entry) (f : CertFault) → f ≢ fault.Memory → IsRefused b claim entries f → ByOrder b claim entries f
by_order b claim entries (fault.BadEntry i) ample faulty = inl (i, faulty-as b claim entries i (λ e misplaced. inl (refl, misplaced)) faulty)
by_order b claim entries (fault.Duplicate i) ample faulty =
    inl (i, faulty-as b claim entries i (λ e repeated. inr (repeated.position, inl (refl, repeated))) faulty)
by_order b claim entries (fault.SolvedEntry i) ample faulty =
    inl (i, faulty-as b claim entries i (λ e solved. inr (solved.position, inr (solved.new, inl (refl, solved)))) faulty)
by_order b claim entries (fault.BadReason i) ample faulty =
    inl (i, faulty-as b claim entries i (λ e fails. inr (fails.position, inr (fails.new, inr (fails, refl)))) faulty)
by_order b claim entries fault.Start ample (fine, none) = inr (fine, inl (refl, none))
by_order b claim entries (fault.OpenPush i square d) ample (fine, starter, first) =
    let push : Push = record { from = square; dir = d } in inr (fine, inr (starter, (i, push, refl, first)))
by_order b claim entries fault.Header ample none = absurd none
by_order b claim entries (fault.Line n) ample none = absurd none
by_order b claim entries fault.Truncated ample none = absurd none
by_order b claim entries fault.Memory ample refused = absurd (ample refl)

repeated-new : (b : BoardView) (entries : List Entry) (i : ℕ) (e : Entry) → IsRepeated b entries i e → IsNew b entries i e → ⊥
repeated-new b entries i e repeated new = new repeated.place repeated.earlier repeated.before repeated.there repeated.same

ByReason-one : (b : BoardView) (claim : Claim) (entries : List Entry) (i : ℕ) (e : Entry) (f g : CertFault) → ByReason b claim entries i e f
    → ByReason b claim entries i e g → f ≡ g
ByReason-one b claim entries i e f g =
    OrLater-one (Names (fault.SolvedEntry i) (IsSolved b entries i e)) (IsUnreasoned b claim entries i e) (λ h. h ≡ fault.BadReason i) f g
    (λ h (_, solved) fails. true≢false (sym solved.expanded ∙ fails.barring)) (Names-one (fault.SolvedEntry i) (IsSolved b entries i e) f g)
    (λ is also. is ∙ sym also)

ByState-one : (b : BoardView) (claim : Claim) (entries : List Entry) (i : ℕ) (e : Entry) (f g : CertFault) → ByState b claim entries i e f
    → ByState b claim entries i e g → f ≡ g
ByState-one b claim entries i e f g =
    OrLater-one (Names (fault.Duplicate i) (IsRepeated b entries i e)) (IsNew b entries i e) (ByReason b claim entries i e) f g
    (λ h (_, repeated). repeated-new b entries i e repeated) (Names-one (fault.Duplicate i) (IsRepeated b entries i e) f g)
    (ByReason-one b claim entries i e f g)

ByEntry-one : (b : BoardView) (claim : Claim) (entries : List Entry) (i : ℕ) (e : Entry) (f g : CertFault) → ByEntry b claim entries i e f
    → ByEntry b claim entries i e g → f ≡ g
ByEntry-one b claim entries i e f g =
    OrLater-one (Names (fault.BadEntry i) (IsPosition b e → ⊥)) (IsPosition b e) (ByState b claim entries i e) f g
    (λ h (_, misplaced) position. misplaced position) (Names-one (fault.BadEntry i) (IsPosition b e → ⊥) f g) (ByState-one b claim entries i e f g)

-- an entry with a fault is not fine
ByEntry-fine : (b : BoardView) (claim : Claim) (entries : List Entry) (i : ℕ) (e : Entry) (f : CertFault) → ByEntry b claim entries i e f
    → IsFine b claim entries i e → ⊥
ByEntry-fine b claim entries i e f (inl (_, misplaced)) fine = misplaced fine.position
ByEntry-fine b claim entries i e f (inr (_, inl (_, repeated))) fine = repeated-new b entries i e repeated fine.new
ByEntry-fine b claim entries i e f (inr (_, inr (_, inl (_, solved)))) fine = reason-is b claim e true solved.expanded fine.reasoned solved.solved
ByEntry-fine b claim entries i e f (inr (_, inr (_, inr (fails, _)))) fine = fails.fails (reason-is b claim e false fails.barring fine.reasoned)

-- so it is not among entries that are fine
faulty-fine : (b : BoardView) (claim : Claim) (entries : List Entry) (i n : ℕ) (f : CertFault)
    → IsFaulty b claim entries i (λ e. ByEntry b claim entries i e f) → i < n → AreFine b claim entries n → ⊥
faulty-fine b claim entries i n f faulty below fine = ByEntry-fine b claim entries i faulty.entry f faulty.fault (fine i faulty.entry below faulty.there)

faulty-one : (b : BoardView) (claim : Claim) (entries : List Entry) (i j : ℕ) (f g : CertFault)
    → IsFaulty b claim entries i (λ e. ByEntry b claim entries i e f) → IsFaulty b claim entries j (λ e. ByEntry b claim entries j e g) → f ≡ g
faulty-one b claim entries i j f g first second = elim (cases_eq i j) [
  | inr other ↦ elim (cases_lt i j) [
    | inl below ↦ absurd (faulty-fine b claim entries i j f first below second.before)
    | inr past ↦ absurd (faulty-fine b claim entries j i g second (omega (arith, other, past)) first.before)
  ]
  | inl same ↦
      let entry_is : second.entry ≡ first.entry = same_Some second.entry first.entry (sym second.there ∙ ap (slice_get entries) (sym same) ∙ first.there) in
      let here : ByEntry b claim entries i second.entry g = subst (λ n. ByEntry b claim entries n second.entry g) (sym same) second.fault in
      ByEntry-one b claim entries i first.entry f g first.fault (subst (λ e. ByEntry b claim entries i e g) entry_is here)
]

-- there is one first open push
first_open-one : (b : BoardView) (entries : List Entry) (i j : ℕ) (p q : Push) → IsFirstOpen b entries i p → IsFirstOpen b entries j q
    → fault.OpenPush i p.from p.dir ≡ fault.OpenPush j q.from q.dir
first_open-one b entries i j p q first second = elim (cases_eq i j) [
  | inr other ↦ elim (cases_lt i j) [
    | inl below ↦ absurd (second.earlier_entries i first.entry p below first.there first.is_open)
    | inr past ↦ absurd (first.earlier_entries j second.entry q (omega (arith, other, past)) second.there second.is_open)
  ]
  | inl same ↦
      let entry_is : second.entry ≡ first.entry = same_Some second.entry first.entry (sym second.there ∙ ap (slice_get entries) (sym same) ∙ first.there) in
      elim (Precedes-total p q) [
        | inl push_is ↦ λ k. fault.OpenPush (same k) (push_is k).from (push_is k).dir
        | inr (inl before) ↦ absurd (second.earlier_pushes p before (subst (λ e. IsOpen b entries e p) (sym entry_is) first.is_open))
        | inr (inr after) ↦ absurd (first.earlier_pushes q after (subst (λ e. IsOpen b entries e q) entry_is second.is_open))
      ]
]

ByAll-one : (b : BoardView) (entries : List Entry) (f g : CertFault) → ByAll b entries f → ByAll b entries g → f ≡ g
ByAll-one b entries f g =
    OrLater-one (Names fault.Start ((e : Entry) → IsStarter b entries e → ⊥)) ((e : Entry) × IsStarter b entries e) (AtFirstOpen b entries) f g
    (λ h (_, none) (e, starter). none e starter) (Names-one fault.Start ((e : Entry) → IsStarter b entries e → ⊥) f g)
    (λ (i, p, is, first) (j, q, also, second). is ∙ first_open-one b entries i j p q first second ∙ sym also)

-- no entry is faulty where all are fine
faulty-all : (b : BoardView) (claim : Claim) (entries : List Entry) (i : ℕ) (f : CertFault) → IsFaulty b claim entries i (λ e. ByEntry b claim entries i e f)
    → AreFine b claim entries (length entries) → ⊥
faulty-all b claim entries i f faulty fine = faulty-fine b claim entries i (length entries) f faulty (slice_get_within entries i faulty.entry faulty.there) fine

ByOrder-one : (b : BoardView) (claim : Claim) (entries : List Entry) (f g : CertFault) → ByOrder b claim entries f → ByOrder b claim entries g → f ≡ g
ByOrder-one b claim entries f g (inl (i, first)) (inl (j, second)) = faulty-one b claim entries i j f g first second
ByOrder-one b claim entries f g (inl (i, faulty)) (inr (fine, _)) = absurd (faulty-all b claim entries i f faulty fine)
ByOrder-one b claim entries f g (inr (fine, _)) (inl (j, faulty)) = absurd (faulty-all b claim entries j g faulty fine)
ByOrder-one b claim entries f g (inr (_, later)) (inr (_, other)) = ByAll-one b entries f g later other

-- where memory suffices, a list is refused for one fault
pub IsRefused-one : (b : BoardView) (claim : Claim) (entries : List Entry) (f g : CertFault) → f ≢ fault.Memory → g ≢ fault.Memory
    → IsRefused b claim entries f → IsRefused b claim entries g → f ≡ g
IsRefused-one b claim entries f g ample enough refused also =
    ByOrder-one b claim entries f g (by_order b claim entries f ample refused) (by_order b claim entries g enough also)

-- no list is both refused and closed
pub IsRefused-closed : (b : BoardView) (claim : Claim) (entries : List Entry) (f : CertFault) → f ≢ fault.Memory → IsClosed b claim entries
    → IsRefused b claim entries f → ⊥
IsRefused-closed b claim entries f ample closed refused = ample (closed-refused b claim entries closed f refused)

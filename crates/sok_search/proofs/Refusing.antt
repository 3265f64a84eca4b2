-- What is answered of a level that is refused.
use Rattle.std.proofs.Common.{ℕ, ◌≡◌, ◌<◌, ◌≤◌, ◌∙◌, inl, inr, refl, sym, ap, subst, Result, Ok, Err, IfOk, arith, true≢false}
use Rattle.std.specs.Result.{IsErrAnd, IsOk}
use Rattle.std.proofs.lemmas.Result.{err_from_is_err_and}
use Rattle.std.proofs.lemmas.Bool.{cases_lt}
use Rattle.sok_rules.specs.Squares.{Rows}
use Rattle.sok_board.specs.declared.fault.BoardFault.{BoardFault}
use Rattle.sok_board.specs.declared.fault.BoardFault.TheVariants as board
use Rattle.sok_board.specs.Area.{BoardView, IsAccepted}
use Rattle.sok_board.specs.Refusals.{IsRefused}
use Rattle.sok_board.proofs.OneRefusal.{IsRefused-acceptable}
use Rattle.sok_search.specs.declared.fault.SolveFault.{SolveFault}
use Rattle.sok_search.specs.declared.fault.SolveFault.TheVariants as solve
use Rattle.sok_search.specs.Faults.{IsAcceptedWithin, IsBadLimit, IsRefusal, TellsFault, of_board}
use Rattle.sok_search.specs.Limits.{state_limit}

-- a limit that is not refused
pub in-range : (limit : ℕ) → (IsBadLimit limit → ⊥) → (0 < limit) × (limit ≤ state_limit)
in-range limit good = (
  elim (cases_lt 0 limit) [ inl some ↦ some | inr none ↦ absurd (good (inl (omega (arith, none)))) ],
  elim (cases_lt state_limit limit) [ inl above ↦ absurd (good (inr above)) | inr below ↦ below ],
)

-- what is refused of a board is refused
refusal-board : (rows : Rows) (limit : ℕ) (fault : BoardFault) → IsRefused rows fault → IsRefusal rows limit (of_board fault)
refusal-board rows limit board.Memory refused = tt
refusal-board rows limit fault refused = (λ same. cc, refused)

-- and is no bad limit
good-board : (fault : BoardFault) → of_board fault ≡ solve.BadLimit → ⊥
good-board board.Memory e = cc
good-board fault e = cc

abbrev fails : (A : Type 0) → SolveFault → Result A SolveFault
fails A fault = Err fault

same_fault : {A : Type 0} (f g : SolveFault) → fails A f ≡ fails A g → f ≡ g
same_fault f g e = cc

no_ok : (A : Type 0) (f : SolveFault) → IsOk (fails A f) → ⊥
no_ok A f e = true≢false (sym e)

pub told-board : (A : Type 0) (rows : Rows) (limit : ℕ) → (IsBadLimit limit → ⊥) → (fault : BoardFault) → IsRefused rows fault
    → TellsFault rows limit (fails A (of_board fault))
told-board A rows limit good fault refused = record {
  bad_limit = (λ e. absurd (good-board fault (same_fault (of_board fault) solve.BadLimit e)), λ bad. absurd (good bad));
  refused = refusal-board rows limit fault refused;
  exact = λ memory _. (
    λ ok. absurd (no_ok A (of_board fault) ok),
    λ accepted. absurd (IsRefused-acceptable rows fault (λ same. memory (ap (λ f. fails A (of_board f)) same)) refused accepted),
  );
}

pub told-memory : (A : Type 0) (rows : Rows) (limit : ℕ) → (IsBadLimit limit → ⊥) → TellsFault rows limit (fails A solve.Memory)
told-memory A rows limit good = record {
  bad_limit = (λ e. absurd (good-board board.Memory (same_fault solve.Memory solve.BadLimit e)), λ bad. absurd (good bad));
  refused = tt;
  exact = λ memory _. absurd (memory refl);
}

-- a fault that another call told
pub told-also : (A B : Type 0) (rows : Rows) (limit : ℕ) (fault : SolveFault) → TellsFault rows limit (fails A fault) → TellsFault rows limit (fails B fault)
told-also A B rows limit fault tells = record {
  bad_limit = (
    λ e. tells.bad_limit.0 (ap (fails A) (same_fault fault solve.BadLimit e)),
    λ bad. ap (fails B) (same_fault fault solve.BadLimit (tells.bad_limit.1 bad)),
  );
  refused = tells.refused;
  exact = λ memory good. let told = tells.exact (λ e. memory (ap (fails B) (same_fault fault solve.Memory e)))
      (λ e. good (ap (fails B) (same_fault fault solve.BadLimit e))) in (λ ok. absurd (no_ok B fault ok), λ may. absurd (no_ok A fault (told.1 may)));
}

-- what is told of a fault is told where it is handed on
pub handed-on : {A : Type 0} (rows : Rows) (limit : ℕ) (fault : SolveFault) (answer : Result A SolveFault) → IsErrAnd answer (λ told. told ≡ fault)
    → TellsFault rows limit (fails A fault) → TellsFault rows limit answer
handed-on {A} rows limit fault answer error =
    let (told, is, gives) = err_from_is_err_and answer error in
    subst (TellsFault rows limit) (sym (is ∙ ap (fails A) gives))

-- and there is no answer
pub no-answer : {A : Type 0} (P : A → Type 0) (Q : SolveFault → Type 0) (answer : Result A SolveFault) → IsErrAnd answer Q → IfOk answer P
no-answer {A} P Q answer error =
    let (told, is, _) = err_from_is_err_and answer error in
    subst (λ (r : Result A SolveFault). IfOk r P) (sym is) tt

-- an answer is no error
pub no-fault : {A : Type 0} (answer : A) (told : SolveFault) → Ok answer ≡ Err told → ⊥
no-fault answer told e = cc

-- an answer in the place of another one
pub told-alike : (A B : Type 0) (rows : Rows) (limit : ℕ) (one : A) (other : B) → TellsFault rows limit (Ok one) → TellsFault rows limit (Ok other)
told-alike A B rows limit one other tells = record {
  bad_limit = (λ e. absurd (no-fault other _ e), λ bad. absurd (no-fault one _ (tells.bad_limit.1 bad)));
  refused = tt;
  exact = λ _ _. (λ _. (tells.exact (λ e. no-fault one _ e) (λ e. no-fault one _ e)).0 refl, λ _. refl);
}

-- a limit within the range is not refused
pub good-within : (rows : Rows) (limit : ℕ) (b : BoardView) → IsAcceptedWithin rows limit b → IsBadLimit limit → ⊥
good-within rows limit b within (inl zero) = let positive = within.positive in omega (arith, positive, zero)
good-within rows limit b within (inr above) = let small = within.small in omega (arith, small, above)

-- what is told where there is an answer
pub told-answer : {A : Type 0} (rows : Rows) (limit : ℕ) (b : BoardView) (answer : A) → IsAcceptedWithin rows limit b → TellsFault rows limit (Ok answer)
told-answer {A} rows limit b answer within = record {
  bad_limit = (λ e. absurd (no-fault answer _ e), λ bad. absurd (good-within rows limit b within bad));
  refused = tt;
  exact = λ _ _. (λ _. (b.area, subst (λ (level : Rows). IsAccepted (record { rows = level; area = b.area })) within.rows_are within.accepted), λ _. refl);
}

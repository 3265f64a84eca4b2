-- Calls, one after another, fold the commands that they accept.
use Rattle.std.proofs.Common.{◌≡◌, ◌⊎◌, inl, inr, refl, subst, arith, Result, Ok, Err, IfErr, IfOk, IsNone, OnOk}
use Rattle.sqlite.specs.State.{State, HasCleanDisk}
use Rattle.sok_book.specs.declared.fault.BookFault.{BookFault}
use Rattle.sok_book.specs.declared.fault.BookFault.TheVariants.{NoLevel}
use Rattle.sok_book.specs.Books.{Book, IsTrueBook, page_at}
use Rattle.sok_book.specs.Commands.{OneCommand, add, judge, offer, prove}
use Rattle.sok_book.specs.Laws as laws
use Rattle.sok_book.proofs.Laws.{CommandsKeepTruth-all}
use Rattle.sok_book.specs.Records.{AreRecordsOf, IsRecordAt}
use Rattle.sok_store.specs.Faults.{IsOutside}
use Rattle.sok_store.specs.Rows.{HoldsBook}
use Rattle.sok_store.specs.Calls.{FindsBook, KeepsBook, MakesNone, Stops, id_number}
use Rattle.sok_store.specs.Histories.{AddsAreCalls, AreCalls, CallsFold, EmptyBooksAreMade, GetsAreCalls, IsCall, ListsAreCalls, IsMadeOf, VerdictsAreCalls, OffersAreCalls, ProofsAreCalls, TellingsAreCalls}
use Rattle.sok_store.specs.Histories as histories
use Rattle.sok_store.specs.Running.{Runs}
use Rattle.sok_store.proofs.Calls.{finds_keeps, held, keeps_turns}

-- ---- one call

is_call : {X : Type 0} (old new : State) (Makes : X → Book → Book → Type 0) (MayMake : Book → Book → Type 0) (Refuses : Book → BookFault → Type 0)
    (result : Result X BookFault) → OnOk result ((x : X) (book after : Book) → Makes x book after → OneCommand book after)
    → Runs old new Makes MayMake Refuses result → IsCall old new
is_call old new Makes MayMake Refuses (Ok x) commands runs = record {
  clean = λ clean. omega (arith, clean, runs.stop.clean);
  turns = λ clean book holds.
      let (after, makes, stores) = runs.done clean book holds in (after, inr (commands x book after makes), held new after stores);
}
is_call old new Makes MayMake Refuses (Err fault) commands runs = record {
  clean = λ clean. omega (arith, clean, runs.stop.clean);
  turns = λ clean book holds. let (why, after) = runs.refused clean book holds in (book, inl refl, after);
}

-- one that reads
look_is_call : {X : Type 0} (old new : State) (Tells : X → Book → Type 0) (Keeps : BookFault → Book → Type 0) (result : Result X BookFault)
    → IfOk result (λ x. FindsBook old new (Tells x)) → IfErr result (λ fault. KeepsBook old new (Keeps fault)) → Stops old new MakesNone → IsCall old new
look_is_call old new Tells Keeps (Ok x) found kept stop = record {
  clean = λ clean. omega (arith, clean, stop.clean);
  turns = keeps_turns (λ book after. (after ≡ book) ⊎ OneCommand book after) (λ book _. inl refl) (finds_keeps old new (Tells x) found);
}
look_is_call old new Tells Keeps (Err fault) found kept stop = record {
  clean = λ clean. omega (arith, clean, stop.clean);
  turns = keeps_turns (λ book after. (after ≡ book) ⊎ OneCommand book after) (λ book _. inl refl) kept;
}

module _ {C : Type 0} (shows : C → State) where
  pub adds-are-calls : AddsAreCalls shows
  adds-are-calls old new rows title (Ok id) accepted runs =
      is_call (shows old) (shows new) _ _ _ (Ok id) (λ x book after adds. add rows title (id_number x) accepted adds) runs
  adds-are-calls old new rows title (Err fault) accepted runs = is_call (shows old) (shows new) _ _ _ (Err fault) tt runs

  pub offers-are-calls : OffersAreCalls shows
  offers-are-calls old new id letters (Ok answer) runs =
      is_call (shows old) (shows new) _ _ _ (Ok answer) (λ x book after offers. offer id letters x offers) runs
  offers-are-calls old new id letters (Err fault) runs = is_call (shows old) (shows new) _ _ _ (Err fault) tt runs

  pub tellings-are-calls : TellingsAreCalls shows
  tellings-are-calls old new id letters (Ok told) runs =
      is_call (shows old) (shows new) _ _ _ (Ok told) (λ x book after tells. offer id letters x.offer tells.offered) runs
  tellings-are-calls old new id letters (Err fault) runs = is_call (shows old) (shows new) _ _ _ (Err fault) tt runs

  pub proofs-are-calls : ProofsAreCalls shows
  proofs-are-calls old new id bytes (Ok shown) runs =
      is_call (shows old) (shows new) _ _ _ (Ok shown) (λ x book after proves. prove id bytes x proves) runs
  proofs-are-calls old new id bytes (Err fault) runs = is_call (shows old) (shows new) _ _ _ (Err fault) tt runs

  pub verdicts-are-calls : VerdictsAreCalls shows
  verdicts-are-calls old new id rows claim (Ok x) runs =
      is_call (shows old) (shows new) _ _ _ (Ok x) (λ x book after sets. judge id claim sets) runs
  verdicts-are-calls old new id rows claim (Err fault) runs = is_call (shows old) (shows new) _ _ _ (Err fault) tt runs

  pub gets-are-calls : GetsAreCalls shows
  gets-are-calls old new id result found refused stop = look_is_call (shows old) (shows new) (λ kept book. IsRecordAt book id kept)
      (λ fault book. IsOutside fault ⊎ ((fault ≡ NoLevel) × IsNone (page_at book id))) result found refused stop

  pub lists-are-calls : ListsAreCalls shows
  lists-are-calls old new result listed refused stop =
      look_is_call (shows old) (shows new) (λ pages book. AreRecordsOf book pages) (λ fault _. IsOutside fault) result listed refused stop

  -- one after another
  folds : (old new : C) → AreCalls shows old new → HasCleanDisk (shows new) → (book : Book) → HoldsBook (shows old) book
      → (after : Book) × IsMadeOf book after × HoldsBook (shows new) after × (IsTrueBook book → IsTrueBook after)
  folds old _ histories.none clean book holds = (book, histories.none, holds, λ truth. truth)
  folds old _ (histories.more mid new calls call) clean book holds =
      let (middle, made, held_mid, keeps) = folds old mid calls (call.clean clean) book holds in
      let (after, step, held_after) = call.turns clean middle held_mid in
      elim step [
        | inl same ↦ (middle, made, subst (HoldsBook (shows new)) same held_after, keeps)
        | inr command ↦
            (after, histories.more middle after made command, held_after, λ truth. CommandsKeepTruth-all middle after (keeps truth) command)
      ]

  pub calls-fold : CallsFold shows
  calls-fold = folds

pub empty-books-are-made : EmptyBooksAreMade
empty-books-are-made _ histories.none = laws.empty
empty-books-are-made _ (histories.more before after made command) = laws.more before after (empty-books-are-made before made) command

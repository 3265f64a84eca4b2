use Rattle.std.proofs.Common.{◌≡◌, Err, IfSome, List, Option, ap, subst, ℕ}
use Rattle.std.proofs.lemmas.Result.{err_from_is_err_and}
use Rattle.sqlite.specs.Held.{state}
use Rattle.sok_text.specs.Collections.{blocks_of}
use Rattle.sok_book.specs.Books.{Book}
use Rattle.sok_keep.specs.Adds.{AddsBytes, AddsCount}
use Rattle.sok_keep.specs.Adding.{AddsSome}
use Rattle.sok_keep.specs.Causes.{Treats}
use Rattle.sok_keep.proofs.Ending.{unread_takes, unwritten_caused}
use Rattle.sok_keep.proofs.Treating.{carries_open, treats_more}
use Rattle.sok_keep.proofs.Adding.{adding_done, adding_stopped, adding_unread, adding_unwritten}
use Rattle.sok_keep.proofs.add.add_bytes.Given as given
use Rattle.sok_keep.proofs.add.add_bytes.Goals as goal
use Rattle.sok_keep.proofs.add.add_bytes.Goals.{After-add_all-ended}

-- what is made of the bytes that were read
abbrev made_of : (known : Option (List ℕ)) (read bytes : List ℕ) → bytes ≡ read → IfSome known (λ all. read ≡ all) → (book after : Book)
    → AddsSome (blocks_of bytes) book after → AddsBytes known book after
made_of known read bytes same all book after (n, made) = (read, all, n, subst (λ bs. AddsCount (blocks_of bs) n book after) same made)

-- and how the connection is treated then
added : (g : given.Over) (c : After-add_all-ended g)
    → Treats (state g.S.Store c.args.book.now) (state g.S.Store c.add_all-ended.new.book) (AddsBytes (g.R.Read.remaining c.args.input.now)) c.add_all-ended.result
added g c =
    let known = g.R.Read.remaining c.args.input.now in
    treats_more (state g.S.Store c.args.book.now) (state g.S.Store c.add_all-ended.new.book) _ (AddsBytes known)
    (made_of known c.in_ok-bytes.bytes.items c.as_slice.result.now c.as_slice.ensures.value c.in_ok-bytes.ensures.all) c.add_all-ended.result
    c.add_all-ended.ensures.treats

pub returns-in_err-bytes : goal.returns-in_err-bytes
returns-in_err-bytes g c =
    let p = err_from_is_err_and c.from_residual.result c.from_residual.ensures.1 in
    rw (p.1, p.2) (unread_takes _ _ _ c.in_err-bytes.field-0.0 (adding_unread (state g.S.Store c.args.book.now) _ _ c.in_err-bytes.field-0.0
    (λ is. c.in_err-bytes.ensures.much (ap Err is))))

pub returns-in_err-write_whole : goal.returns-in_err-write_whole
returns-in_err-write_whole g c =
    let p = err_from_is_err_and c.from_residual-in_err-write_whole.result c.from_residual-in_err-write_whole.ensures.1 in
    let read = c.in_ok-bytes in
    let ended = c.add_all-ended in
    let old = state g.S.Store c.args.book.now in
    let new = state g.S.Store ended.new.book in
    rw p.1 (record {
      writes = adding_unwritten old new read.bytes.items _ _ _ ended.new.lines.items read.ensures.all read.ensures.within ended.result _ p.2
          (rw c.as_slice.ensures.value at ended.ensures.leaves) (rw c.deref.ensures.value at c.in_err-write_whole.ensures.err);
      keeps_open = tt;
      stop = (added g (goal.at.returns-in_err-write_whole g c).After-add_all-ended).stop;
      cause = unwritten_caused old new _ _ p.2;
    })

pub returns-in_err-ended : goal.returns-in_err-ended
returns-in_err-ended g c =
    let p = err_from_is_err_and c.from_residual-in_err-ended.result c.from_residual-in_err-ended.ensures.1 in
    let read = c.in_ok-bytes in
    let ended = c.add_all-ended in
    let treats = rw c.in_err-ended.was at (added g (goal.at.returns-in_err-ended g c).After-add_all-ended) in
    rw (p.1, p.2) (record {
      writes = adding_stopped (state g.S.Store c.args.book.now) (state g.S.Store ended.new.book) read.bytes.items _ _ _ ended.new.lines.items read.ensures.all
          read.ensures.within c.in_err-ended.field-0.0 (rw (c.as_slice.ensures.value, c.in_err-ended.was) at ended.ensures.leaves)
          (rw c.deref.ensures.value at c.in_ok-write_whole.ensures.ok);
      keeps_open = tt;
      stop = treats.stop;
      cause = treats.cause;
    })

pub returns : goal.returns
returns g c =
    let read = c.in_ok-bytes in
    let ended = c.add_all-ended in
    let treats = rw c.in_ok-ended.was at (added g (goal.at.returns g c).After-add_all-ended) in
    record {
      writes = adding_done (state g.S.Store c.args.book.now) (state g.S.Store ended.new.book) read.bytes.items _ _ _ ended.new.lines.items read.ensures.all
          read.ensures.within _ (rw (c.as_slice.ensures.value, c.in_ok-ended.was) at ended.ensures.leaves)
          (rw c.deref.ensures.value at c.in_ok-write_whole.ensures.ok);
      keeps_open = carries_open (state g.S.Store c.args.book.now) (state g.S.Store ended.new.book) _ treats.done;
      stop = treats.stop;
      cause = tt;
    }

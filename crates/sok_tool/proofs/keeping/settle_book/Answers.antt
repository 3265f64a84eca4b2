use Rattle.std.proofs.Common.{ℕ, ◌≡◌, List, IfErr, Option, Some, None, String, Global, subst, subst₂, sym}
use Rattle.std.specs.Prelude.{option_map, string_bytes}
use Rattle.sqlite.specs.Held.{state}
use Rattle.sok_engine.specs.Certified.{Bytes}
use Rattle.sok_files.specs.Files.{Files, files_by}
use Rattle.sok_store.specs.Calls.{ChangesBook, Stops}
use Rattle.sok_keep.specs.Causes.{IsCausedFault}
use Rattle.sok_settle.specs.Keeping.{Keeping, no_certs}
use Rattle.sok_settle.specs.Settles.{SettlesSome, WritesSettling}
use Rattle.sok_tool.specs.Certs.{keeping_in, keeping_of}
use Rattle.sok_tool.proofs.keeping.settle_book.Goals as goal

-- what is told of certificates in a folder, or of none, is told of what the words ask for
into_folder : (P : Keeping → Type 0) (files : Files Bytes) (words : Option (String Global)) (folder : String Global) (db own path : List ℕ)
    → words ≡ Some folder → own ≡ db → path ≡ string_bytes folder → P (keeping_in files own path) → P (keeping_of files db (option_map (λ s. string_bytes s) words))
into_folder P files words folder db own path is its named told =
    subst (λ w. P (keeping_of files db (option_map (λ s. string_bytes s) w))) (sym is) (subst₂ (λ d p. P (keeping_in files d p)) its named told)

into_none : (P : Keeping → Type 0) (files : Files Bytes) (db : List ℕ) (words : Option (String Global)) → words ≡ None → P no_certs
    → P (keeping_of files db (option_map (λ s. string_bytes s) words))
into_none P files db words is told = subst (λ w. P (keeping_of files db (option_map (λ s. string_bytes s) w))) (sym is) told

pub returns-in-Some-clause-writes : goal.returns-in-Some-clause-writes
returns-in-Some-clause-writes g c =
    let call = c.settle_bytes in
    let files = files_by g.F.Output.Write.contents (g.F.Folder.files c.args.rt.now) in
    let P : Keeping → Type 0 = λ keeping. ChangesBook (state g.S.Store c.args.book.now) (state g.S.Store call.new.book) (λ book after.
    WritesSettling keeping c.args.limit c.args.span book after (g.W.Write.contents c.args.out.now) (g.W.Write.contents call.new.out) call.result) in
    into_folder P files c.args.folder c.in-Some.folder c.args.db.now c.book.result.path.now c.as_str.result.now c.in-Some.is c.book.ensures
    c.as_str.ensures.value call.ensures.writes

pub returns-in-Some-clause-stop : goal.returns-in-Some-clause-stop
returns-in-Some-clause-stop g c =
    let call = c.settle_bytes in
    let files = files_by g.F.Output.Write.contents (g.F.Folder.files c.args.rt.now) in
    let P : Keeping → Type 0 = λ keeping. Stops (state g.S.Store c.args.book.now) (state g.S.Store call.new.book)
    (SettlesSome keeping c.args.limit c.args.span) in
    into_folder P files c.args.folder c.in-Some.folder c.args.db.now c.book.result.path.now c.as_str.result.now c.in-Some.is c.book.ensures
    c.as_str.ensures.value call.ensures.stop

pub returns-in-Some-clause-cause : goal.returns-in-Some-clause-cause
returns-in-Some-clause-cause g c =
    let call = c.settle_bytes in
    let files = files_by g.F.Output.Write.contents (g.F.Folder.files c.args.rt.now) in
    let P : Keeping → Type 0 = λ keeping. IfErr call.result (IsCausedFault (state g.S.Store c.args.book.now) (state g.S.Store call.new.book)
    (SettlesSome keeping c.args.limit c.args.span)) in
    into_folder P files c.args.folder c.in-Some.folder c.args.db.now c.book.result.path.now c.as_str.result.now c.in-Some.is c.book.ensures
    c.as_str.ensures.value call.ensures.cause

pub returns-in-None-clause-writes : goal.returns-in-None-clause-writes
returns-in-None-clause-writes g c =
    let call = c.settle_bytes-in-None in
    let files = files_by g.F.Output.Write.contents (g.F.Folder.files c.args.rt.now) in
    let P : Keeping → Type 0 = λ keeping. ChangesBook (state g.S.Store c.args.book.now) (state g.S.Store call.new.book) (λ book after.
    WritesSettling keeping c.args.limit c.args.span book after (g.W.Write.contents c.args.out.now) (g.W.Write.contents call.new.out) call.result) in
    into_none P files c.args.db.now c.args.folder c.in-None.is call.ensures.writes

pub returns-in-None-clause-stop : goal.returns-in-None-clause-stop
returns-in-None-clause-stop g c =
    let call = c.settle_bytes-in-None in
    let files = files_by g.F.Output.Write.contents (g.F.Folder.files c.args.rt.now) in
    let P : Keeping → Type 0 = λ keeping. Stops (state g.S.Store c.args.book.now) (state g.S.Store call.new.book)
    (SettlesSome keeping c.args.limit c.args.span) in
    into_none P files c.args.db.now c.args.folder c.in-None.is call.ensures.stop

pub returns-in-None-clause-cause : goal.returns-in-None-clause-cause
returns-in-None-clause-cause g c =
    let call = c.settle_bytes-in-None in
    let files = files_by g.F.Output.Write.contents (g.F.Folder.files c.args.rt.now) in
    let P : Keeping → Type 0 = λ keeping. IfErr call.result (IsCausedFault (state g.S.Store c.args.book.now) (state g.S.Store call.new.book)
    (SettlesSome keeping c.args.limit c.args.span)) in
    into_none P files c.args.db.now c.args.folder c.in-None.is call.ensures.cause

use Rattle.std.proofs.Common.{sym, ◌∙◌, subst, inl, inr, pos}
use Rattle.sok_store.specs.Faults.{IsOutside}
use Rattle.sok_book.specs.Records.{AreRecordsOf}
use Rattle.sok_store.specs.Rows.{leaves_of}
use Rattle.sok_store.proofs.Laws.{bad-rows-have-no-book, rows-have-one-book}
use Rattle.sok_store.proofs.Calls.{rests_holds, rests_stops}
use Rattle.sok_store.proofs.Caused.{row_told, told}
use Rattle.sqlite.specs.Held.{state}
use Rattle.sok_store.specs.Calls.{MakesNone}
use Rattle.sok_store.proofs.ReadRows.{all-kept}
use Rattle.sok_store.proofs.listing.records_in.Goals as goal

pub returns-in-Ok-records_of-clause-kept : goal.returns-in-Ok-records_of-clause-kept
returns-in-Ok-records_of-clause-kept g c =
    let (book, kept, are, records) = c.in-Ok-records_of.ensures.read in
    all-kept book kept c.in-Ok-records_of.records.items records

pub returns-in-Ok-records_of-clause-listed : goal.returns-in-Ok-records_of-clause-listed
returns-in-Ok-records_of-clause-listed g c clean book holds =
    let (shows, rows) = c.in-Ok.ensures.rows clean (leaves_of book) holds.1 in
    let (other, kept, are, records) = c.in-Ok-records_of.ensures.read in
    let same = rows-have-one-book c.in-Ok.rows.items other book (record { kept = kept; rows_are = sym c.deref.ensures.value ∙ are })
    (record { kept = holds.0; rows_are = rows }) in
    (subst (λ b. AreRecordsOf b c.in-Ok-records_of.records.items) same records, (holds.0, shows))

pub returns-in-Ok-clause-refused : goal.returns-in-Ok-clause-refused
returns-in-Ok-clause-refused g c clean book holds =
    let (shows, rows) = c.in-Ok.ensures.rows clean (leaves_of book) holds.1 in
    let outside : IsOutside c.in-Err-records_of.fault = elim c.in-Err-records_of.ensures.broken [
      | inl memory ↦ inl memory
      | inr (id, named, first) ↦ absurd (bad-rows-have-no-book _ id book first (record { kept = holds.0; rows_are = c.deref.ensures.value ∙ rows }))
    ] in
    (outside, (holds.0, λ _. shows.1))

pub returns-clause-cause : goal.returns-clause-cause
returns-clause-cause g c =
    told (state g.S.Store c.args.conn.now) (state g.S.Store c.all_rows.new.conn) MakesNone c.in-Err.error c.fault_of.result c.fault_of.ensures.memory
    (λ clean book holds. c.in-Err.ensures.cause clean (λ up. (holds.1 up).schema))

pub returns-in-Ok-clause-cause : goal.returns-in-Ok-clause-cause
returns-in-Ok-clause-cause g c =
    let caused = row_told (state g.S.Store c.args.conn.now) (state g.S.Store c.all_rows.new.conn) MakesNone c.in-Err-records_of.fault in
    elim c.in-Err-records_of.ensures.broken [ inl memory ↦ caused (pos 0) ⊥ (inl memory) | inr (id, named, first) ↦ caused id _ (inr (named, first)) ]

pub returns-clause-refused : goal.returns-clause-refused
returns-clause-refused g c clean book holds =
    (c.fault_of.ensures.outside, rests_holds (state g.S.Store c.args.conn.now) (state g.S.Store c.all_rows.new.conn) c.all_rows.ensures.rests clean book holds)

pub returns-in-Ok-records_of-clause-stop : goal.returns-in-Ok-records_of-clause-stop
returns-in-Ok-records_of-clause-stop g c =
    rests_stops (state g.S.Store c.args.conn.now) (state g.S.Store c.all_rows.new.conn) c.all_rows.ensures.rests MakesNone

pub returns-in-Ok-clause-stop : goal.returns-in-Ok-clause-stop
returns-in-Ok-clause-stop g c = rests_stops (state g.S.Store c.args.conn.now) (state g.S.Store c.all_rows.new.conn) c.all_rows.ensures.rests MakesNone

pub returns-clause-stop : goal.returns-clause-stop
returns-clause-stop g c = rests_stops (state g.S.Store c.args.conn.now) (state g.S.Store c.all_rows.new.conn) c.all_rows.ensures.rests MakesNone

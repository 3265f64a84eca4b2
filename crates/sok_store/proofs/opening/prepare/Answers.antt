use Rattle.std.proofs.Common.{◌∙◌, ap, sym}
use Rattle.sqlite.specs.declared.error.Error.TheVariants.{SqlInputError}
use Rattle.sqlite.specs.Held.{state}
use Rattle.sok_sql.specs.Causes.{IsMissing}
use Rattle.sok_store.proofs.Opened.{made_stops, opens_read, read_stops, unmade_caused}
use Rattle.sok_store.proofs.opening.prepare.Goals as goal

pub returns-in-Ok-records_of-clause-opens : goal.returns-in-Ok-records_of-clause-opens
returns-in-Ok-records_of-clause-opens g c clean settled =
    let (book, kept, are, records) = c.in-Ok-records_of.ensures.read in
    opens_read (state g.S.Store c.args.conn.now) (state g.S.Store c.all_rows.new.conn) c.in-Ok.rows.items settled
    (λ k. c.in-Ok.ensures.found k settled) c.in-Ok.ensures.none (λ k. (c.in-Ok.ensures.open k).0) clean book kept (sym c.deref.ensures.value ∙ are)

pub returns-in-Err-SqlInputError-NoSuchTable-clause-cause : goal.returns-in-Err-SqlInputError-NoSuchTable-clause-cause
returns-in-Err-SqlInputError-NoSuchTable-clause-cause g c settled =
    let read = c.in-Err-SqlInputError-NoSuchTable in
    let missing : IsMissing read.field-0 = read.field-0-is ∙ ap SqlInputError (rw read.field-0-is at read.field-0-0-is) in
    unmade_caused (state g.S.Store c.args.conn.now) (state g.S.Store c.all_rows.new.conn) (state g.S.Store c.create.new.conn) read.field-0
    c.in-Err-create.error c.fault_of.result settled missing c.fault_of.ensures.memory read.ensures.cause
    read.ensures.same c.in-Err-create.ensures.cause _ _ c.all_rows.ensures.rests.stop c.create.ensures.stop

pub returns-in-Ok-records_of-clause-stop : goal.returns-in-Ok-records_of-clause-stop
returns-in-Ok-records_of-clause-stop g c settled = read_stops (state g.S.Store c.args.conn.now) (state g.S.Store c.all_rows.new.conn) c.all_rows.ensures.rests

pub returns-in-Ok-clause-stop : goal.returns-in-Ok-clause-stop
returns-in-Ok-clause-stop g c settled = read_stops (state g.S.Store c.args.conn.now) (state g.S.Store c.all_rows.new.conn) c.all_rows.ensures.rests

pub returns-clause-stop : goal.returns-clause-stop
returns-clause-stop g c settled = read_stops (state g.S.Store c.args.conn.now) (state g.S.Store c.all_rows.new.conn) c.all_rows.ensures.rests

pub returns-in-Ok-create-clause-stop : goal.returns-in-Ok-create-clause-stop
returns-in-Ok-create-clause-stop g c settled =
    let read = c.in-Err-SqlInputError-NoSuchTable in
    let missing : IsMissing read.field-0 = read.field-0-is ∙ ap SqlInputError (rw read.field-0-is at read.field-0-0-is) in
    made_stops (state g.S.Store c.args.conn.now) (state g.S.Store c.all_rows.new.conn) (state g.S.Store c.create.new.conn) c.all_rows.ensures.rests
    (λ clean. (read.ensures.open clean).1 missing) (λ clean. read.ensures.same clean settled) c.create.ensures.stop

pub returns-in-Err-SqlInputError-NoSuchTable-clause-stop : goal.returns-in-Err-SqlInputError-NoSuchTable-clause-stop
returns-in-Err-SqlInputError-NoSuchTable-clause-stop g c settled =
    let read = c.in-Err-SqlInputError-NoSuchTable in
    let missing : IsMissing read.field-0 = read.field-0-is ∙ ap SqlInputError (rw read.field-0-is at read.field-0-0-is) in
    made_stops (state g.S.Store c.args.conn.now) (state g.S.Store c.all_rows.new.conn) (state g.S.Store c.create.new.conn) c.all_rows.ensures.rests
    (λ clean. (read.ensures.open clean).1 missing) (λ clean. read.ensures.same clean settled) c.create.ensures.stop

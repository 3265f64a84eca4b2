use Rattle.std.proofs.Common.{◌≡◌, ℕ, List, Option, Some, None, refl}
use Rattle.std.specs.Prelude.{option_map}
use Rattle.sqlite.specs.declared.types.Value.TheVariants.{Blob as Bytes}
use Rattle.sqlite.specs.Values.{or_null, bound_value}
use Rattle.sqlite.specs.Held.{state}
use Rattle.sok_sql.proofs.Statements.{row_inserted, row_not_inserted}
use Rattle.sok_sql.proofs.writing.insert.Goals as goal

-- borrowed bytes are bound as what they are
bound_bytes : {A : Type 0} (now : A → List ℕ) (o : Option A) → bound_value (or_null (λ a. Bytes (now a)) o) ≡ or_null Bytes (option_map now o)
bound_bytes now None = refl
bound_bytes now (Some a) = refl

pub returns-in-Ok : goal.returns-in-Ok
returns-in-Ok g c =
    row_inserted c.args.id c.args.text.now (option_map (λ b. b.now) c.args.title) c.ranges.id.fits
    (state g.S.Store c.args.conn.now) (state g.S.Store c.execute.new.self)
    (rw (c.params-to_sql.ensures, c.params-to_sql-2.ensures, c.params-to_sql-3.ensures, bound_bytes (λ b. b.now) c.args.title) at c.execute.ensures.survives) _ c.in-Ok.field-0
    (λ clean. rw (c.params-to_sql.ensures, c.params-to_sql-2.ensures, c.params-to_sql-3.ensures, bound_bytes (λ b. b.now) c.args.title) at (c.in-Ok.ensures.runs clean))

pub returns-in-Err : goal.returns-in-Err
returns-in-Err g c =
    row_not_inserted c.args.id c.args.text.now (option_map (λ b. b.now) c.args.title) c.ranges.id.fits
    (state g.S.Store c.args.conn.now) (state g.S.Store c.execute.new.self)
    (rw (c.params-to_sql.ensures, c.params-to_sql-2.ensures, c.params-to_sql-3.ensures, bound_bytes (λ b. b.now) c.args.title) at c.execute.ensures.survives) c.in-Err.error
    (λ clean. rw (c.params-to_sql.ensures, c.params-to_sql-2.ensures, c.params-to_sql-3.ensures, bound_bytes (λ b. b.now) c.args.title) at (c.in-Err.ensures.runs clean))

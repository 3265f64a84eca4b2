use Rattle.std.proofs.Common.{inl, inr, length, arith, get_or}
use Rattle.std.specs.Int.{w64}
use Rattle.std.proofs.lemmas.Bool.{cases_lt}
use Rattle.std.proofs.lemmas.List.{get_or_past}
use Rattle.std.proofs.lemmas.Nat.Bits.{bit_at-trailing_zeros}
use Rattle.sok_field.proofs.OneSquare.{has-zero, IsFirstSquare-lowest}
use Rattle.sok_field.proofs.bits.first.Goals as goal

pub returns-then-row-ne0-clause-first : goal.returns-then-row-ne0-clause-first
returns-then-row-ne0-clause-first c = IsFirstSquare-lowest c.args.rows.now c.loop-r.r (omega arith) (c.type_inv.rows c.loop-r.r).fits c.loop-r.invariant

pub returns-then-row-ne0-clause-narrow : goal.returns-then-row-ne0-clause-narrow
returns-then-row-ne0-clause-narrow c =
    let word = get_or c.args.rows.now c.loop-r.r 0 in
    (bit_at-trailing_zeros w64 word (omega arith) (c.type_inv.rows c.loop-r.r).fits).0

pub returns-clause-first : goal.returns-clause-first
returns-clause-first c =
    let rows = c.args.rows.now in
    has-zero rows (λ k. elim (cases_lt k (length rows)) [
      | inl below ↦ c.loop-r.invariant k (omega arith)
      | inr past ↦ get_or_past rows k 0 past
    ])

-- The text of a certificate, written in two parts.
use Rattle.std.proofs.Common.{ℕ, ◌+◌, List, ◌++◌, Option, length, take, arith, subst, sym}
use Rattle.std.proofs.lemmas.List.{length-append}
use Rattle.std.proofs.Math.Seq.{take-append-add}
use Rattle.std.specs.Io.KnownBytes.{Appends}
use Rattle.std.proofs.KnownBytes.{Appends-trans}
use Rattle.sok_engine.specs.Written.{AppendsFront}

-- the first was written, and the write of the second failed
pub second-failed : (a b c : Option (List ℕ)) (xs ys : List ℕ) → Appends a b xs → AppendsFront b c ys → AppendsFront a c (xs ++ ys)
second-failed a b c xs ys first (n, short, written) = (
  length xs + n,
  omega (arith, short, length-append xs ys),
  subst (Appends a c) (sym (take-append-add xs ys n)) (Appends-trans a b c xs (take n ys) first written),
)

-- Which values of a row the program can read.
use Rattle.std.specs.Prelude.{◌<◌, ◌^◌, IfSome, IsUtf8}
use Rattle.sok_sql.specs.Leaves.{Leaf}

pub record IsReadable (leaf : Leaf) : Type 0 where
  pub text : IsUtf8 leaf.text
  pub lurd : IfSome leaf.lurd IsUtf8
  pub pushes : IfSome leaf.pushes (λ n. n < 2 ^ 32)
  pub moves : IfSome leaf.moves (λ n. n < 2 ^ 32)
  pub verdict : leaf.verdict < 2 ^ 32

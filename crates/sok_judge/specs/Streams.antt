-- A certificate that is left in a reader, read to its end.
use Rattle.std.specs.Prelude.{ℕ, ◌≡◌, ◌≤◌, List, Option, IfSome, length}
use Rattle.sok_board.specs.Area.{BoardView}
use Rattle.sok_cert.specs.Streams.{StandsFor, Streamed}

-- the stream has read the bytes that are left in the reader, which are not too many; if these are not known, it has read some bytes
pub record IsStreamOf (known : Option (List ℕ)) (limit : ℕ) (b : BoardView) (s : Streamed) : Type 0 where
  pub text : List ℕ
  pub all : IfSome known (λ bytes. text ≡ bytes)
  pub few : length text ≤ limit
  pub board : s.board ≡ b
  pub stands : StandsFor s.board text s.progress

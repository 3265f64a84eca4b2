-- The views of the parts of a stream, and their invariants.
use Rattle.std.specs.Prelude.{ℕ, ◌≡◌, ◌++◌, List, vec_len}
use Rattle.sok_board.specs.Area.{BoardView}
use Rattle.sok_bar.specs.Memos.{KeepsClosed}
use Rattle.sok_state.specs.Normalizers.{Normalizes}
use Rattle.sok_cert.specs.declared.progress.Progress.{Progress}
use Rattle.sok_cert.specs.declared.roster.Roster.{Roster}
use Rattle.sok_cert.specs.Rosters.{IsOfBoard, Rostered}
use Rattle.sok_cert.specs.Streams.{Progressed, StandsFor}

abbrev pub rostered_of : Roster → Rostered
rostered_of r = record { roll = r.roll; fault = r.fault }

-- the roll has states of the board, the memo has pattern positions that are closed on it, and the normalizer makes its keys
pub record IsRosterOf (b : BoardView) (r : Roster) : Type 0 where
  pub roll : IsOfBoard b r.roll
  pub memo : KeepsClosed b r.memo
  pub normalizes : Normalizes b r.normalizer

abbrev pub progressed_of : Progress → Progressed
progressed_of p = record { stage = p.stage; lines = vec_len p.ended; line = p.line.items; wrong = p.wrong; roster = rostered_of p.roster }

-- the stream has read the part of a piece that comes before a rest
pub record IsTaken (b : BoardView) (old now : Progressed) (piece rest : List ℕ) : Type 0 where
  pub done : List ℕ
  pub whole : piece ≡ done ++ rest
  pub stands : (text : List ℕ) → StandsFor b text old → StandsFor b (text ++ done) now

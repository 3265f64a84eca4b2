use Rattle.std.proofs.Common.{◌≡◌, take}
use Rattle.std.specs.List.{flat_map}
use Rattle.sok_cert.specs.Streams.{StandsFor}
use Rattle.sok_cert.proofs.stream.judge_pieces.Given as goal

abbrev pub invariant-loop-piece : goal.invariant-loop-piece
invariant-loop-piece l = record {
  board : l.stream.board ≡ l.board;
  stands : StandsFor l.board (flat_map (λ piece. piece.items) (take l.piece-index l.pieces)) l.stream.progress;
}

use Rattle.std.proofs.Common.{ℕ, ◌≡◌, ◌+◌, ◌∙◌, ◌⊎◌, ◌++◌, ◌∷◌, [], List, Vec, Global, IfErr, IfOk, ap, arith, inl, inr, sym, subst, take}
use Rattle.std.specs.List.{flat_map}
use Rattle.std.proofs.lemmas.List.{flat_map_more, take_all, take_more}
use Rattle.std.proofs.lemmas.Result.{err_from_is_err_and, MatchResult-weaker}
use Rattle.sok_entry.specs.declared.fault.CertFault.TheVariants as cert
use Rattle.sok_cert.specs.Streams.{StandsFor}
use Rattle.sok_cert.specs.Verdicts.{IsProofOf, IsRefusedText}
use Rattle.sok_cert.proofs.stream.judge_pieces.Goals as goal
use Rattle.sok_cert.proofs.stream.judge_pieces.Goals.{After-ended}

abbrev joined : List (Vec ℕ Global) → List ℕ
joined pieces = flat_map (λ (piece : Vec ℕ Global). piece.items) pieces

pub loop-piece-preserved : goal.loop-piece-preserved
loop-piece-preserved c =
    let pieces = c.args.pieces.now in
    let stream = c.loop-piece.stream in
    let known = c.loop-piece.invariant in
    let i = c.loop-piece.piece-index in
    let piece = c.piece-item.result in
    let next = c.in_ok-stream-2.stream in
    let text = joined (take i pieces) in
    let longer : take (i + 1) pieces ≡ take i pieces ++ piece ∷ [] =
    take_more pieces i piece c.loop-piece-test.true ∙ ap (λ one. take i pieces ++ one ∷ []) (sym c.piece-item.is) in
    let more : text ++ c.as_slice.result.now ≡ joined (take (i + 1) pieces) =
    ap (λ bytes. text ++ bytes) c.as_slice.ensures.value ∙ flat_map_more (λ (one : Vec ℕ Global). one.items) [] (take i pieces) piece
    ∙ ap joined (sym longer) in
    let here = subst (λ b. StandsFor b text stream.progress) (sym known.board) known.stands in
    record {
      board = c.in_ok-stream-2.ensures.board ∙ known.board;
      stands = subst (λ b. StandsFor b (joined (take (i + 1) pieces)) next.progress) known.board
          (subst (λ t. StandsFor stream.board t next.progress) more (c.in_ok-stream-2.ensures.stands text here));
    }

-- the stream stands for all pieces
whole : (c : After-ended) → StandsFor c.loop-piece.stream.board (joined c.args.pieces.now) c.loop-piece.stream.progress
whole c =
    let pieces = c.args.pieces.now in
    let known = c.loop-piece.invariant in
    let past = c.loop-piece-test.false in
    let all : take c.loop-piece.piece-index pieces ≡ pieces = take_all c.loop-piece.piece-index pieces (omega (arith, past)) in
    subst (λ b. StandsFor b (joined pieces) c.loop-piece.stream.progress) (sym known.board)
    (subst (λ ps. StandsFor c.args.board.now (joined ps) c.loop-piece.stream.progress) all known.stands)

pub returns-in_err-ended-clause-refused : goal.returns-in_err-ended-clause-refused
returns-in_err-ended-clause-refused c =
    let p = err_from_is_err_and c.from_residual-in_err-ended.result c.from_residual-in_err-ended.ensures.1 in
    let text = joined c.args.pieces.now in
    rw (p.1, p.2) (inr (inl (c.in_err-ended.ensures.ends text (whole (goal.at.returns-in_err-ended-clause-refused c).After-ended))))

pub returns-clause-shown : goal.returns-clause-shown
returns-clause-shown c =
    let text = joined c.args.pieces.now in
    let ends = c.in_ok-ended.ensures.ends text (whole (goal.at.returns-clause-shown c).After-ended) in
    subst (λ b. IfOk c.judge.result (λ accepted. IsProofOf b text accepted.claim)) (c.in_ok-ended.ensures.board ∙ c.loop-piece.invariant.board)
    (c.judge.ensures.shown text ends)

pub returns-clause-refused : goal.returns-clause-refused
returns-clause-refused c =
    let text = joined c.args.pieces.now in
    let ends = c.in_ok-ended.ensures.ends text (whole (goal.at.returns-clause-refused c).After-ended) in
    let told = subst (λ b. IfErr c.judge.result (λ fault. (fault ≡ cert.Memory) ⊎ IsRefusedText b text fault))
    (c.in_ok-ended.ensures.board ∙ c.loop-piece.invariant.board) (c.judge.ensures.refused text ends) in
    MatchResult-weaker c.judge.result told (λ accepted any. any) (λ fault said. elim said [ inl memory ↦ inl memory | inr unshown ↦ inr (inr unshown) ])

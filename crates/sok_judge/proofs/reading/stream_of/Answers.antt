use Rattle.std.proofs.Common.{◌<◌, arith, length, subst, sym, take}
use Rattle.std.specs.Io.KnownBytes.{Consumes}
use Rattle.sok_engine.specs.Limits.{cert_limit}
use Rattle.sok_judge.proofs.Streaming.{ReadSo-end, ReadSo-more, ReadSo-much, ReadSo-start}
use Rattle.sok_judge.proofs.reading.stream_of.Goals as goal

pub input-init : goal.input-init
input-init g c = ReadSo-start _ c.args.board.now c.in_ok-stream.stream c.in_ok-stream.ensures.board c.in_ok-stream.ensures.nothing

pub input-preserved : goal.input-preserved
input-preserved g c =
    let read = c.in-Ok.ensures in
    let next = c.in_ok-stream-2 in
    ReadSo-more _ _ _ c.args.board.now c.input.stream next.stream c.input.total c.in-Ok.count (take c.in-Ok.count c.read.new.buf) c.input.invariant
    read.bytes.0 (sym read.bound.1) next.ensures.board next.ensures.stands

pub returns-then-count-eq0-clause-stands : goal.returns-then-count-eq0-clause-stands
returns-then-count-eq0-clause-stands g c =
    let read = c.in-Ok.ensures in
    let none = c.if-count-eq0.true in
    let room : 0 < length c.read.new.buf = omega (arith, c.in_ok-room.ensures, c.as_mut_slice-buffer.ensures.len, c.input.auto.buffer) in
    ReadSo-end _ _ _ cert_limit _ _ c.input.total c.input.invariant
    (subst (λ n. Consumes (g.R.Read.remaining c.input.reader) (g.R.Read.remaining c.read.new.self) (take n c.read.new.buf)) none read.bytes.0)
    (read.bytes.1 none room) (let within = c.input-test.true in omega arith)

pub returns-clause-much : goal.returns-clause-much
returns-clause-much g c = λ same. ReadSo-much _ _ cert_limit _ _ c.input.total c.input.invariant (let past = c.input-test.false in omega arith)

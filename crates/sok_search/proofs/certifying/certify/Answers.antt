use Rattle.std.proofs.Common.{◌≡◌, arith, length, subst}
use Rattle.sok_search.specs.Finished.{AreTaken}
use Rattle.sok_search.specs.Views.{progress_of}
use Rattle.sok_search.proofs.Certified.{taken-more, taken-none}
use Rattle.sok_search.proofs.certifying.certify.Goals as goal

pub loop-index-init : goal.loop-index-init
loop-index-init g c = record {
  taken = taken-none (λ entries. g.C.Entries.took entries c.args.entries.now) c.args.setting.now.board.now c.args.claim (progress_of c.args.search.now) c.requires.none;
  serves = c.in_ok-matching.ensures.serves;
}

pub loop-index-preserved : goal.loop-index-preserved
loop-index-preserved g c = record {
  taken = taken-more (λ entries. g.C.Entries.took entries c.loop-index.entries) (λ entries. g.C.Entries.took entries c.take_entry.new.entries)
      c.args.setting.now.board.now c.args.claim (progress_of c.args.search.now) c.loop-index.index c.loop-index.invariant.taken c.in_ok-take_entry.ensures.takes;
  serves = c.in_ok-take_entry.ensures.serves;
}

pub returns : goal.returns
returns g c =
    let count = c.len-index-end.ensures.count in
    let past = c.loop-index-test.false in
    let near = c.loop-index.auto.index-end in
    let all : c.loop-index.index ≡ length (progress_of c.args.search.now).table = omega (arith, count, past, near) in
    subst (AreTaken (λ entries. g.C.Entries.took entries c.loop-index.entries) c.args.setting.now.board.now c.args.claim (progress_of c.args.search.now)) all
    c.loop-index.invariant.taken

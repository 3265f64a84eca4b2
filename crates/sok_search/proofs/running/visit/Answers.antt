use Rattle.std.proofs.Common.{ap, Err, refl, sym, true≢false}
use Rattle.sok_search.specs.Views.{progress_of}
use Rattle.sok_search.proofs.Adding.{taken-key}
use Rattle.sok_search.proofs.Turning.{cut-waits, go-beaten, go-on, go-solved, held-noted, held-within}
use Rattle.sok_search.proofs.running.visit.Goals as goal

pub depth-depth-requires : goal.depth-depth-requires
depth-depth-requires c = held-within c.args.setting.now.board.now c.args.limit c.args.index (progress_of c.args.search.now) c.requires.held.search

pub key-requires : goal.key-requires
key-requires c = held-within c.args.setting.now.board.now c.args.limit c.args.index (progress_of c.args.search.now) c.requires.held.search

pub returns-then-is_beaten-clause-turned : goal.returns-then-is_beaten-clause-turned
returns-then-is_beaten-clause-turned c = go-beaten c.args.setting.now.board.now c.args.limit c.args.index c.args.bound c.depth-depth.result
    (progress_of c.args.search.now) c.args.note c.requires.held.search c.requires.noted c.requires.is_open c.depth-depth.ensures (c.if-is_beaten.ensures.0 refl)

pub is_solved-requires : goal.is_solved-requires
is_solved-requires c = record {
  exist = (taken-key c.args.setting.now.board.now c.args.limit c.args.index
      (progress_of c.args.search.now) c.in_ok-key.key c.depth-depth.result c.requires.held.search c.in_ok-key.ensures c.depth-depth.ensures).is.placed.boxes_exist;
}

pub returns-then-is_solved-clause-turned : goal.returns-then-is_solved-clause-turned
returns-then-is_solved-clause-turned c =
    let key = c.in_ok-key.key in
    go-solved c.args.setting.now.board.now c.args.limit c.args.index c.args.bound c.depth-depth.result key (progress_of c.args.search.now) c.args.note c.requires.held.search
    (assumption (c.in_ok-key.ensures, c.depth-depth.ensures, c.requires.noted)) c.requires.is_open ((c.if-is_solved.ensures key.least).0 refl)
    (λ beaten. true≢false (sym (c.if-is_beaten.ensures.1 beaten)))

pub mark-requires : goal.mark-requires
mark-requires c = held-noted c.args.setting.now.board.now c.args.limit c.args.index (progress_of c.expand.new.search) c.in-Ok.ensures.expanded.followed.search

pub returns-in-Ok-clause-turned : goal.returns-in-Ok-clause-turned
returns-in-Ok-clause-turned c =
    let key = c.in_ok-key.key in
    go-on c.args.setting.now.board.now _ c.args.bound (progress_of c.args.search.now) (progress_of c.expand.new.search)
    c.args.note (assumption (c.in_ok-key.ensures, c.depth-depth.ensures, c.requires.noted)) c.requires.is_open
    (λ solved. true≢false (sym ((c.if-is_solved.ensures key.least).1 solved))) c.in-Ok.ensures.expanded (progress_of c.mark.new.search) c.mark.ensures

pub returns-in-Err-Cut-clause-cut : goal.returns-in-Err-Cut-clause-cut
returns-in-Err-Cut-clause-cut c = λ _.
    cut-waits c.args.setting.now.board.now c.args.limit c.args.index c.args.bound c.args.search.now.aim (progress_of c.expand.new.search) c.wait.new.queue
    c.args.note.standing c.requires.is_open (c.in-Err-Cut.ensures.cut (ap Err c.in-Err-Cut.field-0-is)) c.in_ok-wait-in-Err-Cut.ensures

use Rattle.sok_search.proofs.expanding.Scratch.new.Goals as goal

pub returns : goal.returns
returns c =
    let b = c.args.setting.now.board.now in
    record {
      serves = c.in_ok-new.ensures.serves;
      lifts = c.none.ensures b c.new.ensures.accepted.numbered;
      boxes = c.new.ensures.laid.0;
      laid = c.new.ensures.laid.1;
      fences = c.in_ok-new-2.ensures;
      of_last = tt;
    }

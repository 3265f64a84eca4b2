use Rattle.std.proofs.Common.{◌≡◌, ◌+◌, ◌∙◌, ◌++◌, ◌∷◌, [], ap, sym, subst, take}
use Rattle.std.proofs.lemmas.List.{take_more}
use Rattle.sok_cert.specs.Rosters.{TellsEntries}
use Rattle.sok_cert.proofs.check.enter_all.Goals as goal

pub loop-entry-preserved : goal.loop-entry-preserved
loop-entry-preserved c =
    let entries = c.args.entries.now in
    let i = c.loop-entry.entry-index in
    let e = c.entry-item.result in
    let new = c.enter.new.self in
    let longer : take (i + 1) entries ≡ take i entries ++ e ∷ [] =
    take_more entries i e c.loop-entry-test.true ∙ ap (λ one. take i entries ++ one ∷ []) (sym c.entry-item.is) in
    record {
      tells = subst (λ es. TellsEntries c.args.setting.now.board.now c.args.claim es new.roll new.fault) (sym longer)
          (c.in_ok-enter.ensures.tells (take i entries) c.loop-entry.invariant.tells);
      of_board = c.in_ok-enter.ensures.of_board;
    }

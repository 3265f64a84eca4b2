use Rattle.std.proofs.Common.{◌∙◌, ◌∷◌, [], sym}
use Rattle.sok_cert.proofs.Entered.{tells-behind}
use Rattle.sok_cert.proofs.roster.Roster.enter.Goals as goal

pub returns-then-is_some-clause-tells : goal.returns-then-is_some-clause-tells
returns-then-is_some-clause-tells c = λ entries told.
    tells-behind c.args.setting.now.board.now c.args.claim entries (c.args.entry.now ∷ []) c.args.self.now.roll c.args.self.now.fault
    (sym c.is_some.ensures ∙ c.if-is_some.true) told

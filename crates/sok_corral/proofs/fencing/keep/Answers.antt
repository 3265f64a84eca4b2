use Rattle.std.proofs.Common.{rules}
use Rattle.std.proofs.lemmas.Fn.{filter_same}
use Rattle.sok_corral.proofs.Keeping.{is_pushed, kept-all}
use Rattle.sok_corral.proofs.fencing.keep.Goals as goal

pub returns-clause-all : goal.returns-clause-all
returns-clause-all c = kept-all c.args.boxes.now c.args.pushes.now.items c.retain.new.self.items
    (filter_same _ (is_pushed c.args.boxes.now) _ (λ x b f' k. search rules) _ _ c.retain.ensures.filtered)

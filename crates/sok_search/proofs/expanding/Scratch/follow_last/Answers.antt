use Rattle.std.proofs.Common.{IfSome, List, Option, subst, sym, ◌∙◌, Contains}
use Rattle.std.proofs.lemmas.List.Elements.{All-contains}
use Rattle.sok_state.specs.declared.key.Key.{Key}
use Rattle.sok_state.specs.declared.push.Push.{Push}
use Rattle.sok_state.specs.Pushes.{IsLegal, IsOpened}
use Rattle.sok_alone.proofs.Losing.{same-key}
use Rattle.sok_search.specs.PushScratches.{IsLast}
use Rattle.sok_search.proofs.expanding.Scratch.follow_last.Goals as goal

pub follow-requires-clause-pushable : goal.follow-requires-clause-pushable
follow-requires-clause-pushable c =
    let pushes = c.args.self.now.pushes.items in
    let scene = c.args.self.now.push_scratch.scene in
    let last : IsLast c.args.board.now scene pushes c.in-Some-last.last = subst (λ (known : Option Key). IfSome known (IsLast c.args.board.now scene pushes))
    c.in-Some-last.is c.requires.ready.of_last in
    let listed = subst (λ (items : List Push). Contains items c.in-Some.origin.push) c.deref.ensures.value (c.is_listed.ensures c.if-not-is_listed.false) in
    record {
      state = last.state;
      few = last.few;
      legal = All-contains (IsLegal c.args.board.now c.in-Some-last.last) pushes c.in-Some.origin.push last.legal listed;
      opened = last.opened;
    }

pub returns-clause-followed : goal.returns-clause-followed
returns-clause-followed c = λ came.
    subst (λ (k : Key). IsOpened c.args.board.now k c.follow.new.self) (same-key c.in_ok-next.next c.args.key.now (sym c.eq.ensures ∙ came))
    c.in_ok-next.ensures.opened

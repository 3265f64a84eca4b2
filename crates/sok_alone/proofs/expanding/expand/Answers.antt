use Rattle.std.proofs.Common.{◌∙◌, ap, subst, sym, Some, All, IfOk, List}
use Rattle.sok_closed.proofs.Missed.{followed-unmarked}
use Rattle.sok_state.specs.declared.push.Push.{Push}
use Rattle.sok_state.specs.Pushes.{IsLegal}
use Rattle.sok_alone.specs.Known.{roll_of}
use Rattle.sok_alone.specs.Meeting.{TellsFollowed}
use Rattle.sok_alone.proofs.Following.{marked-at, tells-expanded}
use Rattle.sok_alone.proofs.Growing.{Grows-refl}
use Rattle.sok_alone.proofs.Knowing.{reached-at}
use Rattle.sok_alone.proofs.expanding.expand.Goals as goal

pub returns-then-not-is_expanded-clause-tells : goal.returns-then-not-is_expanded-clause-tells
returns-then-not-is_expanded-clause-tells g c =
    let known = c.args.known.now in
    record {
      known = c.requires.1.0;
      grows = Grows-refl known;
      followed = followed-unmarked c.args.setting.now.board.now (roll_of known) c.args.index
          (marked-at known c.args.index c.index.result.now c.requires.1.1.0 c.index.ensures ∙ ap Some (sym c.is_expanded.ensures ∙ c.if-not-is_expanded.true))
          c.requires.1.1.1.0;
    }

pub open-requires-clause-key : goal.open-requires-clause-key
open-requires-clause-key g c = (c.requires.1.0.of_board.keys c.args.index c.in_ok-key.key c.in_ok-key.ensures).0

pub follow_all-requires : goal.follow_all-requires
follow_all-requires g c =
    let b = c.args.setting.now.board.now in
    let key = c.in_ok-key.key in (
      c.requires.0,
      (
        c.requires.1.0,
        (
          reached-at b g.start c.args.limit c.args.known.now c.requires.1.0 c.requires.0.accepted c.args.index key c.in_ok-key.ensures,
          (
            subst (λ (pushes : List Push). All (IsLegal b key) pushes) (sym c.deref.ensures.value) c.in_ok-open.ensures.legal,
            c.in_ok-open.ensures.opened,
          ),
        ),
      ),
    )

pub returns-clause-tells : goal.returns-clause-tells
returns-clause-tells g c =
    let b = c.args.setting.now.board.now in
    let key = c.in_ok-key.key in
    let pushes = c.open.new.self.pushes.items in
    tells-expanded b g.start c.args.limit c.args.known.now c.requires.1.0 c.args.index key c.in_ok-key.ensures c.requires.1.1.1.0 pushes
    c.in_ok-open.ensures.whole c.args.lives.now c.follow_all.new.known c.follow_all.result
    (subst (λ all. IfOk c.follow_all.result (TellsFollowed b c.args.lives.now g.start c.args.limit c.args.known.now key all c.follow_all.new.known)) c.deref.ensures.value
    c.follow_all.ensures.tells)

use Rattle.std.proofs.Common.{◌≡◌, Some, IsSome, ap, sym, ◌∙◌, subst, refl, find}
use Rattle.std.proofs.lemmas.Option.{same_Some}
use Rattle.sok_rules.specs.Play.{start}
use Rattle.sok_rules.specs.Squares.{holds, is_man}
use Rattle.sok_rules.proofs.Man.{find-man}
use Rattle.sok_board.proofs.places.man.Goals as goal

found : (c : goal.After-first_man) → c.first_man.result ≡ Some (start c.args.level.now).man
found c = c.first_man.ensures ∙ ap (find (holds is_man c.args.level.now)) c.requires.places ∙ find-man c.args.level.now c.requires.proper

pub unwrap-requires : goal.unwrap-requires
unwrap-requires c = subst IsSome (sym (found c)) refl

pub returns : goal.returns
returns c =
    let found = c.first_man.ensures ∙ ap (find (holds is_man c.args.level.now)) c.requires.places ∙ find-man c.args.level.now c.requires.proper in
    same_Some c.unwrap.result (start c.args.level.now).man (sym c.unwrap.ensures ∙ found)

use Rattle.std.proofs.Common.{◌<◌, ◌≤◌, arith, sym, ap, ◌∙◌, subst, length, get_or, take, true≢false}
use Rattle.std.proofs.lemmas.List.{get_or_default}
use Rattle.std.proofs.lemmas.List.Elements.{All-more}
use Rattle.sok_rules.specs.declared.cell.Spot.{Spot}
use Rattle.sok_board.specs.Area.{IsStray}
use Rattle.sok_board.proofs.AreaLaws.{origin}
use Rattle.sok_board.proofs.Refusals.{HasNoStray, first_stray-some, first_stray-none}
use Rattle.sok_board.proofs.refusal.first_stray.Goals as goal

pub returns-then-is_stray : goal.returns-then-is_stray
returns-then-is_stray c =
    let rows = c.args.level.now in
    let spots = c.args.spots.now in
    let i = c.loop-place.place-index in
    let s : Spot = get_or spots i origin in
    let here : i < length spots = omega arith in
    let same = ap length c.requires.places in
    first_stray-some rows i s (omega (arith, here, same)) (ap (λ xs. get_or xs i s) (sym c.requires.places) ∙ get_or_default spots i s origin here)
    (subst (λ xs. HasNoStray rows (take i xs)) c.requires.places c.loop-place.invariant) (c.is_stray.ensures.0 c.if-is_stray.true)

pub loop-place-preserved : goal.loop-place-preserved
loop-place-preserved c =
    All-more (λ s. IsStray c.args.level.now s → ⊥) c.args.spots.now c.loop-place.place-index origin (omega arith)
    c.loop-place.invariant (λ stray. true≢false (sym (c.is_stray.ensures.1 stray) ∙ c.if-is_stray.false))

pub returns : goal.returns
returns c =
    let rows = c.args.level.now in
    let i = c.loop-place.place-index in
    let past : length c.args.spots.now ≤ i = omega arith in
    let same = ap length c.requires.places in
    first_stray-none rows i (omega (arith, past, same))
    (subst (λ xs. HasNoStray rows (take i xs)) c.requires.places c.loop-place.invariant)

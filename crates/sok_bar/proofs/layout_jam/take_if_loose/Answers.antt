use Rattle.std.proofs.Common.{◌≡◌, ◌↔◌, sym, ◌∙◌, subst, true, true≢false}
use Rattle.sok_rules.specs.declared.cell.Spot.{Spot}
use Rattle.sok_field.specs.Fields.{has}
use Rattle.sok_field.proofs.Drawings.{in_field}
use Rattle.sok_bar.proofs.layout_jam.take_if_loose.Goals as goal

pub take-requires : goal.take-requires
take-requires c =
    let (row, col) = in_field c.args.setting.now.board.now c.requires.accepted c.args.square c.requires.exists _ c.spot.ensures.spot in
    record { row = row; col = col }

pub returns : goal.returns
returns c = record {
  gone = λ _. record {
    drawn = c.is_drawn.ensures.0 c.if-not-is_drawn.false;
    loose = λ held. true≢false (sym (c.is_held.ensures.1 held) ∙ c.if-is_held.false);
    others = subst (λ p. (t : Spot) → (has c.take.new.self t ≡ true) ↔ ((t ≡ p → ⊥) × (has c.args.held.now t ≡ true))) c.spot.ensures.spot c.take.ensures;
  };
  left = λ e. absurd (true≢false e);
}

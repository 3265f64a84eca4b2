use Rattle.std.proofs.Common.{◌≡◌, length, sym, ap, ◌∙◌, arith}
use Rattle.std.proofs.lemmas.List.{length-map}
use Rattle.sok_text.proofs.Blocks.{length-blocks_from}
use Rattle.sok_text.proofs.collection.Collection.len.Goals as goal

pub returns : goal.returns
returns c =
    let parts = c.self.inside.parts in
    let whole : length c.args.self.now ≡ length parts.items = ap length (sym c.self.view_is) ∙ length-blocks_from _ _ ∙ length-map parts.items _ in
    omega arith

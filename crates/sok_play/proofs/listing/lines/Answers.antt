use Rattle.std.proofs.Common.{◌≡◌, ◌<◌, arith, length}
use Rattle.sok_play.proofs.Listings.{IsPartOf-more, IsPartOf-whole}
use Rattle.sok_play.proofs.listing.lines.Goals as goal

pub loop-index-preserved : goal.loop-index-preserved
loop-index-preserved c =
    let blocks = c.args.collection.now in
    let here = c.loop-index in
    let within : here.index < length blocks = omega arith in
    IsPartOf-more blocks here.index here.text.items c.push_line.new.text.items within here.invariant c.in_ok-push_line.ensures

pub returns : goal.returns
returns c =
    let blocks = c.args.collection.now in
    let end : c.loop-index.index ≡ length blocks = omega arith in
    IsPartOf-whole blocks c.loop-index.index c.loop-index.text.items end c.loop-index.invariant

use Rattle.sok_play.proofs.Listings.{IsPartOf}
use Rattle.sok_play.proofs.listing.lines.Given as goal

abbrev pub invariant-loop-index : goal.invariant-loop-index
invariant-loop-index l = IsPartOf l.collection l.index l.text.items

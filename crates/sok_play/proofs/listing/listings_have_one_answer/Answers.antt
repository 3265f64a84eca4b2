use Rattle.sok_engine.proofs.Unique.{Within-one}
use Rattle.sok_play.proofs.Listings.{IsListing-one}
use Rattle.sok_play.proofs.listing.listings_have_one_answer.Goals as goal

pub returns : goal.returns
returns c limit = Within-one limit _ IsListing-one

-- An empty side is fine.
use Rattle.checksum_vectors.proofs.Valid.{none-carried}
use Rattle.checksum_vectors.proofs.new_book.Goals as goal

pub returns : goal.returns
returns c = record { shallow = c.requires; bids = record { good = c.empty.ensures.bids; carried = none-carried c.args.text c.empty.result c.empty.ensures.none }; asks = record { good = c.empty-2.ensures.asks; carried = none-carried c.args.text c.empty-2.result c.empty-2.ensures.none } }

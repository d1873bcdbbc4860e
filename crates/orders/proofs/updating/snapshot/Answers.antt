-- `snapshot` meets its contract: it adds all of its orders to an empty book.
use lib.ListN.{take}
use Rattle.edit.specs.declared.Side.TheVariants.{Bids, Asks}
use Rattle.order_edit.specs.Buffer.{entries_in}
use Rattle.orders.proofs.Both.{none_kept, snapshot-sides}
use Rattle.orders.proofs.updating.snapshot.Goals as goal

pub work-requires : goal.work-requires
work-requires c =
    let s = c in
    (none_kept Bids s.args.bids.now s.requires.0, none_kept Asks s.args.asks.now s.requires.1, s.requires.2, s.requires.3)

pub returns : goal.returns
returns c =
    let s = c in
    rw (snapshot-sides s.args.depth s.args.bids.now s.args.asks.now (take s.args.entries (entries_in s.args.buffer.now))) at c.work.ensures

-- `order_at` meets its contract: order i is the six words from 6i on.
use Rattle.order_edit.proofs.Sixes.{sixes-at}
use Rattle.orders.specs.Words.{six_words, orders_in, no_order}
use Rattle.orders.proofs.words.order_at.Goals as goal

pub returns : goal.returns
unfolding orders_in
returns c =
    let s = c in
    rw c.of_parts-level.ensures (sixes-at six_words s.args.i s.args.words.now no_order s.requires)

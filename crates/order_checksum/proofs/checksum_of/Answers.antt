-- `checksum_of` meets its contract: the sums of the best asks, then of the best bids, are those of their joined text.
use mathlib.Core.Path.{ap, ap₂, ◌∙◌}
use mathlib.Core.List.{List, ◌++◌, map}
use Prim.Native.Nat.{ℕ}
use Rattle.text.specs.Text.{joined}
use Rattle.crc32_spec.specs.Crc.{finish, crc}
use Rattle.checksum.specs.Carried.{summed}
use Rattle.orders.specs.Orders.{SingleOrder}
use Rattle.orders.specs.Words.{held}
use Rattle.order_checksum.specs.Text.{order_piece, order_checksum_text, levels_of}
use Rattle.order_checksum.proofs.Orders.{summed-room, summed-sound, summed-shown, both-summed}
use Rattle.order_checksum.proofs.checksum_of.Goals as goal

pub sum_orders-after_asks-requires : goal.sum_orders-after_asks-requires
sum_orders-after_asks-requires c =
    let s = c in
    (summed-room s.args.asks.now s.args.a c.count_summed.result s.requires.1.room s.requires.1.sound c.count_summed.ensures, s.requires.2)

pub sum_orders-requires : goal.sum_orders-requires
sum_orders-requires c =
    let s = c in
    (summed-room s.args.bids.now s.args.b c.count_summed-2.result s.requires.0.room s.requires.0.sound c.count_summed-2.ensures, s.requires.2)

pub returns : goal.returns
unfolding order_checksum_text
returns c =
    let s = c in
    let a = s.args in
    let n = c.count_summed.result in
    let m = c.count_summed-2.result in
    let asks = c.count_summed.ensures in
    let bids = c.count_summed-2.ensures in
    ap finish (c.sum_orders.ensures ∙ ap (λ (x : ℕ). summed x (levels_of (held a.bids.now m))) c.sum_orders-after_asks.ensures)
    ∙ both-summed (held a.bids.now m) (held a.asks.now n)
    (summed-sound a.bids.now a.b m s.requires.0.room s.requires.0.sound bids)
    (summed-sound a.asks.now a.a n s.requires.1.room s.requires.1.sound asks)
    ∙ ap₂ (λ (x y : List SingleOrder). crc (joined (map order_piece (x ++ y))))
    (summed-shown a.asks.now a.a n s.requires.1.room s.requires.1.sound asks)
    (summed-shown a.bids.now a.b m s.requires.0.room s.requires.0.sound bids)

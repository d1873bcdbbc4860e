-- `keep` meets its contract: the sides are cut, and copied where both fit.
use native.Mathlib.Omega.{arith}
use Rattle.edit.specs.declared.Side.TheVariants.{Bids, Asks}
use Rattle.orders.proofs.Both.{cut_short, many-bids, many-asks, done}
use Rattle.orders.proofs.updating.keep.Goals as goal
use Rattle.orders.proofs.updating.keep.Goals.{then-x-gt-MAX_ORDERS-via-then-x-gt-MAX_ORDERS, then-x-gt-MAX_ORDERS-via-else-x-gt-MAX_ORDERS+then-y-gt-MAX_ORDERS}

pub returns-then-x-gt-MAX_ORDERS : goal.returns-then-x-gt-MAX_ORDERS
returns-then-x-gt-MAX_ORDERS c =
    let a = c.args in
    elim c.then-x-gt-MAX_ORDERS.branch [
      | then-x-gt-MAX_ORDERS-via-then-x-gt-MAX_ORDERS w ↦
          many-bids a.depth a.working.now a.n a.others.now a.m c.cut-x.result c.cut-y.result c.cut-x.ensures c.cut-y.ensures a.bids.now a.asks.now w.if-x-gt-MAX_ORDERS.true
      | then-x-gt-MAX_ORDERS-via-else-x-gt-MAX_ORDERS+then-y-gt-MAX_ORDERS w ↦
          many-asks a.depth a.working.now a.n a.others.now a.m c.cut-x.result c.cut-y.result c.cut-x.ensures c.cut-y.ensures a.bids.now a.asks.now w.if-y-gt-MAX_ORDERS.true
    ]

pub copy-requires : goal.copy-requires
copy-requires c =
    let a = c.args in
    let h = cut_short Bids a.depth a.working.now a.n c.cut-x.result c.requires.0 c.cut-x.ensures in
    (omega (arith, h, c.requires.0.room), omega (arith, c.if-x-gt-MAX_ORDERS.false, c.requires.2))

pub copy-requires-2 : goal.copy-requires-2
copy-requires-2 c =
    let a = c.args in
    let h = cut_short Asks a.depth a.others.now a.m c.cut-y.result c.requires.1 c.cut-y.ensures in
    (omega (arith, h, c.requires.1.room), omega (arith, c.if-y-gt-MAX_ORDERS.false, c.requires.3))

pub returns : goal.returns
returns c =
    let a = c.args in
    done a.depth a.working.now a.n a.others.now a.m c.cut-x.result c.cut-y.result c.cut-x.ensures c.cut-y.ensures a.bids.now a.asks.now c.requires.0 c.requires.1 c.if-x-gt-MAX_ORDERS.false c.if-y-gt-MAX_ORDERS.false c.requires.2 c.requires.3 _ _ c.copy.ensures c.copy-2.ensures

-- `place_for` meets its contract: the search brackets the place of the price.
use Prim.Native.Nat.{◌+◌, ◌-◌, ◌/◌, ◌<◌}
use mathlib.Core.Path.{◌≡◌}
use mathlib.Core.Bool.{true, false}
use native.Mathlib.Omega.{arith}
use Rattle.decimal.specs.Decimal.{number, value}
use Rattle.orders.specs.Words.{coded, no_order}
use Rattle.orders.specs.Words.{held}
use Rattle.orders.proofs.Held.{held-length}
use Rattle.orders.proofs.Priced.{sound-read, ahead-said}
use Rattle.orders.proofs.Places.{bracket-start, bracket-up, bracket-down}
use Rattle.orders.proofs.searching.place_for.Goals as goal

pub find-init : goal.find-init
find-init c =
    let s = c in
    (bracket-start coded s.args.side (held s.args.words.now s.args.count) (value (number s.args.price)) s.args.count (held-length s.args.words.now s.args.count s.requires.0.room), omega arith)

pub overflow_sub-middle : goal.overflow_sub-middle
overflow_sub-middle c = omega arith

pub overflow_add-middle : goal.overflow_add-middle
overflow_add-middle c = omega arith

pub order_at-requires : goal.order_at-requires
order_at-requires c = let s = c in omega (arith, s.requires.0.room)

pub compare-requires : goal.compare-requires
compare-requires c =
    let s = c in
    let p = c.find in
    let m = p.low + (p.high - p.low) / 2 in
    (s.requires.1, sound-read s.args.words.now s.args.count m (omega (arith, p.invariant.1, c.find-test.true)) c.order_at.result c.order_at.ensures c.price_of-stood.result c.price_of-stood.ensures s.requires.0.room s.requires.0.sound)

pub find-smaller-then-is_ahead : goal.find-smaller-then-is_ahead
find-smaller-then-is_ahead c = omega arith

pub find-preserved-then-is_ahead : goal.find-preserved-then-is_ahead
find-preserved-then-is_ahead c =
    let s = c in
    let p = c.find in
    let t = c.find-test.true in
    let m = p.low + (p.high - p.low) / 2 in
    let l = held-length s.args.words.now s.args.count s.requires.0.room in
    let lt : m < s.args.count = omega (arith, p.invariant.1, t) in (
      bracket-down coded s.args.side (held s.args.words.now s.args.count) (value (number s.args.price)) s.requires.0.sorted m no_order (omega (arith, l)) p.low p.high p.invariant.0 (omega arith)
          (ahead-said s.args.words.now s.args.count m lt c.order_at.result c.order_at.ensures c.price_of-stood.result c.price_of-stood.ensures s.args.side s.args.price c.compare.result c.compare.ensures c.is_ahead.result c.is_ahead.ensures true c.if-is_ahead.true),
      omega arith,
    )

pub overflow_add-low : goal.overflow_add-low
overflow_add-low c = omega arith

pub find-smaller : goal.find-smaller
find-smaller c = omega arith

pub find-preserved : goal.find-preserved
find-preserved c =
    let s = c in
    let p = c.find in
    let t = c.find-test.true in
    let m = p.low + (p.high - p.low) / 2 in
    let l = held-length s.args.words.now s.args.count s.requires.0.room in
    let lt : m < s.args.count = omega (arith, p.invariant.1, t) in (
      bracket-up coded s.args.side (held s.args.words.now s.args.count) (value (number s.args.price)) s.requires.0.sorted m no_order (omega (arith, l)) p.low p.high p.invariant.0 (omega arith)
          (ahead-said s.args.words.now s.args.count m lt c.order_at.result c.order_at.ensures c.price_of-stood.result c.price_of-stood.ensures s.args.side s.args.price c.compare.result c.compare.ensures c.is_ahead.result c.is_ahead.ensures false c.if-is_ahead.false),
      omega arith,
    )

pub returns : goal.returns
returns c =
    let s = c.before.before.before.before in
    let p = c.find in
    let e : p.high ≡ p.low = omega (arith, p.invariant.0.low-le, c.find-test.false) in
    record {
      within = omega (arith, p.invariant.0.high_le);
      ahead = p.invariant.0.ahead;
      behind = rw e at p.invariant.0.behind;
    }

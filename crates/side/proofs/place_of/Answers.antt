use mathlib.Core.Path.{sym, subst}
use mathlib.Core.Bool.{true, false}
use Prim.Native.Nat.{◌+◌, ◌-◌, ◌/◌, ◌<◌}
use native.Mathlib.Omega.{arith}
use lib.ListN.{take}
use lib.Seq.{length-take-le}
use Rattle.decimal.specs.Decimal.{number, value}
use Rattle.decimal.specs.Limits.{Within}
use Rattle.level.specs.Words.{level_price, no_level}
use Rattle.side.proofs.Find.{bracket-start, bracket-up, bracket-down, bracket-place}
use Rattle.side.proofs.Entries.{sound-at, ahead-at}
use Rattle.side.proofs.place_of.Goals as goal

pub find-init : goal.find-init
find-init c =
    let w = c.requires.0 in
    let a = c.args in
    (bracket-start level_price a.side (take a.count a.levels.now) (value (number a.price)) a.count (length-take-le a.count a.levels.now (omega (arith, w.few))), omega arith)

pub compare-requires : goal.compare-requires
compare-requires c =
    let w = c.requires.0 in
    let a = c.args in
    let p = c.find in
    (subst Within (sym c.price_of.ensures) (sound-at a.levels.now a.count (p.low + (p.high - p.low) / 2) (omega (arith, p.invariant.1)) (omega (arith, w.few)) w.within), c.requires.1)

pub find-preserved-then-is_ahead : goal.find-preserved-then-is_ahead
find-preserved-then-is_ahead c =
    let w = c.requires.0 in
    let a = c.args in
    let p = c.find in
    let lt : p.low < p.high = c.find-test.true in
    let m = p.low + (p.high - p.low) / 2 in
    let long = length-take-le a.count a.levels.now (omega (arith, w.few)) in (
      bracket-up level_price a.side (take a.count a.levels.now) (value (number a.price)) w.sorted m no_level (omega arith) p.low p.high p.invariant.0 (omega arith)
          (ahead-at a.levels.now a.count m (omega arith) c.price_of.result a.price c.compare.result c.price_of.ensures c.compare.ensures a.side c.is_ahead.result true c.is_ahead.ensures c.if-is_ahead.true),
      p.invariant.1,
    )

pub find-preserved : goal.find-preserved
find-preserved c =
    let w = c.requires.0 in
    let a = c.args in
    let p = c.find in
    let lt : p.low < p.high = c.find-test.true in
    let m = p.low + (p.high - p.low) / 2 in
    let long = length-take-le a.count a.levels.now (omega (arith, w.few)) in (
      bracket-down level_price a.side (take a.count a.levels.now) (value (number a.price)) w.sorted m no_level (omega arith) p.low p.high p.invariant.0 (omega arith)
          (ahead-at a.levels.now a.count m (omega arith) c.price_of.result a.price c.compare.result c.price_of.ensures c.compare.ensures a.side c.is_ahead.result false c.is_ahead.ensures c.if-is_ahead.false),
      omega arith,
    )

pub returns : goal.returns
returns c =
    let a = c.args in
    sym (bracket-place level_price a.side (take a.count a.levels.now) (value (number a.price)) c.find.low c.find.high c.find.invariant.0 c.find-test.false)

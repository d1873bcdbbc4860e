-- `cut` meets its contract: the orders passed, with those that are still let in behind them, are the best prices.
use Prim.Native.Nat.{ℕ, suc, ◌+◌, ◌-◌, ◌<◌}
use mathlib.Core.Path.{◌≡◌, sym, ap, ◌∙◌}
use mathlib.Core.Bool.{true, false}
use mathlib.Core.List.{◌++◌}
use native.Mathlib.Omega.{arith}
use lib.ListN.{length, take, drop}
use Rattle.decimal.specs.Decimal.{number, value}
use Rattle.orders.specs.Orders.{at_prices, best_prices}
use Rattle.orders.specs.Words.{coded, no_order}
use Rattle.orders.specs.Words.{held}
use Rattle.orders.proofs.Held.{held-length}
use Rattle.orders.proofs.Priced.{key-at, sound-read, differs-at}
use Rattle.orders.proofs.Best.{up_to, best-start, best-zero, turn-same, turn-next, turn-full, turn_end}
use Rattle.orders.proofs.cutting.cut.Goals as goal
use Rattle.orders.proofs.cutting.cut.Goals.{then-depth-eq0-via-then-depth-eq0, then-depth-eq0-via-else-depth-eq0+then-count-eq0, then-is_ne+else-more-eq0, else-is_ne}

pub returns-then-depth-eq0 : goal.returns-then-depth-eq0
unfolding held best_prices at_prices
returns-then-depth-eq0 c =
    let S = held c.args.words.now c.args.count in
    record {
      within = omega arith;
      orders =
          elim c.then-depth-eq0.branch [
            | then-depth-eq0-via-then-depth-eq0 w ↦ sym (ap (λ (d : ℕ). best_prices coded d S) w.if-depth-eq0.true ∙ best-zero coded S)
            | then-depth-eq0-via-else-depth-eq0+then-count-eq0 w ↦ rw w.if-count-eq0.true
          ];
    }

pub loop-i-init : goal.loop-i-init
loop-i-init c =
    let a = c.args in
    let n : 0 < a.count = omega arith in
    let S = held a.words.now a.count in
    let l = held-length a.words.now a.count c.requires.room in
    let d : suc (a.depth - 1) ≡ a.depth = omega arith in
    let this = key-at a.words.now a.count 0 n c.order_at.result c.order_at.ensures c.price_of-price.result c.price_of-price.ensures in (
      sound-read a.words.now a.count 0 n c.order_at.result c.order_at.ensures c.price_of-price.result c.price_of-price.ensures c.requires.room c.requires.sound,
      ap (λ (q : ℕ). take 1 S ++ up_to coded q (a.depth - 1) (drop 1 S)) (sym this)
          ∙ best-start coded a.side (a.depth - 1) S no_order (omega (arith, l)) c.requires.sorted
          ∙ ap (λ (q : ℕ). best_prices coded q S) d,
    )

pub compare-requires : goal.compare-requires
compare-requires c =
    let a = c.args in
    (sound-read a.words.now a.count c.loop-i.i c.loop-i-test.true c.order_at-in-loop-i.result c.order_at-in-loop-i.ensures c.price_of-this.result c.price_of-this.ensures c.requires.room c.requires.sound, c.loop-i.invariant.0)

pub returns-then-more-eq0 : goal.returns-then-more-eq0
returns-then-more-eq0 c =
    let a = c.args in
    let p = c.loop-i in
    let S = held a.words.now a.count in
    let l = held-length a.words.now a.count c.requires.room in
    let h = c.loop-i-test.true in
    let lt : p.i < length S = omega (arith, l, h) in
    let other = differs-at a.words.now a.count p.i h c.order_at-in-loop-i.result c.order_at-in-loop-i.ensures c.price_of-this.result c.price_of-this.ensures p.price c.compare.result c.compare.ensures c.is_ne.result c.is_ne.ensures true c.if-is_ne.true in
    let full : p.more ≡ 0 = c.if-more-eq0.true in
    record {
      within = omega (arith, lt);
      orders =
          turn-full coded S p.i no_order lt (value (number p.price)) other
          ∙ ap (λ (m : ℕ). take p.i S ++ up_to coded (value (number p.price)) m (drop p.i S)) (sym full) ∙ p.invariant.1;
    }

pub loop-i-preserved : goal.loop-i-preserved
loop-i-preserved c =
    let a = c.args in
    let p = c.loop-i in
    let S = held a.words.now a.count in
    let l = held-length a.words.now a.count c.requires.room in
    let h = c.loop-i-test.true in
    let lt : p.i < length S = omega (arith, l, h) in
    let differs = differs-at a.words.now a.count p.i h c.order_at-in-loop-i.result c.order_at-in-loop-i.ensures c.price_of-this.result c.price_of-this.ensures p.price c.compare.result c.compare.ensures c.is_ne.result c.is_ne.ensures in
    let this = key-at a.words.now a.count p.i h c.order_at-in-loop-i.result c.order_at-in-loop-i.ensures c.price_of-this.result c.price_of-this.ensures in
    let fits = sound-read a.words.now a.count p.i h c.order_at-in-loop-i.result c.order_at-in-loop-i.ensures c.price_of-this.result c.price_of-this.ensures c.requires.room c.requires.sound in
    elim c.if-is_ne.branch [
      | then-is_ne+else-more-eq0 w ↦
          let m : suc (p.more - 1) ≡ p.more = omega (arith, w.if-more-eq0.false) in
          rw (w.price-is, w.more-is) (
            fits,
            ap (λ (q : ℕ). take (p.i + 1) S ++ up_to coded q (p.more - 1) (drop (p.i + 1) S)) (sym this)
                ∙ turn-next coded S p.i no_order lt (value (number p.price)) (p.more - 1) (differs true w.if-is_ne.true)
                ∙ ap (λ (k : ℕ). take p.i S ++ up_to coded (value (number p.price)) k (drop p.i S)) m ∙ p.invariant.1,
          )
      | else-is_ne w ↦
          rw (w.price-is, w.more-is)
          (p.invariant.0, turn-same coded S p.i no_order lt (value (number p.price)) p.more (differs false w.if-is_ne.false) ∙ p.invariant.1)
    ]

pub returns : goal.returns
returns c =
    let a = c.args in
    let p = c.loop-i in
    let S = held a.words.now a.count in
    let l = held-length a.words.now a.count c.requires.room in
    let e : p.i ≡ a.count = omega (arith, c.loop-i-test.false) in
    record {
      within = omega (arith, l);
      orders = ap (λ (i : ℕ). take i S) (sym e) ∙ turn_end coded S p.i (value (number p.price)) p.more (omega (arith, l)) ∙ p.invariant.1;
    }

-- `delete` meets its contract: the order that stands there is taken out.
use mathlib.Core.Path.{refl, ap, ◌∙◌}
use native.Mathlib.Omega.{arith}
use Rattle.decimal.specs.Decimal.{value}
use Rattle.order_edit.specs.Buffer.{order_entry}
use Rattle.orders.specs.Orders.{taken}
use Rattle.orders.specs.Words.{held, order_for}
use Rattle.orders.specs.Kept.{StandsAt, outcome, count_of}
use Rattle.orders.proofs.Held.{held-length}
use Rattle.orders.proofs.Sounds.{entry-price}
use Rattle.orders.proofs.Steps.{stands-nowhere, stands-there, gone-there}
use Rattle.orders.proofs.applying.delete.Goals as goal

pub returns-in_err-at : goal.returns-in_err-at
unfolding StandsAt outcome count_of order_for
returns-in_err-at c =
    let a = c.args in
    let e = order_entry a.entry in
    rw c.from_residual.ensures
    (record {
      room = refl;
      outcome = rw (stands-nowhere (held a.words.now a.count) (order_for e) (value e.price) (ap value (entry-price e c.requires.2)) c.in_err-at.ensures);
      few = omega arith;
    })

pub remove-requires : goal.remove-requires
unfolding StandsAt
remove-requires c =
    let l = held-length c.args.words.now c.args.count c.requires.0 in
    let f = c.in_ok-at.ensures in
    (c.requires.0, omega (arith, l, f.0.within))

pub overflow_sub-result : goal.overflow_sub-result
unfolding StandsAt
overflow_sub-result c =
    let l = held-length c.args.words.now c.args.count c.requires.0 in
    let f = c.in_ok-at.ensures in
    omega (arith, l, f.0.within)

pub returns : goal.returns
unfolding StandsAt outcome count_of order_for
returns c =
    let a = c.args in
    let at = c.in_ok-at.at in
    let S = held a.words.now a.count in
    let e = order_entry a.entry in
    let p = ap value (entry-price e c.requires.2) in
    let f = c.in_ok-at.ensures in
    let w = c.remove.ensures in
    record {
      room = w.room;
      outcome =
          rw (stands-there S (order_for e) (value e.price) at p f.0 f.1)
          (ap taken (w.orders ∙ gone-there S (order_for e) (value e.price) at p f.0));
      few = omega arith;
    }

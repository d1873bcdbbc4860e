-- `modify` meets its contract: the order that stands there is resized in its place, and its sum is made anew.
use Prim.Native.Nat.{suc, ◌<◌}
use mathlib.Core.Path.{◌≡◌, refl, sym, ap, ap₂, ◌∙◌}
use mathlib.Core.List.{◌∷◌, ◌++◌}
use native.Mathlib.Omega.{arith}
use lib.ListN.{get_or, take, drop}
use Rattle.decimal.specs.Decimal.{Number, number, value}
use Rattle.level.specs.declared.Level.{Level}
use Rattle.order_edit.specs.Buffer.{order_entry}
use Rattle.orders.specs.declared.Order.{Order}
use Rattle.orders.specs.Orders.{taken}
use Rattle.orders.specs.Words.{level_of_order, order_price, order_size, resized_order, held, no_order, order_for}
use Rattle.orders.specs.Kept.{StandsAt, outcome, count_of}
use Rattle.orders.proofs.Held.{held-length, held_at}
use Rattle.orders.proofs.Sounds.{entry-price, entry-size}
use Rattle.orders.proofs.Priced.{sound-read}
use Rattle.orders.proofs.Steps.{stands-nowhere, stands-there, changed-there, put-held}
use Rattle.orders.proofs.applying.modify.Goals as goal

pub returns-in_err-at : goal.returns-in_err-at
unfolding StandsAt outcome count_of order_for
returns-in_err-at c =
    let a = c.args in
    let e = order_entry a.entry in
    rw c.from_residual.ensures
    (record {
      room = refl;
      outcome = rw (stands-nowhere (held a.words.now a.count) (order_for e) (value e.price) (ap value (entry-price e c.requires.2)) c.in_err-at.ensures);
      few = omega arith;
    })

pub order_at-found-requires : goal.order_at-found-requires
unfolding StandsAt
order_at-found-requires c =
    let l = held-length c.args.words.now c.args.count c.requires.0 in
    let f = c.in_ok-at.ensures in
    omega (arith, l, f.0.within, c.requires.0)

pub level_of-level-requires : goal.level_of-level-requires
unfolding StandsAt
level_of-level-requires c =
    let a = c.args in
    let l = held-length a.words.now a.count c.requires.0 in
    let f = c.in_ok-at.ensures in
    let h : c.in_ok-at.at < a.count = omega (arith, l, f.0.within) in
    (sound-read a.words.now a.count c.in_ok-at.at h c.order_at-found.result c.order_at-found.ensures c.price_of-price.result c.price_of-price.ensures c.requires.0 c.requires.1, c.requires.2.size, c.requires.3)

pub put_order-requires : goal.put_order-requires
unfolding StandsAt
put_order-requires c =
    let l = held-length c.args.words.now c.args.count c.requires.0 in
    let f = c.in_ok-at.ensures in
    omega (arith, l, f.0.within, c.requires.0)

-- the order that is put is the one that stood there, resized
resized : (found standing : Order) → found ≡ standing → (price size : Number) (x : Order) → price ≡ order_price found → order_size x ≡ size → (level : Level) → level ≡ level_of_order price size
    → ◌≡◌ {A = Order} (record { level = level; id = found.id }) (resized_order standing x)
unfolding resized_order
resized found standing is price size x p z level l =
    ap (λ (y : Level). record { level = y; id = found.id }) (l ∙ ap₂ level_of_order p (sym z)) ∙ ap (λ (y : Order). record { level = level_of_order (order_price y) (order_size x); id = y.id }) is

pub returns : goal.returns
unfolding StandsAt outcome count_of order_for
returns c =
    let a = c.args in
    let at = c.in_ok-at.at in
    let S = held a.words.now a.count in
    let e = order_entry a.entry in
    let p = ap value (entry-price e c.requires.2) in
    let l = held-length a.words.now a.count c.requires.0 in
    let f = c.in_ok-at.ensures in
    let h : at < a.count = omega (arith, l, f.0.within) in
    let w = c.put_order.ensures in
    let x =
    resized c.order_at-found.result (get_or S at no_order) (c.order_at-found.ensures ∙ sym (held_at a.words.now a.count at h)) (number c.price_of-price.result) e.size (order_for e) c.price_of-price.ensures (entry-size e c.requires.2) c.level_of-level.result c.level_of-level.ensures in
    record {
      room = w.room;
      outcome =
          rw (stands-there S (order_for e) (value e.price) at p f.0 f.1)
          (ap taken
          (put-held a.words.now a.count at _ _ c.requires.0 h w
          ∙ ap (λ (y : Order). take at S ++ y ∷ drop (suc at) S) x
          ∙ changed-there S (order_for e) (value e.price) at p f.0));
      few = omega arith;
    }

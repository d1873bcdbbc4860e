-- `standing` meets its contract: the order that was found stands at the price, or none does.
use Prim.Native.Nat.{◌<◌}
use mathlib.Core.Path.{◌∙◌}
use mathlib.Core.Bool.{true, false}
use native.Mathlib.Omega.{arith}
use Rattle.decimal.specs.Decimal.{number, value}
use Rattle.order_edit.specs.Ids.{id_words}
use Rattle.orders.specs.Words.{coded, held}
use Rattle.orders.specs.Kept.{FoundId, StandsAt}
use Rattle.orders.proofs.Held.{held-length}
use Rattle.orders.proofs.Ids.{stands_at-none}
use Rattle.orders.proofs.Priced.{sound-read, equal-at}
use Rattle.orders.proofs.Steps.{first-price}
use Rattle.orders.proofs.searching.standing.Goals as goal

pub returns-in_err-at : goal.returns-in_err-at
unfolding FoundId StandsAt
returns-in_err-at c = let a = c.args in rw c.from_residual.ensures (stands_at-none coded (id_words a.id) (value (number a.price)) (held a.words.now a.count) c.in_err-at.ensures)

pub order_at-requires : goal.order_at-requires
unfolding FoundId
order_at-requires c =
    let l = held-length c.args.words.now c.args.count c.requires.0 in
    let f = c.in_ok-at.ensures in
    omega (arith, l, f.within, c.requires.0)

pub compare-requires : goal.compare-requires
unfolding FoundId
compare-requires c =
    let a = c.args in
    let at = c.in_ok-at.at in
    let l = held-length a.words.now a.count c.requires.0 in
    let f = c.in_ok-at.ensures in
    let h : at < a.count = omega (arith, l, f.within) in
    (sound-read a.words.now a.count at h c.order_at.result c.order_at.ensures c.price_of-stood.result c.price_of-stood.ensures c.requires.0 c.requires.1, c.requires.2)

pub returns-then-is_eq : goal.returns-then-is_eq
unfolding FoundId StandsAt
returns-then-is_eq c =
    let a = c.args in
    let at = c.in_ok-at.at in
    let l = held-length a.words.now a.count c.requires.0 in
    let f = c.in_ok-at.ensures in
    let h : at < a.count = omega (arith, l, f.within) in
    (f, equal-at a.words.now a.count at h c.order_at.result c.order_at.ensures c.price_of-stood.result c.price_of-stood.ensures a.price c.compare.result c.compare.ensures c.is_eq.result c.is_eq.ensures true c.if-is_eq.true)

pub returns-else-is_eq : goal.returns-else-is_eq
unfolding FoundId StandsAt
returns-else-is_eq c =
    let a = c.args in
    let at = c.in_ok-at.at in
    let l = held-length a.words.now a.count c.requires.0 in
    let f = c.in_ok-at.ensures in
    let h : at < a.count = omega (arith, l, f.within) in
    first-price (held a.words.now a.count) (id_words a.id) at f (value (number a.price))
    ∙ equal-at a.words.now a.count at h c.order_at.result c.order_at.ensures c.price_of-stood.result c.price_of-stood.ensures a.price c.compare.result c.compare.ensures c.is_eq.result c.is_eq.ensures false c.if-is_eq.false

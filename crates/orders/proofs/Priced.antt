-- What the calls on an order of a side say of its price. Assumes nothing.
use Prim.Native.Nat.{ℕ, ◌*◌, ◌<◌, ◌≤◌}
use mathlib.Core.Path.{◌≡◌, refl, sym, ap, ◌∙◌, subst}
use mathlib.Core.Bool.{Bool, not}
use mathlib.Core.List.{List}
use native.Mathlib.Omega.{arith}
use lib.Dec.{eqb}
use lib.ListN.{length, get_or}
use Rattle.decimal.specs.Decimal.{number, value}
use Rattle.decimal.specs.Limits.{Within, order}
use Rattle.decimal.specs.declared.Decimal.{Decimal}
use Rattle.edit.specs.declared.Side.{Side}
use Rattle.level.specs.Side.{nearer}
use Rattle.level.specs.Order.{ahead_of}
use Rattle.std.specs.declared.cmp.Ordering.{Ordering}
use Rattle.std.specs.declared.cmp.Ordering.TheVariants.{Less, Equal, Greater}
use Rattle.std.specs.Ordering.{is_eq, is_ne}
use Rattle.level.specs.Ranked.{All}
use Rattle.level.proofs.All.{all-at}
use Rattle.level.proofs.Order.{ahead-is, equal_is}
use Rattle.orders.specs.declared.Order.{Order}
use Rattle.orders.specs.Words.{order_price, orders_in, held, no_order, Sound}
use Rattle.orders.proofs.Held.{held-length, held_at}

-- the answer of `is_eq` on two decimals
equal-said : (a b : Decimal) (o : Ordering) → o ≡ order (number a) (number b) → (t : Bool) → t ≡ is_eq o → (u : Bool) → t ≡ u → eqb (value (number a)) (value (number b)) ≡ u
unfolding order
equal-said a b o said t answer u f = sym (equal_is (value (number a)) (value (number b))) ∙ ap is_eq (sym said) ∙ sym answer ∙ f

eq-unless-ne : (o : Ordering) → is_eq o ≡ not (is_ne o)
eq-unless-ne Less = refl
eq-unless-ne Equal = refl
eq-unless-ne Greater = refl

-- p is the price of the order at k
module _ (words : List ℕ) (n k : ℕ) (h : k < n) (x : Order) (is : x ≡ get_or (orders_in words) k no_order) (p : Decimal) (named : number p ≡ order_price x) where
  pub key-at : value (order_price (get_or (held words n) k no_order)) ≡ value (number p)
  key-at = ap (λ (y : Order). value (order_price y)) (held_at words n k h ∙ sym is) ∙ ap value (sym named)

  pub sound-read : 6 * n ≤ length words → All Sound (held words n) → Within (number p)
  sound-read room a =
      let at = subst Sound (held_at words n k h ∙ sym is) (all-at Sound (held words n) k no_order (omega (arith, held-length words n room)) a) in
      subst Within (sym named) at.price

  -- the answer of `is_ahead` on a price and the order at k
  pub ahead-said : (side : Side) (price : Decimal) (o : Ordering) → o ≡ order (number price) (number p) → (t : Bool) → t ≡ ahead_of side o → (u : Bool) → t ≡ u
      → nearer side (value (number price)) (value (order_price (get_or (held words n) k no_order))) ≡ u
  unfolding order
  ahead-said side price o said t answer u f =
      ap (nearer side (value (number price))) key-at
      ∙ sym (ahead-is side (value (number price)) (value (number p))) ∙ ap (ahead_of side) (sym said) ∙ sym answer ∙ f

  -- the answer of `is_eq` on the order at k and a price
  pub equal-at : (price : Decimal) (o : Ordering) → o ≡ order (number p) (number price) → (t : Bool) → t ≡ is_eq o → (u : Bool) → t ≡ u
      → eqb (value (order_price (get_or (held words n) k no_order))) (value (number price)) ≡ u
  equal-at price o said t answer u f = ap (λ (q : ℕ). eqb q (value (number price))) key-at ∙ equal-said p price o said t answer u f

  -- the answer of `is_ne`
  pub differs-at : (price : Decimal) (o : Ordering) → o ≡ order (number p) (number price) → (t : Bool) → t ≡ is_ne o → (u : Bool) → t ≡ u
      → eqb (value (order_price (get_or (held words n) k no_order))) (value (number price)) ≡ not u
  differs-at price o said t answer u f = equal-at price o said (is_eq o) refl (not u) (eq-unless-ne o ∙ ap not (sym answer ∙ f))

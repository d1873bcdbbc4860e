-- `before` is a strict order of numbers on each of the two sides, total up to equality, and is what the order by value says.
-- Assumes nothing.
use Prim.Native.Nat.{ℕ}
use mathlib.Core.Path.{◌≡◌, refl, sym}
use mathlib.Core.Bool.{Bool, true, false}
use native.Mathlib.Omega.{arith}
use lib.Dec.{eqb}
use borrow.Author.Tests.{ltb-true, ltb-false, eq-eqb, ne_eqb}
use Rattle.decimal.specs.Limits.{order_of}
use Rattle.std.specs.declared.cmp.Ordering.{Ordering}
use Rattle.std.specs.declared.cmp.Ordering.TheVariants.{Less, Equal, Greater}
use Rattle.std.specs.Ordering.{is_eq}
use Rattle.decimal.proofs.ByValue.{Holds, order-holds}
use Rattle.edit.specs.declared.Side.{Side}
use Rattle.edit.specs.declared.Side.TheVariants.{Bids, Asks}
use Rattle.level.specs.Side.{nearer}
use Rattle.level.specs.Order.{ahead_of}

not-false : (b : Bool) → (b ≡ false → ⊥) → b ≡ true
not-false true n = refl
not-false false n = absurd (n refl)

not-true : (b : Bool) → (b ≡ true → ⊥) → b ≡ false
not-true true n = absurd (n refl)
not-true false n = refl

pub before-ne : (side : Side) (x y : ℕ) → nearer side x y ≡ true → x ≡ y → ⊥
before-ne Bids x y h e = omega (arith, ltb-true)
before-ne Asks x y h e = omega (arith, ltb-true)

pub before-trans : (side : Side) (x y z : ℕ) → nearer side x y ≡ true → nearer side y z ≡ true → nearer side x z ≡ true
before-trans Bids x y z h k = not-false (nearer Bids x z) (λ q. omega (arith, ltb-true, ltb-false))
before-trans Asks x y z h k = not-false (nearer Asks x z) (λ q. omega (arith, ltb-true, ltb-false))

pub before-asym : (side : Side) (x y : ℕ) → nearer side x y ≡ true → nearer side y x ≡ false
before-asym Bids x y h = not-true (nearer Bids y x) (λ q. omega (arith, ltb-true, ltb-false))
before-asym Asks x y h = not-true (nearer Asks y x) (λ q. omega (arith, ltb-true, ltb-false))

-- one of two different prices is before the other
pub before-or-after : (side : Side) (x y : ℕ) → nearer side x y ≡ false → (x ≡ y → ⊥) → nearer side y x ≡ true
before-or-after Bids x y h n = not-false (nearer Bids y x) (λ q. omega (arith, ltb-true, ltb-false))
before-or-after Asks x y h n = not-false (nearer Asks y x) (λ q. omega (arith, ltb-true, ltb-false))

pub not-before-trans : (side : Side) (x y z : ℕ) → nearer side x y ≡ false → nearer side y z ≡ false → nearer side x z ≡ false
not-before-trans Bids x y z h k = not-true (nearer Bids x z) (λ q. omega (arith, ltb-true, ltb-false))
not-before-trans Asks x y z h k = not-true (nearer Asks x z) (λ q. omega (arith, ltb-true, ltb-false))

-- what x is before is no nearer the top than z, where x is not
pub after-not-before : (side : Side) (x y z : ℕ) → nearer side x y ≡ true → nearer side x z ≡ false → nearer side y z ≡ false
after-not-before side x y z h k = not-before-trans side y x z (before-asym side x y h) k

-- what is not before y is behind what is before y
pub before-through : (side : Side) (x y z : ℕ) → nearer side x y ≡ true → nearer side z y ≡ false → nearer side x z ≡ true
before-through Bids x y z h k = not-false (nearer Bids x z) (λ q. omega (arith, ltb-true, ltb-false))
before-through Asks x y z h k = not-false (nearer Asks x z) (λ q. omega (arith, ltb-true, ltb-false))

-- ---- the answer of a comparison

ahead-at : (side : Side) (x y : ℕ) (o : Ordering) → Holds o x y → ahead_of side o ≡ nearer side x y
ahead-at Bids x y Less h = sym (not-true (nearer Bids x y) (λ q. omega (arith, ltb-true)))
ahead-at Bids x y Equal h = sym (not-true (nearer Bids x y) (λ q. omega (arith, ltb-true)))
ahead-at Bids x y Greater h = sym (not-false (nearer Bids x y) (λ q. omega (arith, ltb-false)))
ahead-at Asks x y Less h = sym (not-false (nearer Asks x y) (λ q. omega (arith, ltb-false)))
ahead-at Asks x y Equal h = sym (not-true (nearer Asks x y) (λ q. omega (arith, ltb-true)))
ahead-at Asks x y Greater h = sym (not-true (nearer Asks x y) (λ q. omega (arith, ltb-true)))

pub ahead-is : (side : Side) (x y : ℕ) → ahead_of side (order_of x y) ≡ nearer side x y
ahead-is side x y = ahead-at side x y (order_of x y) (order-holds x y)

equal-at : (x y : ℕ) (o : Ordering) → Holds o x y → is_eq o ≡ eqb x y
equal-at x y Less h = sym (ne_eqb x y (λ e. omega arith))
equal-at x y Equal h = sym (eq-eqb x y h)
equal-at x y Greater h = sym (ne_eqb x y (λ e. omega arith))

pub equal_is : (x y : ℕ) → is_eq (order_of x y) ≡ eqb x y
equal_is x y = equal-at x y (order_of x y) (order-holds x y)

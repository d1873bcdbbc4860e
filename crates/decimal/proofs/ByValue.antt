-- Laws of the value and of the order by value. Assumes nothing.
use Rattle.std.proofs.Common.{◌≡◌, ℕ, zero, suc, ◌+◌, ◌-◌, ◌*◌, ◌^◌, ◌<◌, ◌≤◌, Bool, true, false, eqb, ltb, ◌↔◌, sym, refl, ap, ◌∙◌, subst, zero-le, le_trans, lt_of_lt_of_le, mul_assoc, mul_comm, mul-lt-mul_of_pos_right, zero-mul, mul_left_comm, arith, lit<, lit≤, pow-add, ltb-false, ltb-true, le-ltb, lt-ltb, eq-eqb, ne_eqb, eqb-true}
use native.Mathlib.Nat.{eq_of_mul-eq-mul_right}
use borrow.Author.Tests.{eqb-false}
use lib.Arith.{lt_of_le-ne}
use Rattle.decimal.specs.Decimal.{Number, value, is_zero, near, max_decimals, max_whole}
use Rattle.decimal.specs.Limits.{order_of, Within}
use Rattle.std.specs.declared.cmp.Ordering.{Ordering}
use Rattle.std.specs.declared.cmp.Ordering.TheVariants.{Less, Equal, Greater}
use Rattle.decimal.proofs.Digits.{tens, tens-mono}

-- ---- the three answers

pub less : (x y : ℕ) → x < y → order_of x y ≡ Less
unfolding order_of
less x y h = rw (lt-ltb x y h, order_of)

pub equal : (x y : ℕ) → x ≡ y → order_of x y ≡ Equal
unfolding order_of
equal x y h = rw (le-ltb x y (omega arith), eq-eqb x y h, order_of)

pub greater : (x y : ℕ) → y < x → order_of x y ≡ Greater
unfolding order_of
greater x y h = rw (le-ltb x y (omega arith), ne_eqb x y (λ e. omega arith), order_of)

pub scaled : (x y p : ℕ) → 0 < p → order_of (x * p) (y * p) ≡ order_of x y
scaled x y p h = at (ltb x y) (eqb x y) refl refl
  where
    at : (s t : Bool) → ltb x y ≡ s → eqb x y ≡ t → order_of (x * p) (y * p) ≡ order_of x y
    at true t e f =
        let l : x < y = ltb-true x y e in
        less (x * p) (y * p) (mul-lt-mul_of_pos_right l h) ∙ sym (less x y l)
    at false true e f =
        let q : x ≡ y = eqb-true x y f in
        equal (x * p) (y * p) (ap (λ (n : ℕ). n * p) q) ∙ sym (equal x y q)
    at false false e f =
        let l : y ≤ x = ltb-false x y e in
        let n : x ≡ y → ⊥ = eqb-false x y f in
        let g : y < x = omega arith in
        greater (x * p) (y * p) (mul-lt-mul_of_pos_right g h) ∙ sym (greater x y g)

-- the digits of a decimal within the limits fit 64 bits with nine decimals
pub raised-fits : (n : Number) (j : ℕ) → Within n → n.decimals ≤ j → j ≤ near → n.digits * 10 ^ (j - n.decimals) < 2 ^ 64
raised-fits n j w l m =
    let q : max_whole + n.decimals + (j - n.decimals) ≡ max_whole + j = omega arith in
    let h : n.digits * 10 ^ (j - n.decimals) < 10 ^ (max_whole + j) =
    subst (λ (x : ℕ). n.digits * 10 ^ (j - n.decimals) < x) (sym (pow-add 10 (max_whole + n.decimals) (j - n.decimals)) ∙ ap (λ (x : ℕ). 10 ^ x) q)
    (mul-lt-mul_of_pos_right w.low (tens (j - n.decimals))) in
    let k : 10 ^ (max_whole + j) ≤ 10 ^ (max_whole + near) = tens-mono (max_whole + j) (max_whole + near) (omega arith) in
    lt_of_lt_of_le h (le_trans k (lit≤ tt))

-- ---- equal value is an equivalence, and the order is total and decides it

pub SameValue : Number → Number → Type 0
SameValue a b = value a ≡ value b

pub same_refl : (a : Number) → SameValue a a
unfolding SameValue
same_refl a = refl

pub same-sym : (a b : Number) → SameValue a b → SameValue b a
unfolding SameValue
same-sym a b e = sym e

pub same-trans : (a b c : Number) → SameValue a b → SameValue b c → SameValue a c
unfolding SameValue
same-trans a b c e f = e ∙ f

-- the value is that of the fraction: two are equal where they are once written over one power of ten
pub value-ratio : (a b : Number) → a.decimals ≤ max_decimals → b.decimals ≤ max_decimals →
    (value a ≡ value b) ↔ (a.digits * 10 ^ b.decimals ≡ b.digits * 10 ^ a.decimals)
unfolding value
value-ratio a b la lb = (to, from)
  where
    P : ℕ
    P = 10 ^ (max_decimals - a.decimals)

    Q : ℕ
    Q = 10 ^ (max_decimals - b.decimals)

    whole : (k : ℕ) → k ≤ max_decimals → 10 ^ (max_decimals - k) * 10 ^ k ≡ 10 ^ max_decimals
    whole k l = let q : (max_decimals - k) + k ≡ max_decimals = omega arith in sym (pow-add 10 (max_decimals - k) k) ∙ ap (λ (n : ℕ). 10 ^ n) q

    -- each side times both powers
    left : a.digits * P * (10 ^ a.decimals * 10 ^ b.decimals) ≡ a.digits * 10 ^ b.decimals * 10 ^ max_decimals
    left = shape a.digits P (10 ^ a.decimals) (10 ^ b.decimals) ∙ ap (λ (n : ℕ). a.digits * 10 ^ b.decimals * n) (whole a.decimals la)
      where
        shape : (d p x y : ℕ) → d * p * (x * y) ≡ d * y * (p * x)
        shape d p x y = mul_assoc d p (x * y) ∙ ap (λ (n : ℕ). d * n) (sym (mul_assoc p x y) ∙ mul_comm (p * x) y) ∙ sym (mul_assoc d y (p * x))

    right : b.digits * Q * (10 ^ a.decimals * 10 ^ b.decimals) ≡ b.digits * 10 ^ a.decimals * 10 ^ max_decimals
    right = shape b.digits Q (10 ^ a.decimals) (10 ^ b.decimals) ∙ ap (λ (n : ℕ). b.digits * 10 ^ a.decimals * n) (whole b.decimals lb)
      where
        shape : (d p x y : ℕ) → d * p * (x * y) ≡ d * x * (p * y)
        shape d p x y = mul_assoc d p (x * y) ∙ ap (λ (n : ℕ). d * n) (mul_left_comm p x y) ∙ sym (mul_assoc d x (p * y))

    to : a.digits * P ≡ b.digits * Q → a.digits * 10 ^ b.decimals ≡ b.digits * 10 ^ a.decimals
    to e = eq_of_mul-eq-mul_right (10 ^ max_decimals) (lit< tt) _ _ (sym left ∙ ap (λ (n : ℕ). n * (10 ^ a.decimals * 10 ^ b.decimals)) e ∙ right)

    pos : 0 < 10 ^ a.decimals * 10 ^ b.decimals
    pos = subst (λ (n : ℕ). 0 < n) (pow-add 10 a.decimals b.decimals) (tens (a.decimals + b.decimals))

    from : a.digits * 10 ^ b.decimals ≡ b.digits * 10 ^ a.decimals → a.digits * P ≡ b.digits * Q
    from e = eq_of_mul-eq-mul_right (10 ^ a.decimals * 10 ^ b.decimals) pos _ _ (left ∙ ap (λ (n : ℕ). n * 10 ^ max_decimals) e ∙ sym right)

-- what an answer says of two numbers
abbrev pub Holds : Ordering → ℕ → ℕ → Type 0
Holds Less x y = x < y
Holds Equal x y = x ≡ y
Holds Greater x y = y < x

-- the order is total: whatever it answers holds. With `less`, `equal` and `greater` it so decides equality by value
pub order-holds : (x y : ℕ) → Holds (order_of x y) x y
order-holds x y = at (ltb x y) (eqb x y) refl refl
  where
    at : (s t : Bool) → ltb x y ≡ s → eqb x y ≡ t → Holds (order_of x y) x y
    at true t e f = let l : x < y = ltb-true x y e in subst (λ (o : Ordering). Holds o x y) (sym (less x y l)) l
    at false true e f = let q : x ≡ y = eqb-true x y f in subst (λ (o : Ordering). Holds o x y) (sym (equal x y q)) q
    at false false e f =
        let l : y ≤ x = ltb-false x y e in
        let n : x ≡ y → ⊥ = eqb-false x y f in
        let g : y < x = omega arith in
        subst (λ (o : Ordering). Holds o x y) (sym (greater x y g)) g

-- a decimal is zero where its value is
pub zero-value : (n : Number) → (is_zero n ≡ true) ↔ (value n ≡ 0)
unfolding is_zero value
zero-value n = (
  λ e. ap (λ (x : ℕ). x * 10 ^ (max_decimals - n.decimals)) (eqb-true n.digits 0 e) ∙ zero-mul (10 ^ (max_decimals - n.decimals)),
  λ e. eq-eqb n.digits 0 (eq_of_mul-eq-mul_right (10 ^ (max_decimals - n.decimals)) (tens (max_decimals - n.decimals)) n.digits 0 (e ∙ sym (zero-mul (10 ^ (max_decimals - n.decimals))))),
)

-- ---- a number that is none of 0 to n - 1 and at most n is n: what the last arm of a `match` knows

abbrev pub NoneBelow : ℕ → ℕ → Type 0
NoneBelow zero i = Unit
NoneBelow (suc n) i = NoneBelow n i × (i ≡ n → ⊥)

above : (n i : ℕ) → NoneBelow n i → n ≤ i
above zero i r = zero-le
above (suc n) i r = lt_of_le-ne (above n i r.0) (λ e. r.1 (sym e))

pub last_arm : (n i : ℕ) → i ≤ n → NoneBelow n i → n ≡ i
last_arm n i h r = let a : n ≤ i = above n i r in omega arith

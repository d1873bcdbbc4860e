-- Laws of the two words that a decimal is kept in: what a code tells, the value as what counts in the ninth decimal and what is left of one, and the
-- order by these. Assumes nothing.
use Rattle.std.proofs.Common.{◌≡◌, ℕ, zero, suc, ◌+◌, ◌-◌, ◌*◌, ◌/◌, ◌%◌, ◌^◌, ◌<◌, ◌≤◌, Bool, true, false, cond, eqb, ltb, leb, sym, refl, ap, ◌∙◌, subst, ap₂, not-suc-le-zero, add-zero, le_of_lt, mod-lt, mul_assoc, add-mul, mul-lt-mul_of_pos_right, one-mul, div-add-mod', zero-add, zero-mul, mul-one, div-one, arith, lit<, lit≤, pow-add, ltb-false, ltb-true, le-ltb, lt-ltb, ne_eqb, eqb-true, le-leb, leb-false, leb-true}
use native.Mathlib.Nat.{mod-one}
use borrow.Author.Tests.{lt-leb, eqb-false}
use lib.Arith.{digits_div, digits_mod}
use Rattle.decimal.specs.Decimal.{Number, near, far_of, past_of, decimals_of, number_of, value, is_zero, max_decimals}
use Rattle.decimal.specs.Limits.{order_of, order, Within}
use Rattle.decimal.specs.Words.{upper_of, lower_of, digits_near, digits_past, code_of, parts_of, tidy_of, Tidied}
use Rattle.decimal.specs.declared.Parts.{Parts}
use Rattle.decimal.proofs.Digits.{tens, tens-mono}
use Rattle.decimal.proofs.ByValue.{less, equal, greater, scaled, raised-fits}

-- ---- what a code tells

module _ (code : ℕ) where
  pub far_none : code < 10 → far_of code ≡ 0
  unfolding far_of
  far_none h = rw (lt-ltb code 10 h, far_of)

  pub far-one : 10 ≤ code → code < 100 → far_of code ≡ 1
  unfolding far_of
  far-one l h = rw (le-ltb code 10 l, lt-ltb code 100 h, far_of)

  pub far-two : 100 ≤ code → code < 1000 → far_of code ≡ 2
  unfolding far_of
  far-two l h = rw (le-ltb code 10 (omega arith), le-ltb code 100 l, lt-ltb code 1000 h, far_of)

  pub far-three : 1000 ≤ code → far_of code ≡ 3
  unfolding far_of
  far-three l = rw (le-ltb code 10 (omega arith), le-ltb code 100 (omega arith), le-ltb code 1000 l, far_of)

  pub past-at : (j : ℕ) → far_of code ≡ j → past_of code ≡ code % 10 ^ j
  unfolding past_of
  past-at j e = ap (λ (n : ℕ). code % 10 ^ n) e

  pub past-none : code < 10 → past_of code ≡ 0
  past-none h = past-at 0 (far_none h) ∙ mod-one code

  pub past-low : past_of code < 10 ^ far_of code
  unfolding past_of
  past-low = mod-lt code (tens (far_of code))

  pub decimals-near : code < 10 → decimals_of code ≡ code
  unfolding decimals_of
  decimals-near h = rw (lt-ltb code 10 h, decimals_of)

  pub decimals-far : 10 ≤ code → decimals_of code ≡ near + far_of code
  unfolding decimals_of
  decimals-far h = rw (le-ltb code 10 h, decimals_of)

  -- one to three digits, by where the code is
  pub far_some : (P : ℕ → Type 0) → 10 ≤ code → (code < 100 → P 1) → (100 ≤ code → code < 1000 → P 2) → (1000 ≤ code → P 3) → P (far_of code)
  far_some P l one two three = at (ltb code 100) (ltb code 1000) refl refl
    where
      at : (s t : Bool) → ltb code 100 ≡ s → ltb code 1000 ≡ t → P (far_of code)
      at true t e f = let h : code < 100 = ltb-true code 100 e in subst P (sym (far-one l h)) (one h)
      at false true e f =
          let h : 100 ≤ code = ltb-false code 100 e in
          let k : code < 1000 = ltb-true code 1000 f in
          subst P (sym (far-two h k)) (two h k)
      at false false e f = let h : 1000 ≤ code = ltb-false code 1000 f in subst P (sym (far-three h)) (three h)

  pub far-few : 10 ≤ code → far_of code ≤ 3
  far-few l = far_some (λ (j : ℕ). j ≤ 3) l (λ h. lit≤ tt) (λ h k. lit≤ tt) (λ h. lit≤ tt)

-- up to nine decimals the words are the pair
pub number-near : (digits code : ℕ) → code < 10 → number_of digits code ≡ record { digits = digits; decimals = code }
unfolding number_of
number-near digits code h =
    let z : digits * 1 + 0 ≡ digits = omega arith in
    ap₂ (λ (x k : ℕ). record { digits = x; decimals = k }) (ap₂ (λ (j p : ℕ). digits * 10 ^ j + p) (far_none code h) (past-none code h) ∙ z) (decimals-near code h)

-- a 1 before one to three digits
module _ (j v : ℕ) (some : 0 < j) (few : j ≤ 3) (low : v < 10 ^ j) where
  pub after_one : 10 ≤ 10 ^ j + v
  after_one = let h : 10 ^ 1 ≤ 10 ^ j = tens-mono 1 j some in omega arith

  pub after-one-far : far_of (10 ^ j + v) ≡ j
  after-one-far = at j some few low
    where
      at : (k : ℕ) → 0 < k → k ≤ 3 → v < 10 ^ k → far_of (10 ^ k + v) ≡ k
      at zero p q l = absurd (not-suc-le-zero p)
      at (suc zero) p q l = far-one (10 + v) (omega arith) (omega arith)
      at (suc (suc zero)) p q l = far-two (100 + v) (omega arith) (omega arith)
      at (suc (suc (suc zero))) p q l = far-three (1000 + v) (omega arith)
      at (suc (suc (suc (suc k)))) p q l = absurd (omega arith)

  pub after-one-past : past_of (10 ^ j + v) ≡ v
  after-one-past =
      past-at (10 ^ j + v) j after-one-far
      ∙ ap (λ (n : ℕ). (n + v) % 10 ^ j) (sym (one-mul (10 ^ j)))
      ∙ digits_mod 1 low

  pub number-far : (digits : ℕ) → number_of digits (10 ^ j + v) ≡ record { digits = digits * 10 ^ j + v; decimals = near + j }
  unfolding number_of
  number-far digits =
      ap₂ (λ (x k : ℕ). record { digits = x; decimals = k })
      (ap₂ (λ (n p : ℕ). digits * 10 ^ n + p) after-one-far after-one-past)
      (decimals-far (10 ^ j + v) after_one ∙ ap (λ (n : ℕ). near + n) after-one-far)

-- a 1 before the digits that a code tells
pub tidied-near : (code : ℕ) → code < 10 → Tidied code code
unfolding tidy_of
tidied-near code h =
    record { is = sym (ap (λ (b : Bool). cond b code (10 ^ far_of code + past_of code)) (lt-ltb code 10 h)); far = refl; past = refl; decimals = refl; low = omega arith }

-- with j digits past the ninth decimal
pub tidied-far : (code j : ℕ) → 10 ≤ code → far_of code ≡ j → 0 < j → j ≤ 3 → Tidied code (10 ^ j + code % 10 ^ j)
unfolding tidy_of
tidied-far code j h e some few =
    let v = code % 10 ^ j in
    let low : code % 10 ^ j < 10 ^ j = mod-lt code (tens j) in
    let top : 10 ^ j ≤ 10 ^ 3 = tens-mono j 3 few in
    let f : far_of (10 ^ j + v) ≡ j = after-one-far j v some few low in
    record {
      is = sym (ap (λ (b : Bool). cond b code (10 ^ far_of code + past_of code)) (le-ltb code 10 h) ∙ ap₂ (λ (k p : ℕ). 10 ^ k + p) e (past-at code j e));
      far = f ∙ sym e;
      past = after-one-past j v some few low ∙ sym (past-at code j e);
      decimals = decimals-far (10 ^ j + v) (after_one j v some few low) ∙ ap (λ (n : ℕ). near + n) (f ∙ sym e) ∙ sym (decimals-far code h);
      low = omega arith;
    }

-- ---- the words of a number, and the number of words

module _ (digits code : ℕ) where
  beyond : decimals_of code - near ≡ far_of code
  beyond = at (ltb code 10) refl
    where
      at : (b : Bool) → ltb code 10 ≡ b → decimals_of code - near ≡ far_of code
      at true e =
          let h : code < 10 = ltb-true code 10 e in
          let d : decimals_of code ≡ code = decimals-near code h in
          let f : far_of code ≡ 0 = far_none code h in
          omega arith
      at false e = let d : decimals_of code ≡ near + far_of code = decimals-far code (ltb-false code 10 e) in omega arith

  pub near-words : digits_near (number_of digits code) ≡ digits
  unfolding digits_near number_of
  near-words = ap (λ (n : ℕ). (digits * 10 ^ far_of code + past_of code) / 10 ^ n) beyond ∙ digits_div digits (past-low code)

  pub past_words : digits_past (number_of digits code) ≡ past_of code
  unfolding digits_past number_of
  past_words = ap (λ (n : ℕ). (digits * 10 ^ far_of code + past_of code) % 10 ^ n) beyond ∙ digits_mod digits (past-low code)

  pub decimals-words : (number_of digits code).decimals ≡ decimals_of code
  unfolding number_of
  decimals-words = refl

  pub code-words : code_of (number_of digits code) ≡ tidy_of code
  unfolding code_of tidy_of
  code-words =
      ap₂ (λ (k p : ℕ). cond (leb k near) k (10 ^ (k - near) + p)) decimals-words past_words
      ∙ at (ltb code 10) refl
    where
      at : (b : Bool) → ltb code 10 ≡ b
          → cond (leb (decimals_of code) near) (decimals_of code) (10 ^ (decimals_of code - near) + past_of code) ≡ cond (ltb code 10) code (10 ^ far_of code + past_of code)
      at true e =
          let h : code < 10 = ltb-true code 10 e in
          let d : decimals_of code ≡ code = decimals-near code h in
          ap (λ (b : Bool). cond b (decimals_of code) (10 ^ (decimals_of code - near) + past_of code)) (le-leb (decimals_of code) near (omega arith))
          ∙ d ∙ sym (ap (λ (b : Bool). cond b code (10 ^ far_of code + past_of code)) e)
      at false e =
          let h : 10 ≤ code = ltb-false code 10 e in
          let d : decimals_of code ≡ near + far_of code = decimals-far code h in
          let f : 0 < far_of code = far_some code (λ (j : ℕ). 0 < j) h (λ k. lit< tt) (λ k l. lit< tt) (λ k. lit< tt) in
          ap (λ (b : Bool). cond b (decimals_of code) (10 ^ (decimals_of code - near) + past_of code)) (lt-leb (decimals_of code) near (omega arith))
          ∙ ap (λ (n : ℕ). 10 ^ n + past_of code) beyond
          ∙ sym (ap (λ (b : Bool). cond b code (10 ^ far_of code + past_of code)) e)

-- a number comes back out of its words
pub words-number : (n : Number) → n.decimals ≤ max_decimals → number_of (digits_near n) (code_of n) ≡ n
unfolding digits_near digits_past code_of
words-number n h = at (leb n.decimals near) refl
  where
    at : (b : Bool) → leb n.decimals near ≡ b → number_of (digits_near n) (code_of n) ≡ n
    at true e =
        let l : n.decimals ≤ near = leb-true n.decimals near e in
        let z : n.decimals - near ≡ 0 = omega arith in
        ap₂ number_of (ap (λ (k : ℕ). n.digits / 10 ^ k) z ∙ div-one n.digits) (ap (λ (b : Bool). cond b n.decimals (10 ^ (n.decimals - near) + digits_past n)) e)
        ∙ number-near n.digits n.decimals (omega arith)
    at false e =
        let l : near < n.decimals = leb-false n.decimals near e in
        let j = n.decimals - near in
        let d : near + (n.decimals - near) ≡ n.decimals = omega arith in
        ap (number_of (digits_near n)) (ap (λ (b : Bool). cond b n.decimals (10 ^ (n.decimals - near) + digits_past n)) e)
        ∙ number-far j (n.digits % 10 ^ j) (omega arith) (omega arith) (mod-lt n.digits (tens j)) (n.digits / 10 ^ j)
        ∙ ap₂ (λ (x k : ℕ). record { digits = x; decimals = k }) (div-add-mod' n.digits (10 ^ j)) d

-- its code has few bits
pub code-low : (n : Number) → n.decimals ≤ max_decimals → code_of n < 2000
unfolding digits_past code_of
code-low n h = at (leb n.decimals near) refl
  where
    at : (b : Bool) → leb n.decimals near ≡ b → code_of n < 2000
    at true e =
        let l : n.decimals ≤ near = leb-true n.decimals near e in
        subst (λ (k : ℕ). k < 2000) (sym (ap (λ (b : Bool). cond b n.decimals (10 ^ (n.decimals - near) + digits_past n)) e)) (omega arith)
    at false e =
        let j = n.decimals - near in
        let top : 10 ^ (n.decimals - near) ≤ 10 ^ 3 = tens-mono (n.decimals - near) 3 (omega arith) in
        let low : n.digits % 10 ^ (n.decimals - near) < 10 ^ (n.decimals - near) = mod-lt n.digits (tens (n.decimals - near)) in
        subst (λ (k : ℕ). k < 2000) (sym (ap (λ (b : Bool). cond b n.decimals (10 ^ (n.decimals - near) + digits_past n)) e)) (omega arith)

pub parts_low : (n : Number) (p : Parts) → n.decimals ≤ max_decimals → p ≡ parts_of n → p.code < 2000
parts_low n p h e = subst (λ (q : Parts). q.code < 2000) (sym e) (code-low n h)

-- ---- the value

pub lower-none : (code : ℕ) → code < 10 → lower_of code ≡ 0
unfolding lower_of
lower-none code h = ap (λ (n : ℕ). n * 10 ^ (max_decimals - near - far_of code)) (past-none code h) ∙ zero-mul (10 ^ (max_decimals - near - far_of code))

pub lower-at : (code j : ℕ) → far_of code ≡ j → lower_of code ≡ code % 10 ^ j * 10 ^ (3 - j)
unfolding lower_of
lower-at code j e = ap₂ (λ (p n : ℕ). p * 10 ^ (3 - n)) (past-at code j e) e

pub lower-low : (code : ℕ) → lower_of code < 1000
lower-low code = at (ltb code 10) refl
  where
    at : (b : Bool) → ltb code 10 ≡ b → lower_of code < 1000
    at true e = subst (λ (n : ℕ). n < 1000) (sym (lower-none code (ltb-true code 10 e))) (lit< tt)
    at false e =
        far_some code (λ (j : ℕ). far_of code ≡ j → lower_of code < 1000) (ltb-false code 10 e)
        (λ h f. subst (λ (n : ℕ). n < 1000) (sym (lower-at code 1 f)) (let l : code % 10 < 10 = mod-lt code (lit< tt) in omega arith))
        (λ h k f. subst (λ (n : ℕ). n < 1000) (sym (lower-at code 2 f)) (let l : code % 100 < 100 = mod-lt code (lit< tt) in omega arith))
        (λ h f. subst (λ (n : ℕ). n < 1000) (sym (lower-at code 3 f)) (let l : code % 1000 < 1000 = mod-lt code (lit< tt) in omega arith))
        refl

-- the value is what counts in the ninth decimal, and what is left of one
pub value-parts : (digits code : ℕ) → value (number_of digits code) ≡ upper_of digits code * 1000 + lower_of code
unfolding value number_of upper_of lower_of
value-parts digits code = at (ltb code 10) refl
  where
    at : (b : Bool) → ltb code 10 ≡ b → value (number_of digits code) ≡ upper_of digits code * 1000 + lower_of code
    at true e =
        let h : code < 10 = ltb-true code 10 e in
        let q : max_decimals - code ≡ (near - code) + 3 = omega arith in
        let z : digits * 1 + 0 ≡ digits = omega arith in
        ap₂ (λ (x k : ℕ). x * 10 ^ (max_decimals - k)) (ap₂ (λ (j p : ℕ). digits * 10 ^ j + p) (far_none code h) (past-none code h) ∙ z) (decimals-near code h)
        ∙ ap (λ (n : ℕ). digits * 10 ^ n) q
        ∙ ap (λ (n : ℕ). digits * n) (pow-add 10 (near - code) 3)
        ∙ sym (mul_assoc digits (10 ^ (near - code)) 1000)
        ∙ sym (add-zero (digits * 10 ^ (near - code) * 1000))
        ∙ ap (λ (n : ℕ). digits * 10 ^ (near - code) * 1000 + n) (sym (lower-none code h))
    at false e =
        let h : 10 ≤ code = ltb-false code 10 e in
        let few : far_of code ≤ 3 = far-few code h in
        let d : max_decimals - decimals_of code ≡ 3 - far_of code = let k : decimals_of code ≡ near + far_of code = decimals-far code h in omega arith in
        let s : far_of code + (3 - far_of code) ≡ 3 = omega arith in
        let u : near - code ≡ 0 = omega arith in
        ap (λ (n : ℕ). (digits * 10 ^ far_of code + past_of code) * 10 ^ n) d
        ∙ add-mul (digits * 10 ^ far_of code) (past_of code) (10 ^ (3 - far_of code))
        ∙ ap (λ (n : ℕ). n + past_of code * 10 ^ (3 - far_of code))
        (mul_assoc digits (10 ^ far_of code) (10 ^ (3 - far_of code)) ∙ ap (λ (n : ℕ). digits * n) (sym (pow-add 10 (far_of code) (3 - far_of code)) ∙ ap (λ (n : ℕ). 10 ^ n) s)
        ∙ sym (ap (λ (n : ℕ). digits * 10 ^ n * 1000) u ∙ ap (λ (n : ℕ). n * 1000) (mul-one digits)))
        ∙ ap (λ (n : ℕ). digits * 10 ^ (near - code) * 1000 + n) lower-is
      where
        lower-is : past_of code * 10 ^ (3 - far_of code) ≡ lower_of code
        lower-is = refl

pub value-upper : (digits code : ℕ) → value (number_of digits code) / 1000 ≡ upper_of digits code
value-upper digits code = ap (λ (n : ℕ). n / 1000) (value-parts digits code) ∙ digits_div (upper_of digits code) (lower-low code)

-- ---- the order by value

shifted : (x y l : ℕ) → order_of (x + l) (y + l) ≡ order_of x y
shifted x y l = at (ltb x y) (eqb x y) refl refl
  where
    at : (s t : Bool) → ltb x y ≡ s → eqb x y ≡ t → order_of (x + l) (y + l) ≡ order_of x y
    at true t e f = let h : x < y = ltb-true x y e in less (x + l) (y + l) (omega arith) ∙ sym (less x y h)
    at false true e f = let q : x ≡ y = eqb-true x y f in equal (x + l) (y + l) (omega arith) ∙ sym (equal x y q)
    at false false e f =
        let h : y ≤ x = ltb-false x y e in
        let n : x ≡ y → ⊥ = eqb-false x y f in
        let g : y < x = omega arith in
        greater (x + l) (y + l) (omega arith) ∙ sym (greater x y g)

pub order-upper : (x y l m : ℕ) → l < 1000 → m < 1000 → (x ≡ y → ⊥) → order_of (x * 1000 + l) (y * 1000 + m) ≡ order_of x y
order-upper x y l m hl hm n = at (ltb x y) refl
  where
    at : (s : Bool) → ltb x y ≡ s → order_of (x * 1000 + l) (y * 1000 + m) ≡ order_of x y
    at true e = let h : x < y = ltb-true x y e in less (x * 1000 + l) (y * 1000 + m) (omega arith) ∙ sym (less x y h)
    at false e =
        let h : y ≤ x = ltb-false x y e in
        let k : x ≡ y → ⊥ = n in
        let g : y < x = omega arith in
        greater (x * 1000 + l) (y * 1000 + m) (omega arith) ∙ sym (greater x y g)

pub order-lower : (x y l m : ℕ) → x ≡ y → order_of (x * 1000 + l) (y * 1000 + m) ≡ order_of l m
order-lower x y l m e =
    let p : x * 1000 + l ≡ l + x * 1000 = omega arith in
    let q : y * 1000 + m ≡ m + x * 1000 = omega arith in
    ap₂ order_of p q ∙ shifted l m (x * 1000)

-- two decimals of one code are ordered as their digits are
pub order_same : (x y code : ℕ) → order (number_of x code) (number_of y code) ≡ order_of x y
unfolding order upper_of
order_same x y code =
    ap₂ order_of (value-parts x code) (value-parts y code)
    ∙ shifted (x * 10 ^ (near - code) * 1000) (y * 10 ^ (near - code) * 1000) (lower_of code)
    ∙ scaled (x * 10 ^ (near - code)) (y * 10 ^ (near - code)) 1000 (lit< tt)
    ∙ scaled x y (10 ^ (near - code)) (tens (near - code))

-- two decimals are ordered by what counts in the ninth decimal, and where that is one, by what is left
module _ (x i y j : ℕ) where
  pub order-parts-upper : (upper_of x i ≡ upper_of y j → ⊥) → order (number_of x i) (number_of y j) ≡ order_of (upper_of x i) (upper_of y j)
  unfolding order
  order-parts-upper n =
      ap₂ order_of (value-parts x i) (value-parts y j) ∙ order-upper (upper_of x i) (upper_of y j) (lower_of i) (lower_of j) (lower-low i) (lower-low j) n

  pub order-parts-lower : upper_of x i ≡ upper_of y j → order (number_of x i) (number_of y j) ≡ order_of (lower_of i) (lower_of j)
  unfolding order
  order-parts-lower e = ap₂ order_of (value-parts x i) (value-parts y j) ∙ order-lower (upper_of x i) (upper_of y j) (lower_of i) (lower_of j) e

-- ---- the words of a decimal within the limits

pub upper_fits : (digits code : ℕ) → Within (number_of digits code) → code < near → digits * 10 ^ (near - code) < 2 ^ 64
upper_fits digits code w h =
    let l : code < 10 = omega arith in
    let plain : number_of digits code ≡ record { digits = digits; decimals = code } = number-near digits code l in
    raised-fits (record { digits = digits; decimals = code }) near (subst Within plain w) (le_of_lt h) (lit≤ tt)

-- ---- zero

pub zero-digits : (digits code : ℕ) → digits ≡ 0 → is_zero (number_of digits code) ≡ eqb (past_of code) 0
unfolding is_zero number_of
zero-digits digits code z =
    let q : digits * 10 ^ far_of code + past_of code ≡ past_of code = ap (λ (n : ℕ). n * 10 ^ far_of code + past_of code) z ∙ ap (λ (n : ℕ). n + past_of code) (zero-mul (10 ^ far_of code)) ∙ zero-add (past_of code) in
    ap (λ (n : ℕ). eqb n 0) q

pub some-digits : (digits code : ℕ) → (digits ≡ 0 → ⊥) → is_zero (number_of digits code) ≡ false
unfolding is_zero number_of
some-digits digits code n =
    let p : 0 < digits = omega arith in
    let q : 0 * 10 ^ far_of code < digits * 10 ^ far_of code = mul-lt-mul_of_pos_right p (tens (far_of code)) in
    ne_eqb (digits * 10 ^ far_of code + past_of code) 0 (λ e. omega arith)

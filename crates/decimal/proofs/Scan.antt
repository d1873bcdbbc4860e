-- Laws of `leading`, `prefix` and `read` at a position of a text: what a reader that goes byte by byte finds there.
-- Assumes nothing.
use Rattle.std.specs.Prelude.{None, Some}
use Rattle.std.proofs.Common.{◌≡◌, ℕ, zero, suc, ◌+◌, ◌-◌, ◌*◌, ◌%◌, ◌^◌, ◌<◌, ◌≤◌, Bool, true, false, not, ◌&&◌, eqb, ltb, leb, List, [], ◌∷◌, ◌++◌, length, get_or, take, drop, sym, refl, ap, ◌∙◌, subst, ap₂, zero-le, le_trans, not-suc-le-zero, mul-le-mul_right, zero-lt-suc, mul_assoc, mul_comm, mul-le-mul_left, pow-suc, mul-one, add-one, arith, drop_of_length-le, drop-cons, ltb-false, ltb-true, le-ltb, lt-ltb, eq-eqb, ne_eqb, le-leb}
use native.Mathlib.Decide.{dec_lt}
use borrow.Author.Tests.{lt-leb}
use lib.ListN.{get_or-eq_default}
use lib.Seq.{take-nil}
use Rattle.text.specs.Text.{is_digit}
use Rattle.decimal.specs.Digits.{leading}
use Rattle.decimal.specs.Decimal.{is_whole, Prefix, prefixed, fractional, pointed, prefix, read, max_whole, max_decimals}
use Rattle.decimal.specs.Reads.{DigitOf}
use Rattle.decimal.proofs.Digits.{leading-more, leading-stop, digit-in, is-digit, tens}

-- ---- tests

pub and-true : {a b : Bool} → a ≡ true → b ≡ true → (a && b) ≡ true
and-true p q = rw (p, q)

pub and_left : (a b : Bool) → a ≡ false → (a && b) ≡ false
and_left a b p = rw p

pub and_right : (a b : Bool) → b ≡ false → (a && b) ≡ false
and_right true b p = p
and_right false b p = refl

-- ---- bytes that are no digit, and room for one digit more

pub low_digit : {c : ℕ} → c < 48 → is_digit c ≡ false
unfolding is_digit
low_digit {c} h = and_left (leb 48 c) (leb c 57) (lt-leb 48 c h)

pub high_digit : {c : ℕ} → 57 < c → is_digit c ≡ false
unfolding is_digit
high_digit {c} h = and_right (leb 48 c) (leb c 57) (lt-leb c 57 h)

-- a number that, with 48 added, wraps to a byte is what the byte is worth as a digit
pub wrapped-digit : (c worth : ℕ) → worth < 2 ^ 64 → (worth + 48) % 2 ^ 64 ≡ c → DigitOf c worth
wrapped-digit c worth small h = record { some = λ l. omega arith; none = λ g. elim (dec_lt c 48) [ yes l ↦ low_digit l | no l ↦ high_digit (omega arith) ] }

pub digit-here : {c worth : ℕ} → DigitOf c worth → worth ≤ 9 → is_digit c ≡ true
digit-here k l = let e = k.some l in is-digit (omega arith) (omega arith)

-- past the end of a text
pub no-digit-here : DigitOf 0 10
unfolding is_digit
no-digit-here = record { some = λ l. omega arith; none = λ g. refl }

one_more : (v left : ℕ) → 0 < left → (v * 10 + 10) * 10 ^ (left - 1) ≡ (v + 1) * 10 ^ left
one_more v zero p = absurd (not-suc-le-zero p)
one_more v (suc l) p =
    let s : suc l - 1 ≡ l = omega arith in
    let r : v * 10 + 10 ≡ (v + 1) * 10 = omega arith in
    ap₂ (λ (a n : ℕ). a * 10 ^ n) r s ∙ mul_assoc (v + 1) 10 (10 ^ l) ∙ ap (λ (n : ℕ). (v + 1) * n) (mul_comm 10 (10 ^ l) ∙ sym (pow-suc 10 l))

-- a number with room for `left` digits more takes one of them
pub more-fits : (v left : ℕ) → 0 < left → (v + 1) * 10 ^ left ≤ 2 ^ 64 → v * 10 + 10 ≤ 2 ^ 64
more-fits v left p h =
    let q : (v * 10 + 10) * 10 ^ (left - 1) ≡ (v + 1) * 10 ^ left = one_more v left p in
    let t : 0 < 10 ^ (left - 1) = tens (left - 1) in
    le_trans (subst (λ (n : ℕ). n ≤ (v * 10 + 10) * 10 ^ (left - 1)) (mul-one (v * 10 + 10)) (mul-le-mul_left (v * 10 + 10) t)) (subst (λ (n : ℕ). n ≤ 2 ^ 64) (sym q) h)

pub one_left : (v d left : ℕ) → 0 < left → d ≤ 9 → (v + 1) * 10 ^ left ≤ 2 ^ 64 → (v * 10 + d + 1) * 10 ^ (left - 1) ≤ 2 ^ 64
one_left v d left p l h =
    le_trans (mul-le-mul_right (10 ^ (left - 1)) below) (subst (λ (n : ℕ). n ≤ 2 ^ 64) (sym (one_more v left p)) h)
  where
    below : v * 10 + d + 1 ≤ v * 10 + 10
    below = omega arith

-- ---- the digits from a position on

pub digit-within : (s : List ℕ) (i : ℕ) → is_digit (get_or s i 0) ≡ true → i < length s
digit-within s i h = at (ltb i (length s)) refl
  where
    at : (t : Bool) → ltb i (length s) ≡ t → i < length s
    at true e = ltb-true i (length s) e
    at false e =
        let z : get_or s i 0 ≡ 0 = get_or-eq_default s 0 (ltb-false i (length s) e) in
        let k : (48 ≤ get_or s i 0) × (get_or s i 0 ≤ 57) = digit-in h in
        omega arith

pub leading-here : (s : List ℕ) (i : ℕ) → is_digit (get_or s i 0) ≡ true → leading (drop i s) ≡ get_or s i 0 ∷ leading (drop (i + 1) s)
leading-here s i h =
    ap leading (drop-cons s i 0 (digit-within s i h) ∙ ap (λ (n : ℕ). get_or s i 0 ∷ drop n s) (sym (add-one i)))
    ∙ leading-more (get_or s i 0) (drop (i + 1) s) h

pub leading-none : (s : List ℕ) (i : ℕ) → is_digit (get_or s i 0) ≡ false → leading (drop i s) ≡ []
unfolding leading
leading-none s i h = at (ltb i (length s)) refl
  where
    at : (t : Bool) → ltb i (length s) ≡ t → leading (drop i s) ≡ []
    at true e = ap leading (drop-cons s i 0 (ltb-true i (length s) e)) ∙ leading-stop (get_or s i 0) (drop (suc i) s) h
    at false e = ap leading (drop_of_length-le s (ltb-false i (length s) e))

-- one of at most l digits, and the others
pub first-digit : (s : List ℕ) (i l : ℕ) → is_digit (get_or s i 0) ≡ true → 0 < l →
    take l (leading (drop i s)) ≡ get_or s i 0 ∷ take (l - 1) (leading (drop (i + 1) s))
first-digit s i zero h p = absurd (not-suc-le-zero p)
first-digit s i (suc l) h p =
    ap (take (suc l)) (leading-here s i h) ∙ ap (λ (n : ℕ). get_or s i 0 ∷ take n (leading (drop (i + 1) s))) same
  where
    same : l ≡ suc l - 1
    same = omega arith

pub no_digit : (s : List ℕ) (i l : ℕ) → is_digit (get_or s i 0) ≡ false → take l (leading (drop i s)) ≡ []
no_digit s i l h = ap (take l) (leading-none s i h) ∙ take-nil l

-- past at most m of them stands a digit exactly where there are more
pub past-digits : (m : ℕ) (t : List ℕ) → is_digit (get_or t (length (take m (leading t))) 0) ≡ ltb m (length (leading t))
unfolding leading is_digit
past-digits zero [] = refl
past-digits (suc m) [] = sym (le-ltb (suc m) 0 zero-le)
past-digits m (c ∷ t) = at (is_digit c) refl m (λ n. past-digits n t)
  where
    at : (b : Bool) → is_digit c ≡ b → (m : ℕ) → ((n : ℕ) → is_digit (get_or t (length (take n (leading t))) 0) ≡ ltb n (length (leading t))) →
        is_digit (get_or (c ∷ t) (length (take m (leading (c ∷ t)))) 0) ≡ ltb m (length (leading (c ∷ t)))
    at true e zero ih = e ∙ sym (ap (λ (l : List ℕ). ltb 0 (length l)) (leading-more c t e) ∙ lt-ltb 0 (suc (length (leading t))) (zero-lt-suc (length (leading t))))
    at true e (suc m) ih =
        ap (λ (l : List ℕ). is_digit (get_or (c ∷ t) (length (take (suc m) l)) 0)) (leading-more c t e)
        ∙ ih m
        ∙ sym (ap (λ (l : List ℕ). ltb (suc m) (length l)) (leading-more c t e) ∙ step m (length (leading t)))
      where
        step : (i j : ℕ) → ltb (suc i) (suc j) ≡ ltb i j
        step i j = go (ltb i j) refl
          where
            go : (b : Bool) → ltb i j ≡ b → ltb (suc i) (suc j) ≡ ltb i j
            go true p = let q : i < j = ltb-true i j p in lt-ltb (suc i) (suc j) (omega arith) ∙ sym p
            go false p = let q : j ≤ i = ltb-false i j p in le-ltb (suc i) (suc j) (omega arith) ∙ sym p
    at false e m ih =
        ap (λ (l : List ℕ). is_digit (get_or (c ∷ t) (length (take m l)) 0)) (leading-stop c t e)
        ∙ ap (λ (l : List ℕ). is_digit (get_or (c ∷ t) (length l) 0)) (take-nil m)
        ∙ e
        ∙ sym (ap (λ (l : List ℕ). ltb m (length l)) (leading-stop c t e) ∙ le-ltb m 0 zero-le)

-- the digits past some of them
pub leading-drop : (n : ℕ) (t : List ℕ) → n ≤ length (leading t) → leading (drop n t) ≡ drop n (leading t)
unfolding leading
leading-drop zero t h = refl
leading-drop (suc n) [] h = refl
leading-drop (suc n) (c ∷ t) h = at (is_digit c) refl (λ l. leading-drop n t l)
  where
    at : (b : Bool) → is_digit c ≡ b → (n ≤ length (leading t) → leading (drop n t) ≡ drop n (leading t)) → leading (drop n t) ≡ drop (suc n) (leading (c ∷ t))
    at true e ih =
        let q : length (leading (c ∷ t)) ≡ suc (length (leading t)) = ap length (leading-more c t e) in
        ih (omega arith) ∙ ap (drop (suc n)) (sym (leading-more c t e))
    at false e ih = absurd none
      where
        none : ⊥
        none = let q : length (leading (c ∷ t)) ≡ 0 = ap length (leading-stop c t e) in let l = h in omega arith

pub leading-whole : (s : List ℕ) → length (leading s) ≡ length s → leading s ≡ s
unfolding leading
leading-whole [] h = refl
leading-whole (c ∷ s) h = at (is_digit c) refl (λ p. leading-whole s p)
  where
    at : (b : Bool) → is_digit c ≡ b → (length (leading s) ≡ length s → leading s ≡ s) → leading (c ∷ s) ≡ c ∷ s
    at true e ih =
        leading-more c s e ∙ ap (λ (l : List ℕ). c ∷ l) (ih less)
      where
        less : length (leading s) ≡ length s
        less = let q : suc (length (leading s)) ≡ suc (length s) = sym (ap length (leading-more c s e)) ∙ h in omega arith
    at false e ih = absurd none
      where
        none : ⊥
        none = let q : 0 ≡ suc (length s) = sym (ap length (leading-stop c s e)) ∙ h in omega arith

pub length-leading : (s : List ℕ) → length (leading s) ≤ length s
unfolding leading
length-leading [] = zero-le
length-leading (c ∷ s) = at (is_digit c) refl (length-leading s)
  where
    at : (b : Bool) → is_digit c ≡ b → length (leading s) ≤ length s → length (leading (c ∷ s)) ≤ suc (length s)
    at true e ih = let q : length (leading (c ∷ s)) ≡ suc (length (leading s)) = ap length (leading-more c s e) in omega arith
    at false e ih = let q : length (leading (c ∷ s)) ≡ 0 = ap length (leading-stop c s e) in omega arith

-- ---- a text that has a whole part, or has none

pub whole-empty : (most : ℕ) (w : List ℕ) → length w ≡ 0 → is_whole most w ≡ false
unfolding is_whole
whole-empty most w h = and_left (leb 1 (length w)) (leb (length w) most && not (ltb 1 (length w) && eqb (get_or w 0 0) 48)) (lt-leb 1 (length w) (omega arith))

pub whole_long : (most : ℕ) (w : List ℕ) → most < length w → is_whole most w ≡ false
unfolding is_whole
whole_long most w h =
    and_right (leb 1 (length w)) (leb (length w) most && not (ltb 1 (length w) && eqb (get_or w 0 0) 48))
    (and_left (leb (length w) most) (not (ltb 1 (length w) && eqb (get_or w 0 0) 48)) (lt-leb (length w) most h))

pub whole-zero : (most : ℕ) (w : List ℕ) → (ltb 1 (length w) && eqb (get_or w 0 0) 48) ≡ true → is_whole most w ≡ false
unfolding is_whole
whole-zero most w h =
    and_right (leb 1 (length w)) (leb (length w) most && not (ltb 1 (length w) && eqb (get_or w 0 0) 48))
    (and_right (leb (length w) most) (not (ltb 1 (length w) && eqb (get_or w 0 0) 48)) (ap not h))

pub whole-good : (most : ℕ) (w : List ℕ) → 0 < length w → length w ≤ most → (ltb 1 (length w) && eqb (get_or w 0 0) 48) ≡ false → is_whole most w ≡ true
unfolding is_whole
whole-good most w p l z = and-true (le-leb 1 (length w) p) (and-true (le-leb (length w) most l) (ap not z))

-- ---- the decimal at the front of a text

module _ (t : List ℕ) where
  pub prefix-refused : is_whole max_whole (leading t) ≡ false → prefix t ≡ None
  unfolding prefix
  prefix-refused h = rw (h, prefix)

  module _ (h : is_whole max_whole (leading t) ≡ true) where
    pub prefix-pointed : prefix t ≡ pointed (leading t) (drop (length (leading t)) t)
    unfolding prefix
    prefix-pointed = rw (h, prefix)

pub pointed-plain : (w t : List ℕ) → (get_or t 0 0 ≡ 46 → ⊥) → pointed w t ≡ prefixed w 0 (length w)
unfolding pointed
pointed-plain w t h = rw (ne_eqb (get_or t 0 0) 46 h, pointed)

pub pointed-fraction : (w t : List ℕ) → get_or t 0 0 ≡ 46 → pointed w t ≡ fractional w (leading (drop 1 t))
unfolding pointed
pointed-fraction w t h = rw (eq-eqb (get_or t 0 0) 46 h, pointed)

pub fraction-none : (w f : List ℕ) → length f ≡ 0 → fractional w f ≡ None
unfolding fractional
fraction-none w f h = rw (and_left (leb 1 (length f)) (leb (length f) max_decimals) (lt-leb 1 (length f) (omega arith)), fractional)

pub fraction-long : (w f : List ℕ) → max_decimals < length f → fractional w f ≡ None
unfolding fractional
fraction-long w f h = rw (and_right (leb 1 (length f)) (leb (length f) max_decimals) (lt-leb (length f) max_decimals h), fractional)

pub fraction-good : (w f : List ℕ) → 0 < length f → length f ≤ max_decimals → fractional w f ≡ prefixed (w ++ f) (length f) (length w + 1 + length f)
unfolding fractional
fraction-good w f p l = rw (and-true (le-leb 1 (length f) p) (le-leb (length f) max_decimals l), fractional)

-- ---- the decimal that a text is

pub read_all : (s : List ℕ) (p : Prefix) → prefix s ≡ Some p → p.size ≡ length s → read s ≡ Some p.number
unfolding read
read_all s p h e = rw (h, eq-eqb p.size (length s) e, read)

pub read-part : (s : List ℕ) (p : Prefix) → prefix s ≡ Some p → (p.size ≡ length s → ⊥) → read s ≡ None
unfolding read
read-part s p h n = rw (h, ne_eqb p.size (length s) n, read)

pub read_none : (s : List ℕ) → prefix s ≡ None → read s ≡ None
unfolding read
read_none s h = rw (h, read)

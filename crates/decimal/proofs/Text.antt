-- Laws of a decimal's text: from its end, a byte at a time; without its point and leading zeros; how long it is. Assumes nothing.
use Rattle.std.proofs.Common.{◌≡◌, ℕ, zero, suc, ◌+◌, ◌-◌, ◌*◌, ◌/◌, ◌%◌, ◌^◌, ◌<◌, ◌≤◌, Bool, true, false, eqb, ltb, List, [], ◌∷◌, ◌++◌, length, get_or, drop, sym, refl, ap, ◌∙◌, subst, ap₂, append_assoc, append-nil, zero-le, not-suc-le-zero, add-zero, mod-lt, mod-eq_of_lt, mul_assoc, mul_comm, div-lt_iff_lt-mul, mul-lt-mul_of_pos_right, pow-suc, div-add-mod', zero-add, zero-mul, div-one, arith, lit<, length-append, pow-add, ltb-false, ltb-true, eq-eqb, ne_eqb, eqb-true}
use native.Mathlib.Nat.{div-div-eq-div-mul}
use borrow.Author.Tests.{eqb-false}
use lib.Arith.{digits_div}
use lib.Seq.{drop-append-le}
use Rattle.decimal.specs.Digits.{digit, value_from, fixed, significant, written}
use Rattle.decimal.specs.Decimal.{Number, near, far_of, past_of, decimals_of, number_of, point, text, after_point, without_point, without_zeros, stripped, max_whole, max_decimals}
use Rattle.decimal.specs.Limits.{Within}
use Rattle.decimal.specs.Tail.{remaining, front_of, past_first}
use Rattle.decimal.specs.Words.{Tidied}
use Rattle.decimal.specs.declared.Tail.{Tail}
use Rattle.decimal.specs.declared.Part.{Part}
use Rattle.decimal.specs.declared.Part.TheVariants.{Fraction, Units, Higher}
use Rattle.decimal.proofs.Digits.{Digits, none, one, digit-in, fixed-digits, written-digits, div-tens, length-fixed, significant-zero, significant-step, significant-value, value-fixed, written-positive, first-significant, length-significant, length-written, tens}
use Rattle.decimal.proofs.Words.{far_none, far_some, past-at, past-low, decimals-far, number-near}

-- ---- the bytes that are still to come, less the last

fraction-step : (n k : ℕ) → front_of Fraction n (suc k) ≡ front_of Fraction (n / 10) k ++ (digit (n % 10) ∷ [])
unfolding front_of fixed
fraction-step n k =
    ap (λ (q : ℕ). written q ++ (point ∷ (fixed k (n / 10) ++ (digit (n % 10) ∷ [])))) (sym (div-tens k n))
    ∙ sym (append_assoc (written (n / 10 / 10 ^ k)) (point ∷ fixed k (n / 10)) (digit (n % 10) ∷ []))

some-digits : (n : ℕ) → 0 < n → 0 < length (significant n)
some-digits n h =
    subst (λ (l : List ℕ). 0 < length l) (sym (significant-step n h))
    (subst (λ (x : ℕ). 0 < x) (sym (length-append (significant (n / 10)) (digit (n % 10) ∷ []))) (omega arith))

-- the digits of a code past its first
pub past-none : (code : ℕ) → code ≤ 9 → past_first code ≡ []
unfolding written
past-none code h =
    let z : code / 10 ≡ 0 = omega arith in
    ap (λ (l : List ℕ). drop 1 (l ++ (digit (code % 10) ∷ []))) (ap significant z ∙ significant-zero)

pub none-past : (l : List ℕ) (code : ℕ) → code ≤ 9 → l ++ past_first code ≡ l
none-past l code h = ap (λ (w : List ℕ). l ++ w) (past-none code h) ∙ append-nil l

past-step : (code : ℕ) → 9 < code → past_first code ≡ past_first (code / 10) ++ (digit (code % 10) ∷ [])
past-step code h =
    let p : 0 < code / 10 = omega arith in
    let e : significant (code / 10) ≡ written (code / 10) = sym (written-positive (code / 10) p) in
    let l : 1 ≤ length (written (code / 10)) = subst (λ (w : List ℕ). 0 < length w) e (some-digits (code / 10) p) in
    ap (drop 1) (written-positive code (omega arith) ∙ significant-step code (omega arith) ∙ ap (λ (w : List ℕ). w ++ (digit (code % 10) ∷ [])) e)
    ∙ drop-append-le 1 (written (code / 10)) (digit (code % 10) ∷ []) l

-- those of one digit and others are the others
past-digits : (m j p : ℕ) → 0 < m → m < 10 → p < 10 ^ j → past_first (m * 10 ^ j + p) ≡ fixed j p
past-digits m j p h k l =
    let z : m / 10 ≡ 0 = omega arith in
    let v : value_from m (fixed j p) ≡ m * 10 ^ j + p = value-fixed m j p ∙ ap (λ (n : ℕ). m * 10 ^ j + n) (mod-eq_of_lt l) in
    let t : 0 * 10 ^ j < m * 10 ^ j = mul-lt-mul_of_pos_right h (tens j) in
    ap (drop 1)
    (written-positive (m * 10 ^ j + p) (omega arith)
    ∙ ap significant (sym v)
    ∙ significant-value m h (fixed-digits j p)
    ∙ ap (λ (w : List ℕ). w ++ fixed j p) (significant-step m h ∙ ap (λ (w : List ℕ). w ++ (digit (m % 10) ∷ [])) (ap significant z ∙ significant-zero)))

-- those of a code are what it tells
past-told : (code : ℕ) → 10 ≤ code → code < 2000 → past_first code ≡ fixed (far_of code) (past_of code)
past-told code l h =
    far_some code (λ (j : ℕ). far_of code ≡ j → past_first code ≡ fixed j (past_of code)) l
    (λ k e. told 1 e (omega arith) (omega arith))
    (λ k m e. told 2 e (omega arith) (omega arith))
    (λ k e. told 3 e (omega arith) (omega arith))
    refl
  where
    told : (j : ℕ) → far_of code ≡ j → 0 < code / 10 ^ j → code / 10 ^ j < 10 → past_first code ≡ fixed j (past_of code)
    told j e p q =
        ap past_first (sym (div-add-mod' code (10 ^ j)))
        ∙ past-digits (code / 10 ^ j) j (code % 10 ^ j) p q (mod-lt code (tens j))
        ∙ ap (fixed j) (sym (past-at code j e))

pub past-tidied : (code tidy : ℕ) → Tidied code tidy → 10 ≤ code → past_first tidy ≡ fixed (far_of code) (past_of code)
past-tidied code tidy t l =
    past-told tidy (high (ltb tidy 10) refl) t.low ∙ ap₂ fixed t.far t.past
  where
    high : (b : Bool) → ltb tidy 10 ≡ b → 10 ≤ tidy
    high true e =
        let n : far_of tidy ≡ 0 = far_none tidy (ltb-true tidy 10 e) in
        let f : far_of tidy ≡ far_of code = t.far in
        let p : 0 < far_of code = far_some code (λ (j : ℕ). 0 < j) l (λ h. lit< tt) (λ h k. lit< tt) (λ h. lit< tt) in
        omega arith
    high false e = ltb-false tidy 10 e

module _ (t : Tail) where
  pub tail-past : 9 < t.past →
      remaining t ≡ remaining (record { digits = t.digits; decimals = t.decimals; past = t.past / 10; part = t.part }) ++ (digit (t.past % 10) ∷ [])
  unfolding remaining
  tail-past h =
      ap (λ (l : List ℕ). front_of t.part t.digits t.decimals ++ l) (past-step t.past h)
      ∙ sym (append_assoc (front_of t.part t.digits t.decimals) (past_first (t.past / 10)) (digit (t.past % 10) ∷ []))

  part-is : (p : Part) → t.part ≡ p → t.past ≤ 9 → remaining t ≡ front_of p t.digits t.decimals
  unfolding remaining
  part-is p e h =
      none-past (front_of t.part t.digits t.decimals) t.past h ∙ ap (λ (q : Part). front_of q t.digits t.decimals) e

  -- the tail with another part, other digits and other decimals
  abbrev pub left : Part → ℕ → ℕ → Tail
  left p n k = record { digits = n; decimals = k; past = t.past; part = p }

  before : (p : Part) (n k b : ℕ) → t.past ≤ 9 → front_of p n k ++ (b ∷ []) ≡ remaining (left p n k) ++ (b ∷ [])
  unfolding remaining
  before p n k b h = ap (λ (l : List ℕ). l ++ (b ∷ [])) (sym (none-past (front_of p n k) t.past h))

  pub tail-point : t.part ≡ Fraction → t.past ≤ 9 → t.decimals ≡ 0 → remaining t ≡ remaining (left Units t.digits t.decimals) ++ (point ∷ [])
  unfolding front_of fixed
  tail-point e h z =
      part-is Fraction e h
      ∙ ap (λ (k : ℕ). front_of Fraction t.digits k) z
      ∙ ap (λ (n : ℕ). written n ++ (point ∷ [])) (div-one t.digits)
      ∙ before Units t.digits t.decimals point h

  pub tail-fraction : t.part ≡ Fraction → t.past ≤ 9 → (t.decimals ≡ 0 → ⊥) →
      remaining t ≡ remaining (left t.part (t.digits / 10) (t.decimals - 1)) ++ (digit (t.digits % 10) ∷ [])
  tail-fraction e h n =
      part-is Fraction e h
      ∙ step t.digits t.decimals n
      ∙ before Fraction (t.digits / 10) (t.decimals - 1) (digit (t.digits % 10)) h
      ∙ ap (λ (p : Part). remaining (left p (t.digits / 10) (t.decimals - 1)) ++ (digit (t.digits % 10) ∷ [])) (sym e)
    where
      step : (n k : ℕ) → (k ≡ 0 → ⊥) → front_of Fraction n k ≡ front_of Fraction (n / 10) (k - 1) ++ (digit (n % 10) ∷ [])
      step n zero h = absurd (h refl)
      step n (suc k) h = fraction-step n k ∙ ap (λ (j : ℕ). front_of Fraction (n / 10) j ++ (digit (n % 10) ∷ [])) same
        where
          same : k ≡ suc k - 1
          same = omega arith

  pub tail-units : t.part ≡ Units → t.past ≤ 9 → remaining t ≡ remaining (left Higher (t.digits / 10) t.decimals) ++ (digit (t.digits % 10) ∷ [])
  unfolding front_of written
  tail-units e h = part-is Units e h ∙ before Higher (t.digits / 10) t.decimals (digit (t.digits % 10)) h

  pub tail_none : t.part ≡ Higher → t.past ≤ 9 → t.digits ≡ 0 → remaining t ≡ []
  unfolding front_of
  tail_none e h z = part-is Higher e h ∙ ap significant z ∙ significant-zero

  pub tail-higher : t.part ≡ Higher → t.past ≤ 9 → (t.digits ≡ 0 → ⊥) →
      remaining t ≡ remaining (left t.part (t.digits / 10) t.decimals) ++ (digit (t.digits % 10) ∷ [])
  unfolding front_of
  tail-higher e h n =
      part-is Higher e h
      ∙ significant-step t.digits (omega arith)
      ∙ before Higher (t.digits / 10) t.decimals (digit (t.digits % 10)) h
      ∙ ap (λ (p : Part). remaining (left p (t.digits / 10) t.decimals) ++ (digit (t.digits % 10) ∷ [])) (sym e)

-- ---- the whole text

pub after-some : (k m : ℕ) → after_point (suc k) m ≡ point ∷ fixed (suc k) m
unfolding after_point
after-some k m = refl

pub text-whole : (n : Number) → n.decimals ≡ 0 → text n ≡ written n.digits
unfolding text after_point
text-whole n z =
    ap₂ (λ (k j : ℕ). written (n.digits / 10 ^ k) ++ after_point j n.digits) z z
    ∙ append-nil (written (n.digits / 1))
    ∙ ap written (div-one n.digits)

pub text-fraction : (n : Number) → (n.decimals ≡ 0 → ⊥) → text n ≡ front_of Fraction n.digits n.decimals
unfolding text front_of
text-fraction n h = ap (λ (l : List ℕ). written (n.digits / 10 ^ n.decimals) ++ l) (after n.decimals n.digits h)
  where
    after : (k m : ℕ) → (k ≡ 0 → ⊥) → after_point k m ≡ point ∷ fixed k m
    after zero m h = absurd (h refl)
    after (suc k) m h = after-some k m

-- the digits of a number, and others after them
fixed-split : (k d j p : ℕ) → p < 10 ^ j → fixed (k + j) (d * 10 ^ j + p) ≡ fixed k d ++ fixed j p
unfolding fixed
fixed-split k d zero p h =
    let q : d * 1 + p ≡ d = omega arith in
    ap₂ fixed (add-zero k) q ∙ sym (append-nil (fixed k d))
fixed-split k d (suc j) p h =
    let a : k + suc j ≡ suc (k + j) = omega arith in
    let b : d * 10 ^ suc j ≡ d * 10 ^ j * 10 = ap (λ (n : ℕ). d * n) (pow-suc 10 j) ∙ sym (mul_assoc d (10 ^ j) 10) in
    let g : 10 ^ suc j ≡ 10 ^ j * 10 = pow-suc 10 j in
    let e : (d * 10 ^ suc j + p) / 10 ≡ d * 10 ^ j + p / 10 = omega arith in
    let f : (d * 10 ^ suc j + p) % 10 ≡ p % 10 = omega arith in
    ap (λ (n : ℕ). fixed n (d * 10 ^ suc j + p)) a
    ∙ ap₂ (λ (x y : ℕ). fixed (k + j) x ++ (digit y ∷ [])) e f
    ∙ ap (λ (l : List ℕ). l ++ (digit (p % 10) ∷ [])) (fixed-split k d j (p / 10) (omega arith))
    ∙ append_assoc (fixed k d) (fixed j (p / 10)) (digit (p % 10) ∷ [])

-- past nine decimals
pub text-far : (d code : ℕ) → 10 ≤ code → text (number_of d code) ≡ front_of Fraction d near ++ fixed (far_of code) (past_of code)
unfolding number_of front_of
text-far d code l =
    text-fraction (number_of d code) (λ z. let e : decimals_of code ≡ near + far_of code = decimals-far code l in omega arith)
    ∙ ap (λ (k : ℕ). written (D / 10 ^ k) ++ (point ∷ fixed k D)) (decimals-far code l)
    ∙ ap₂ (λ (q : ℕ) (w : List ℕ). written q ++ (point ∷ w)) whole (fixed-split near d (far_of code) (past_of code) (past-low code))
    ∙ sym (append_assoc (written (d / 10 ^ near)) (point ∷ fixed near d) (fixed (far_of code) (past_of code)))
  where
    D : ℕ
    D = d * 10 ^ far_of code + past_of code

    whole : D / 10 ^ (near + far_of code) ≡ d / 10 ^ near
    whole =
        ap (λ (n : ℕ). D / n) (pow-add 10 near (far_of code) ∙ mul_comm (10 ^ near) (10 ^ far_of code))
        ∙ sym (div-div-eq-div-mul D (10 ^ far_of code) (10 ^ near))
        ∙ ap (λ (n : ℕ). n / 10 ^ near) (digits_div d (past-low code))

-- ---- without the point and leading zeros

no-point : {w : List ℕ} → Digits w → without_point w ≡ w
unfolding without_point
no-point none = refl
no-point (one {c} {s} e h) = rw (ne_eqb c point other, without_point) (ap (λ (l : List ℕ). c ∷ l) (no-point h))
  where
    other : c ≡ point → ⊥
    other q = let k : (48 ≤ c) × (c ≤ 57) = digit-in e in omega arith

point-append : (v w : List ℕ) → without_point (v ++ w) ≡ without_point v ++ without_point w
unfolding without_point
point-append [] w = refl
point-append (c ∷ v) w = at (eqb c point) refl (point-append v w)
  where
    at : (b : Bool) → eqb c point ≡ b → without_point (v ++ w) ≡ without_point v ++ without_point w → without_point (c ∷ (v ++ w)) ≡ without_point (c ∷ v) ++ without_point w
    at true e ih = rw (e, without_point) ih
    at false e ih = rw (e, without_point) (ap (λ (l : List ℕ). c ∷ l) ih)

point-gone : (k m : ℕ) → without_point (after_point k m) ≡ fixed k m
unfolding after_point without_point fixed
point-gone zero m = refl
point-gone (suc k) m = no-point (fixed-digits (suc k) m)

nothing : without_zeros [] ≡ []
unfolding without_zeros
nothing = refl

length-after : (k m : ℕ) → length (after_point k m) ≤ k + 1
unfolding after_point
length-after zero m = zero-le
length-after (suc k) m = let e : length (fixed (suc k) m) ≡ suc k = length-fixed (suc k) m in omega arith

zero-first : (c : ℕ) (s : List ℕ) → c ≡ 48 → without_zeros (c ∷ s) ≡ without_zeros s
unfolding without_zeros
zero-first c s e = rw (eq-eqb c 48 e, without_zeros)

other-first : (c : ℕ) (s : List ℕ) → (c ≡ 48 → ⊥) → without_zeros (c ∷ s) ≡ c ∷ s
unfolding without_zeros
other-first c s n = rw (ne_eqb c 48 n, without_zeros)

no-zeros : (l : List ℕ) → (get_or l 0 0 ≡ 48 → ⊥) → without_zeros l ≡ l
unfolding without_zeros
no-zeros [] h = refl
no-zeros (c ∷ l) h = other-first c l h

-- one byte more at the end, after a text of zeros and after another
zeros-then : (l : List ℕ) (x : ℕ) → without_zeros l ≡ [] → without_zeros (l ++ (x ∷ [])) ≡ without_zeros (x ∷ [])
zeros-then [] x e = refl
zeros-then (c ∷ l) x e = at (eqb c 48) refl (λ q. zeros-then l x q)
  where
    at : (b : Bool) → eqb c 48 ≡ b → (without_zeros l ≡ [] → without_zeros (l ++ (x ∷ [])) ≡ without_zeros (x ∷ [])) → without_zeros (c ∷ (l ++ (x ∷ []))) ≡ without_zeros (x ∷ [])
    at true q ih = let z : c ≡ 48 = eqb-true c 48 q in zero-first c (l ++ (x ∷ [])) z ∙ ih (sym (zero-first c l z) ∙ e)
    at false q ih = absurd (never (sym (other-first c l (eqb-false c 48 q)) ∙ e))
      where
        never : c ∷ l ≡ [] → ⊥
        never p = let z : suc (length l) ≡ 0 = ap length p in omega arith

others-then : (l : List ℕ) (x : ℕ) → 0 < length (without_zeros l) → without_zeros (l ++ (x ∷ [])) ≡ without_zeros l ++ (x ∷ [])
unfolding without_zeros
others-then [] x p = absurd (not-suc-le-zero p)
others-then (c ∷ l) x p = at (eqb c 48) refl (λ q. others-then l x q)
  where
    at : (b : Bool) → eqb c 48 ≡ b → (0 < length (without_zeros l) → without_zeros (l ++ (x ∷ [])) ≡ without_zeros l ++ (x ∷ [])) →
        without_zeros (c ∷ (l ++ (x ∷ []))) ≡ without_zeros (c ∷ l) ++ (x ∷ [])
    at true q ih =
        let z : c ≡ 48 = eqb-true c 48 q in
        zero-first c (l ++ (x ∷ [])) z
        ∙ ih (subst (λ (k : List ℕ). 0 < length k) (zero-first c l z) p)
        ∙ ap (λ (k : List ℕ). k ++ (x ∷ [])) (sym (zero-first c l z))
    at false q ih =
        let n : c ≡ 48 → ⊥ = eqb-false c 48 q in
        other-first c (l ++ (x ∷ [])) n ∙ ap (λ (k : List ℕ). k ++ (x ∷ [])) (sym (other-first c l n))

significant-plain : (n : ℕ) → without_zeros (significant n) ≡ significant n
unfolding without_zeros
significant-plain zero = ap without_zeros significant-zero ∙ sym significant-zero
significant-plain (suc n) = no-zeros (significant (suc n)) (first-significant (suc n) (omega arith))

-- the digits of a whole part and those after the point, less leading zeros, are those of the whole number
joined : (k n : ℕ) → without_zeros (significant (n / 10 ^ k) ++ fixed k n) ≡ significant n
unfolding fixed
joined zero n = ap without_zeros (append-nil (significant (n / 1)) ∙ ap significant (div-one n)) ∙ significant-plain n
joined (suc k) n =
    ap without_zeros
    (ap (λ (q : ℕ). significant q ++ (fixed k (n / 10) ++ (digit (n % 10) ∷ []))) (sym (div-tens k n))
    ∙ sym (append_assoc (significant (n / 10 / 10 ^ k)) (fixed k (n / 10)) (digit (n % 10) ∷ [])))
    ∙ at (eqb (n / 10) 0) refl (joined k (n / 10))
  where
    front : List ℕ
    front = significant (n / 10 / 10 ^ k) ++ fixed k (n / 10)

    at : (b : Bool) → eqb (n / 10) 0 ≡ b → without_zeros front ≡ significant (n / 10) → without_zeros (front ++ (digit (n % 10) ∷ [])) ≡ significant n
    at true e ih =
        let z : n / 10 ≡ 0 = eqb-true (n / 10) 0 e in
        zeros-then front (digit (n % 10)) (ih ∙ ap significant z ∙ significant-zero) ∙ one-digit (eqb n 0) refl z
      where
        one-digit : (b : Bool) → eqb n 0 ≡ b → n / 10 ≡ 0 → without_zeros (digit (n % 10) ∷ []) ≡ significant n
        one-digit true q z =
            let y : n ≡ 0 = eqb-true n 0 q in
            let d : 48 + n % 10 ≡ 48 = omega arith in
            zero-first (digit (n % 10)) [] d ∙ nothing ∙ sym (ap significant y ∙ significant-zero)
        one-digit false q z =
            let y : n ≡ 0 → ⊥ = eqb-false n 0 q in
            other-first (digit (n % 10)) [] (λ d. y (omega arith))
            ∙ sym (significant-step n (omega arith) ∙ ap (λ (l : List ℕ). l ++ (digit (n % 10) ∷ [])) (ap significant z ∙ significant-zero))
    at false e ih =
        let z : n / 10 ≡ 0 → ⊥ = eqb-false (n / 10) 0 e in
        let p : 0 < n / 10 = omega arith in
        others-then front (digit (n % 10)) (subst (λ (l : List ℕ). 0 < length l) (sym ih) (some-digits (n / 10) p))
        ∙ ap (λ (l : List ℕ). l ++ (digit (n % 10) ∷ [])) ih
        ∙ sym (significant-step n (omega arith))

written-joined : (q : ℕ) (f : List ℕ) → without_zeros (written q ++ f) ≡ without_zeros (significant q ++ f)
unfolding written
written-joined zero f =
    ap (λ (l : List ℕ). without_zeros ((l ++ (48 ∷ [])) ++ f)) significant-zero
    ∙ zero-first 48 f refl
    ∙ ap (λ (l : List ℕ). without_zeros (l ++ f)) (sym significant-zero)
written-joined (suc q) f = ap (λ (l : List ℕ). without_zeros (l ++ f)) (written-positive (suc q) (omega arith))

pub stripped-digits : (n : Number) → stripped n ≡ significant n.digits
unfolding stripped text
stripped-digits n =
    ap without_zeros (point-append (written (n.digits / 10 ^ n.decimals)) (after_point n.decimals n.digits)
    ∙ ap₂ (λ (v w : List ℕ). v ++ w) (no-point (written-digits (n.digits / 10 ^ n.decimals))) (after n.decimals n.digits))
    ∙ written-joined (n.digits / 10 ^ n.decimals) (fixed n.decimals n.digits)
    ∙ joined n.decimals n.digits
  where
    after : (k m : ℕ) → without_point (after_point k m) ≡ fixed k m
    after k m = point-gone k m

-- up to nine decimals; past that, where the digits up to the ninth are all zeros, and where they are not
pub stripped-near : (d code : ℕ) → code < 10 → stripped (number_of d code) ≡ significant d
stripped-near d code h = ap stripped (number-near d code h) ∙ stripped-digits (record { digits = d; decimals = code })

pub stripped-zeros : (d code : ℕ) → d ≡ 0 → stripped (number_of d code) ≡ significant (past_of code)
unfolding number_of
stripped-zeros d code z =
    stripped-digits (number_of d code)
    ∙ ap significant (ap (λ (n : ℕ). n * 10 ^ far_of code + past_of code) z ∙ ap (λ (n : ℕ). n + past_of code) (zero-mul (10 ^ far_of code)) ∙ zero-add (past_of code))

pub stripped-far : (d code : ℕ) → (d ≡ 0 → ⊥) → stripped (number_of d code) ≡ significant d ++ fixed (far_of code) (past_of code)
unfolding number_of
stripped-far d code n =
    stripped-digits (number_of d code)
    ∙ ap significant (sym (value-fixed d (far_of code) (past_of code) ∙ ap (λ (p : ℕ). d * 10 ^ far_of code + p) (mod-eq_of_lt (past-low code))))
    ∙ significant-value d (omega arith) (fixed-digits (far_of code) (past_of code))

-- ---- how long the text is

pub length-text : (n : Number) → Within n → length (text n) ≤ max_whole + 1 + max_decimals
unfolding text
length-text n w =
    let q : n.digits / 10 ^ n.decimals < 10 ^ max_whole =
    (div-lt_iff_lt-mul {k = 10 ^ n.decimals} {x = n.digits} {y = 10 ^ max_whole} (tens n.decimals)).1
    (subst (λ (x : ℕ). n.digits < x) (pow-add 10 max_whole n.decimals) w.low) in
    let a : length (written (n.digits / 10 ^ n.decimals)) ≤ 10 = length-written 9 (n.digits / 10 ^ n.decimals) q in
    let b : length (after_point n.decimals n.digits) ≤ n.decimals + 1 = length-after n.decimals n.digits in
    let e : length (written (n.digits / 10 ^ n.decimals) ++ after_point n.decimals n.digits) ≡ length (written (n.digits / 10 ^ n.decimals)) + length (after_point n.decimals n.digits) =
    length-append (written (n.digits / 10 ^ n.decimals)) (after_point n.decimals n.digits) in
    let f : n.decimals ≤ max_decimals = w.few in
    omega arith

pub length-stripped : (n : Number) → Within n → length (stripped n) ≤ max_whole + max_decimals
length-stripped n w =
    let a : length (significant n.digits) ≤ max_whole + n.decimals = length-significant (max_whole + n.decimals) n.digits w.low in
    let b : length (stripped n) ≡ length (significant n.digits) = ap length (stripped-digits n) in
    let f : n.decimals ≤ max_decimals = w.few in
    omega arith

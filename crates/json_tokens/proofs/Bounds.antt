-- Where tokens end: past where they begin, and within the text.
-- Assumes nothing.
use Rattle.std.specs.Prelude.{None, Option, Some, ℕ}
use mathlib.Core.Path.{◌≡◌, refl, sym, ap, ◌∙◌}
use mathlib.Core.List.{List, [], ◌∷◌}
use mathlib.Core.Bool.{Bool, true, false, ◌||◌}
use Prim.Native.Nat.{ℕ, zero, suc, ◌+◌, ◌-◌, ◌≤◌, ◌<◌}
use native.Mathlib.Omega.{arith}
use lib.ListN.{length, take, drop, length-drop}
use lib.Dec.{ltb, eqb}
use borrow.Author.Tests.{eqb-true}
use Rattle.text.specs.Text.{byte_at, is_digit}
use Rattle.json_tokens.specs.Bytes.{blank, hex_digit, escaped}
use Rattle.json_tokens.specs.Tokens.{and_then, skip_while, blanks, digits, some_digits, closing, separator, chars, escape, hexes, string_rest, string, minus, sign, int, fraction, exponent, json_number, starts_with, literal, scalar}
use Rattle.json_tokens.specs.Ends.{end_of}
use Rattle.json_tokens.proofs.Laws.{in-digit, in-byte, digits-on}

-- the end, if there is one, is from lo to hi
pub data In (lo hi : ℕ) : Option ℕ → Type 0 where
  within : (e : ℕ) → lo ≤ e → e ≤ hi → In lo hi (Some e)
  none : In lo hi None

pub bounds : {lo hi : ℕ} {x : Option ℕ} (e : ℕ) → In lo hi x → x ≡ Some e → (lo ≤ e) × (e ≤ hi)
bounds {lo} {hi} {x} e p h = go (rw h at p)
  where
    go : In lo hi (Some e) → (lo ≤ e) × (e ≤ hi)
    go (within e l m) = (l, m)

-- what ends past a position does not end at 0, so the number 0 tells that it is broken
pub end-broken : {lo hi : ℕ} {x : Option ℕ} (e : ℕ) → 0 < lo → In lo hi x → e ≡ end_of x → e ≡ 0 → x ≡ None
unfolding end_of
end-broken e p (within k l m) h z = absurd (omega arith)
end-broken e p none h z = refl

in-if : {lo hi : ℕ} {x y : Option ℕ} (b : Bool) → In lo hi x → In lo hi y → In lo hi (elim b [ true ↦ x | false ↦ y ])
in-if true p q = p
in-if false p q = q

pub in-when : {lo hi : ℕ} {x y : Option ℕ} (b : Bool) → (b ≡ true → In lo hi x) → In lo hi y → In lo hi (elim b [ true ↦ x | false ↦ y ])
in-when true p q = p refl
in-when false p q = q

pub in-sub : {lo hi lo' hi' : ℕ} {x : Option ℕ} → lo ≤ lo' → hi' ≤ hi → In lo' hi' x → In lo hi x
in-sub l h (within e p q) = within e (omega arith) (omega arith)
in-sub l h none = none

in_then : {lo hi : ℕ} {x : Option ℕ} (f : ℕ → Option ℕ) → In lo hi x → ((e : ℕ) → lo ≤ e → e ≤ hi → In e hi (f e)) → In lo hi (and_then x f)
unfolding and_then
in_then f (within e l h) g = in-sub l (omega arith) (g e l h)
in_then f none g = none

-- ---- over the text from i on
pub run_in : (p : ℕ → Bool) (t : List ℕ) (i : ℕ) → (i ≤ skip_while p t i) × (skip_while p t i ≤ i + length t)
unfolding skip_while
run_in p [] i = (omega arith, omega arith)
run_in p (c ∷ t) i = go (p c) (run_in p t (i + 1))
  where
    go : (b : Bool) → (i + 1 ≤ skip_while p t (i + 1)) × (skip_while p t (i + 1) ≤ i + 1 + length t)
        → (i ≤ elim b [ true ↦ skip_while p t (i + 1) | false ↦ i ]) × (elim b [ true ↦ skip_while p t (i + 1) | false ↦ i ] ≤ i + suc (length t))
    go true h = (omega arith, omega arith)
    go false h = (omega arith, omega arith)

step : (t : List ℕ) (i : ℕ) {x : Option ℕ} → In (i + 1 + 1) (i + 1 + length t) x → In (i + 1) (i + suc (length t)) x
step t i p = in-sub (omega arith) (omega arith) p

mutual
  unfolding chars

  chars-in : (t : List ℕ) (i : ℕ) → In (i + 1) (i + length t) (chars t i)
  chars-in [] i = none
  chars-in (c ∷ t) i =
      in-if (eqb c 34) (within (i + 1) (omega arith) (omega arith))
      (in-if (eqb c 92) (step t i (escape-in t (i + 1)))
      (in-if (ltb c 32) none (step t i (chars-in t (i + 1)))))

  escape-in : (t : List ℕ) (i : ℕ) → In (i + 1) (i + length t) (escape t i)
  escape-in [] i = none
  escape-in (c ∷ t) i =
      in-if (eqb c 117) (step t i (hexes-in t 3 (i + 1)))
      (in-if (escaped c) (step t i (chars-in t (i + 1))) none)

  hexes-in : (t : List ℕ) (n i : ℕ) → In (i + 1) (i + length t) (hexes t n i)
  hexes-in [] n i = none
  hexes-in (c ∷ t) zero i = in-if (hex_digit c) (step t i (chars-in t (i + 1))) none
  hexes-in (c ∷ t) (suc m) i = in-if (hex_digit c) (step t i (hexes-in t m (i + 1))) none

prefix-in : (w t : List ℕ) (i : ℕ) → In (i + length w) (i + length t) (starts_with w t i)
unfolding starts_with
prefix-in [] t i = within i (omega arith) (omega arith)
prefix-in (c ∷ w) [] i = none
prefix-in (c ∷ w) (d ∷ t) i = in-if (eqb d c) (in-sub (omega arith) (omega arith) (prefix-in w t (i + 1))) none

-- ---- at a position of a text
-- what has a byte at least: it ends past i, and within the text
abbrev pub Within : List ℕ → ℕ → Option ℕ → Type 0
Within s i x = In (i + 1) (length s) x

module _ (s : List ℕ) where
  pub blanks-in : (i : ℕ) → (i ≤ blanks s i) × (blanks s i ≤ i + (length s - i))
  unfolding blanks
  blanks-in i = rw (length-drop i s) at (run_in blank (drop i s) i)

  digits_in : (i : ℕ) → (i ≤ digits s i) × (digits s i ≤ i + (length s - i))
  unfolding digits
  digits_in i = rw (length-drop i s) at (run_in is_digit (drop i s) i)

  -- an end past i that lies at most at the end of the text from i on, lies in the text
  inner : (i : ℕ) {x : Option ℕ} → In (i + 1) (i + length (drop i s)) x → Within s i x
  inner i (within e l h) = let n = length-drop i s in within e l (omega arith)
  inner i none = none

  rest_in : (i : ℕ) → Within s i (string_rest s i)
  unfolding string_rest
  rest_in i = inner i (chars-in (drop i s) i)

  pub string-in : (i : ℕ) → Within s i (string s i)
  unfolding string
  string-in i = in-if (eqb (byte_at s i) 34) (in-sub (omega arith) (omega arith) (rest_in (i + 1))) none

  -- a word ends as many bytes on as it has
  pub word-from : (w : List ℕ) (i : ℕ) → In (i + length w) (i + length (drop i s)) (literal w s i)
  unfolding literal
  word-from w i = prefix-in w (drop i s) i

  word_in : (w : List ℕ) (i : ℕ) → 0 < length w → Within s i (literal w s i)
  word_in w i p = inner i (in-sub (omega arith) (omega arith) (word-from w i))

  pub closing-in : (c i : ℕ) → 0 < c → Within s i (closing c s i)
  unfolding closing
  closing-in c i p = in-when (eqb (byte_at s (blanks s i)) c) (λ h.
      let l = in-byte s (blanks s i) c p (eqb-true _ _ h) in
      let m = blanks-in i in
      within (blanks s i + 1) (omega arith) (omega arith)) none

  pub separator-in : (c i : ℕ) → 0 < c → Within s i (separator c s i)
  unfolding separator
  separator-in c i p = in-when (eqb (byte_at s (blanks s i)) c) (λ h.
      let l = in-byte s (blanks s i) c p (eqb-true _ _ h) in
      let m = blanks-in i in
      let k = blanks-in (blanks s i + 1) in
      within (blanks s (blanks s i + 1)) (omega arith) (omega arith)) none

  -- ---- numbers
  digits-past : (i : ℕ) → is_digit (byte_at s i) ≡ true → i < digits s i
  digits-past i h = omega (arith, digits-on s i h, digits_in (i + 1))

  some_in : (i : ℕ) → Within s i (some_digits s i)
  unfolding some_digits
  some_in i = in-when (is_digit (byte_at s i)) (λ h.
      let l = in-digit s i h in
      let m = digits_in i in
      let k = digits-past i h in
      within (digits s i) (omega arith) (omega arith)) none

  optional-in : (i : ℕ) (b : Bool) → (i ≤ elim b [ true ↦ i + 1 | false ↦ i ])
  optional-in i true = omega arith
  optional-in i false = omega arith

  minus-in : (i : ℕ) → i ≤ minus s i
  unfolding minus
  minus-in i = optional-in i (eqb (byte_at s i) 45)

  sign-in : (i : ℕ) → i ≤ sign s i
  unfolding sign
  sign-in i = optional-in i (eqb (byte_at s i) 43 || eqb (byte_at s i) 45)

  pub int-in : (i : ℕ) → Within s i (int s i)
  unfolding int
  int-in i = in-when (eqb (byte_at s i) 48) (λ h. let l = in-byte s i 48 (omega arith) (eqb-true _ _ h) in within (i + 1) (omega arith) (omega arith)) (some_in i)

  pub int-minus-in : (i : ℕ) → Within s i (int s (minus s i))
  int-minus-in i = let m = minus-in i in in-sub (omega arith) (omega arith) (int-in (minus s i))

  -- a fraction and an exponent may be empty
  pub fraction-in : (i : ℕ) → i ≤ length s → In i (length s) (fraction s i)
  unfolding fraction
  fraction-in i l = in-if (eqb (byte_at s i) 46) (in-sub (omega arith) (omega arith) (some_in (i + 1))) (within i (omega arith) l)

  exponent-in : (i : ℕ) → i ≤ length s → In i (length s) (exponent s i)
  unfolding exponent
  exponent-in i l =
      let m = sign-in (i + 1) in
      in-if (eqb (byte_at s i) 101 || eqb (byte_at s i) 69) (in-sub (omega arith) (omega arith) (some_in (sign s (i + 1)))) (within i (omega arith) l)

  pub number_in : (i : ℕ) → Within s i (json_number s i)
  unfolding json_number
  number_in i = in_then (exponent s) (in_then (fraction s) (int-minus-in i) (λ e l h. fraction-in e h)) (λ e l h. exponent-in e h)

  pub scalar-in : (i : ℕ) → Within s i (scalar s i)
  unfolding scalar
  scalar-in i =
      in-if (eqb (byte_at s i) 34) (string-in i)
      (in-if (eqb (byte_at s i) 116) (word_in _ i (omega arith))
      (in-if (eqb (byte_at s i) 102) (word_in _ i (omega arith))
      (in-if (eqb (byte_at s i) 110) (word_in _ i (omega arith)) (number_in i))))

-- ---- a word that stands at i is the text from there on
prefix-is : (w t : List ℕ) (i e : ℕ) → starts_with w t i ≡ Some e → w ≡ take (e - i) t
unfolding starts_with
prefix-is [] t i e h = let z : i ≡ e = cc in let n : 0 ≡ e - i = omega arith in ap (λ k. take k t) n
prefix-is (c ∷ w) [] i e h = let z : ◌≡◌ {A = ℕ} 0 1 = cc in absurd (omega arith)
prefix-is (c ∷ w) (d ∷ t) i e h = go (eqb d c) refl (λ p. prefix-is w t (i + 1) e p) h
  where
    go : (b : Bool) → eqb d c ≡ b → (starts_with w t (i + 1) ≡ Some e → w ≡ take (e - (i + 1)) t)
        → elim b [ true ↦ starts_with w t (i + 1) | false ↦ None ] ≡ Some e → (c ∷ w) ≡ take (e - i) (d ∷ t)
    go true q ih h =
        let b = bounds e (prefix-in w t (i + 1)) h in
        let n : e - i ≡ suc (e - (i + 1)) = omega arith in
        let z : d ≡ c = eqb-true d c q in
        ap (λ x. x ∷ w) (sym z) ∙ ap (λ y. d ∷ y) (ih h) ∙ ap (λ k. take k (d ∷ t)) (sym n)
    go false q ih h = let z : ◌≡◌ {A = ℕ} 0 1 = cc in absurd (omega arith)

pub word-is : (w s : List ℕ) (i e : ℕ) → literal w s i ≡ Some e → w ≡ take (e - i) (drop i s)
unfolding literal
word-is w s i e h = prefix-is w (drop i s) i e h

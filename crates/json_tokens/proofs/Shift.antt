-- A text that begins k bytes later, in the middle of another: each token of it is the other's, and ends k bytes earlier.
-- Assumes nothing.
use Rattle.std.specs.Prelude.{None, Option, Some, ℕ}
use Prim.Native.Nat.{ℕ, zero, suc, ◌+◌}
use mathlib.Core.Path.{◌≡◌, refl, sym, ap, ◌∙◌}
use mathlib.Core.Bool.{Bool, true, false, ◌||◌}
use mathlib.Core.List.{List, [], ◌∷◌}
use native.Mathlib.Omega.{arith}
use lib.ListN.{drop}
use lib.Seq.{drop-drop, get_or-drop}
use lib.Dec.{eqb, ltb}
use Rattle.text.specs.Text.{byte_at, is_digit}
use Rattle.json_tokens.specs.Bytes.{blank, hex_digit, escaped}
use Rattle.json_tokens.specs.Tokens.{and_then, skip_while, blanks, digits, some_digits, closing, separator, chars, escape, hexes, string_rest, string, minus, sign, int, fraction, exponent, json_number, starts_with, literal, scalar}

-- an end, k bytes later
unfoldable pub shifted : ℕ → Option ℕ → Option ℕ
shifted k (Some e) = Some (k + e)
shifted k None = None

-- the first is the second, k bytes later
pub data Shifts (k : ℕ) : Option ℕ → Option ℕ → Type 0 where
  both : {x e : ℕ} → x ≡ k + e → Shifts k (Some x) (Some e)
  neither : Shifts k None None

pub shifts-is : {k : ℕ} {x y : Option ℕ} → Shifts k x y → x ≡ shifted k y
unfolding shifted
shifts-is (both h) = ap Some h
shifts-is neither = refl

module _ (k : ℕ) where
  pub past_one : (i : ℕ) → k + i + 1 ≡ k + (i + 1)
  past_one i = omega arith

  pub shifts-at : {x y : Option ℕ} (e : ℕ) → Shifts k x y → y ≡ Some e → x ≡ Some (k + e)
  unfolding shifted
  shifts-at e h q = shifts-is h ∙ ap (shifted k) q

  pub shifts-broken : {x y : Option ℕ} → Shifts k x y → y ≡ None → x ≡ None
  unfolding shifted
  shifts-broken h q = shifts-is h ∙ ap (shifted k) q

  shifts-on : {x y v w : Option ℕ} (b : Bool) → Shifts k x v → Shifts k y w → Shifts k (elim b [ true ↦ x | false ↦ y ]) (elim b [ true ↦ v | false ↦ w ])
  shifts-on true p q = p
  shifts-on false p q = q

  pub shifts-if : {b c : Bool} {x y v w : Option ℕ} → b ≡ c → Shifts k x v → Shifts k y w → Shifts k (elim b [ true ↦ x | false ↦ y ]) (elim c [ true ↦ v | false ↦ w ])
  shifts-if {b} {c} h p q = rw h (shifts-on c p q)

  pub shifts-then : {x v : Option ℕ} (f g : ℕ → Option ℕ) → Shifts k x v → ((e : ℕ) → Shifts k (f (k + e)) (g e)) → Shifts k (and_then x f) (and_then v g)
  unfolding and_then
  shifts-then f g (both {x} {e} h) n = rw h (n e)
  shifts-then f g neither n = neither

  -- a position, k bytes later
  place-on : {x y : ℕ} (v w : ℕ) (b : Bool) → x ≡ k + v → y ≡ k + w → elim b [ true ↦ x | false ↦ y ] ≡ k + elim b [ true ↦ v | false ↦ w ]
  place-on v w true p q = p
  place-on v w false p q = q

  place-if : {b c : Bool} {x y : ℕ} (v w : ℕ) → b ≡ c → x ≡ k + v → y ≡ k + w → elim b [ true ↦ x | false ↦ y ] ≡ k + elim c [ true ↦ v | false ↦ w ]
  place-if {b} {c} v w h p q = rw h (place-on v w c p q)

  -- ---- over a text that is at k + i in one count, and at i in the other
  run-shift : (p : ℕ → Bool) (t : List ℕ) (i : ℕ) → skip_while p t (k + i) ≡ k + skip_while p t i
  unfolding skip_while
  run-shift p [] i = refl
  run-shift p (c ∷ t) i = place-on (skip_while p t (i + 1)) i (p c) (ap (skip_while p t) (past_one i) ∙ run-shift p t (i + 1)) refl

  mutual
    unfolding chars

    chars-shift : (t : List ℕ) (i : ℕ) → Shifts k (chars t (k + i)) (chars t i)
    chars-shift [] i = neither
    chars-shift (c ∷ t) i =
        shifts-on (eqb c 34) (both (past_one i))
        (shifts-on (eqb c 92) (rw (past_one i) (escape-shift t (i + 1)))
        (shifts-on (ltb c 32) neither (rw (past_one i) (chars-shift t (i + 1)))))

    escape-shift : (t : List ℕ) (i : ℕ) → Shifts k (escape t (k + i)) (escape t i)
    escape-shift [] i = neither
    escape-shift (c ∷ t) i =
        shifts-on (eqb c 117) (rw (past_one i) (hexes-shift t 3 (i + 1)))
        (shifts-on (escaped c) (rw (past_one i) (chars-shift t (i + 1))) neither)

    hexes-shift : (t : List ℕ) (n i : ℕ) → Shifts k (hexes t n (k + i)) (hexes t n i)
    hexes-shift [] n i = neither
    hexes-shift (c ∷ t) zero i = shifts-on (hex_digit c) (rw (past_one i) (chars-shift t (i + 1))) neither
    hexes-shift (c ∷ t) (suc m) i = shifts-on (hex_digit c) (rw (past_one i) (hexes-shift t m (i + 1))) neither

  prefix-shift : (w t : List ℕ) (i : ℕ) → Shifts k (starts_with w t (k + i)) (starts_with w t i)
  unfolding starts_with
  prefix-shift [] t i = both refl
  prefix-shift (c ∷ w) [] i = neither
  prefix-shift (c ∷ w) (d ∷ t) i = shifts-on (eqb d c) (rw (past_one i) (prefix-shift w t (i + 1))) neither

-- ---- at a position
module _ (k : ℕ) (s : List ℕ) where
  abbrev t : List ℕ
  t = drop k s

  from-shift : (i : ℕ) → drop (k + i) s ≡ drop i t
  from-shift i = sym (drop-drop i k s)

  pub byte-shift : (i : ℕ) → byte_at s (k + i) ≡ byte_at t i
  unfolding byte_at
  byte-shift i = sym (get_or-drop k s i 0)

  test-shift : (p : ℕ → Bool) (i : ℕ) → p (byte_at s (k + i)) ≡ p (byte_at t i)
  test-shift p i = ap p (byte-shift i)

  pub blanks-shift : (i : ℕ) → blanks s (k + i) ≡ k + blanks t i
  unfolding blanks
  blanks-shift i = ap (λ (x : List ℕ). skip_while blank x (k + i)) (from-shift i) ∙ run-shift k blank (drop i t) i

  digits-shift : (i : ℕ) → digits s (k + i) ≡ k + digits t i
  unfolding digits
  digits-shift i = ap (λ (x : List ℕ). skip_while is_digit x (k + i)) (from-shift i) ∙ run-shift k is_digit (drop i t) i

  some-shift : (i : ℕ) → Shifts k (some_digits s (k + i)) (some_digits t i)
  unfolding some_digits
  some-shift i = shifts-if k (test-shift is_digit i) (both (digits-shift i)) neither

  -- ---- structural characters
  past-blanks : (i : ℕ) → blanks s (k + i) + 1 ≡ k + (blanks t i + 1)
  past-blanks i = ap (λ (n : ℕ). n + 1) (blanks-shift i) ∙ past_one k (blanks t i)

  byte_past : (c i : ℕ) → eqb (byte_at s (blanks s (k + i))) c ≡ eqb (byte_at t (blanks t i)) c
  byte_past c i = ap (λ (n : ℕ). eqb (byte_at s n) c) (blanks-shift i) ∙ test-shift (λ (b : ℕ). eqb b c) (blanks t i)

  pub closing-shift : (c i : ℕ) → Shifts k (closing c s (k + i)) (closing c t i)
  unfolding closing
  closing-shift c i = shifts-if k (byte_past c i) (both (past-blanks i)) neither

  pub separator-shift : (c i : ℕ) → Shifts k (separator c s (k + i)) (separator c t i)
  unfolding separator
  separator-shift c i = shifts-if k (byte_past c i) (both (ap (blanks s) (past-blanks i) ∙ blanks-shift (blanks t i + 1))) neither

  -- ---- strings
  rest-shift : (i : ℕ) → Shifts k (string_rest s (k + i)) (string_rest t i)
  unfolding string_rest
  rest-shift i = rw (from-shift i) (chars-shift k (drop i t) i)

  pub string-shift : (i : ℕ) → Shifts k (string s (k + i)) (string t i)
  unfolding string
  string-shift i = shifts-if k (test-shift (λ (b : ℕ). eqb b 34) i) (rw (past_one k i) (rest-shift (i + 1))) neither

  -- ---- numbers
  minus-shift : (i : ℕ) → minus s (k + i) ≡ k + minus t i
  unfolding minus
  minus-shift i = place-if k (i + 1) i (test-shift (λ (b : ℕ). eqb b 45) i) (past_one k i) refl

  sign-shift : (i : ℕ) → sign s (k + i) ≡ k + sign t i
  unfolding sign
  sign-shift i = place-if k (i + 1) i (test-shift (λ (b : ℕ). eqb b 43 || eqb b 45) i) (past_one k i) refl

  int-shift : (i : ℕ) → Shifts k (int s (k + i)) (int t i)
  unfolding int
  int-shift i = shifts-if k (test-shift (λ (b : ℕ). eqb b 48) i) (both (past_one k i)) (some-shift i)

  fraction-shift : (i : ℕ) → Shifts k (fraction s (k + i)) (fraction t i)
  unfolding fraction
  fraction-shift i = shifts-if k (test-shift (λ (b : ℕ). eqb b 46) i) (rw (past_one k i) (some-shift (i + 1))) (both refl)

  exponent-shift : (i : ℕ) → Shifts k (exponent s (k + i)) (exponent t i)
  unfolding exponent
  exponent-shift i =
      shifts-if k (test-shift (λ (b : ℕ). eqb b 101 || eqb b 69) i)
      (rw (past_one k i, sign-shift (i + 1)) (some-shift (sign t (i + 1))))
      (both refl)

  pub number-shift : (i : ℕ) → Shifts k (json_number s (k + i)) (json_number t i)
  unfolding json_number
  number-shift i =
      shifts-then k (exponent s) (exponent t)
      (shifts-then k (fraction s) (fraction t) (rw (minus-shift i) (int-shift (minus t i))) fraction-shift)
      exponent-shift

  -- ---- words, and any value that is no array and no object
  pub word-shift : (w : List ℕ) (i : ℕ) → Shifts k (literal w s (k + i)) (literal w t i)
  unfolding literal
  word-shift w i = rw (from-shift i) (prefix-shift k w (drop i t) i)

  pub scalar-shift : (i : ℕ) → Shifts k (scalar s (k + i)) (scalar t i)
  unfolding scalar
  scalar-shift i =
      shifts-if k (test-shift (λ (b : ℕ). eqb b 34) i) (string-shift i)
      (shifts-if k (test-shift (λ (b : ℕ). eqb b 116) i) (word-shift _ i)
      (shifts-if k (test-shift (λ (b : ℕ). eqb b 102) i) (word-shift _ i)
      (shifts-if k (test-shift (λ (b : ℕ). eqb b 110) i) (word-shift _ i) (number-shift i))))

-- The tokens that the writer writes, each where it stands in a text. Assumes nothing.
use Rattle.std.specs.Prelude.{None, Some}
use Prim.Native.Nat.{ℕ, zero, suc, ◌+◌, ◌/◌, ◌%◌, ◌≤◌, ◌<◌}
use mathlib.Core.Path.{◌≡◌, refl, sym, ap, ◌∙◌, subst}
use mathlib.Core.Bool.{Bool, true, false, ◌&&◌, and-eq-true_iff}
use mathlib.Core.List.{List, [], ◌∷◌, ◌++◌, append_assoc}
use native.Mathlib.Nat.{not-suc-le-zero}
use native.Mathlib.Omega.{arith}
use lib.Dec.{eqb}
use borrow.Author.Tests.{ne_eqb, le-ltb, leb-true, eqb-true, eqb-false, not-true}
use lib.ListN.{length, get_or, drop, length-append}
use Rattle.text.specs.Text.{is_digit, byte_at}
use Rattle.decimal.specs.Digits.{written, significant}
use Rattle.decimal.proofs.Digits.{Digits, none, one, digit-in, written-digits, written-positive, significant-zero, first-significant}
use Rattle.json_tokens.specs.Ends.{unescaped}
use Rattle.json_tokens.specs.Tokens.{skip_while, digits, blanks, closing, separator, chars, string_rest, string, int, json_number}
use Rattle.json_tokens.proofs.Laws.{closing-yes, closing-no, separator-yes, separator-no, string-yes, minus-no, int-zero, int-more, some-yes, fraction-none, exponent-none, number_is}
use Rattle.writer.specs.Snapshot.{quoted}
use Rattle.round_trip.proofs.Places.{byte-here, past, past-byte, no-blanks, Stops, stops-is}

-- ---- structural characters with no blank around them
module _ (c : ℕ) (s : List ℕ) (i x : ℕ) (u : List ℕ) (h : drop i s ≡ x ∷ u) (l : 32 < x) where
  here-no-blanks : blanks s i ≡ i
  here-no-blanks = no-blanks s i (x ∷ u) h l

  the-byte : byte_at s (blanks s i) ≡ x
  the-byte = ap (byte_at s) here-no-blanks ∙ byte-here s i (x ∷ u) h

  pub closes : x ≡ c → closing c s i ≡ Some (i + 1)
  closes e = closing-yes c s i (the-byte ∙ e) ∙ ap (λ (n : ℕ). Some (n + 1)) here-no-blanks

  pub closes-not : (x ≡ c → ⊥) → closing c s i ≡ None
  closes-not n = closing-no c s i (λ e. n (sym the-byte ∙ e))

  pub separates : x ≡ c → 32 < get_or u 0 0 → separator c s i ≡ Some (i + 1)
  separates e m =
      separator-yes c s i (the-byte ∙ e)
      ∙ ap (λ (n : ℕ). Some (blanks s (n + 1))) here-no-blanks
      ∙ ap Some (no-blanks s (i + 1) u (past-byte s i x u h) m)

  pub separates-not : (x ≡ c → ⊥) → separator c s i ≡ None
  separates-not n = separator-no c s i (λ e. n (sym the-byte ∙ e))

-- ---- strings without a quote, a backslash or a byte below 32
unfoldable pub plain : List ℕ → Bool
plain [] = true
plain (c ∷ t) = unescaped c && plain t

pub unescaped-in : (c : ℕ) → unescaped c ≡ true → (32 ≤ c) × (c ≡ 34 → ⊥) × (c ≡ 92 → ⊥)
unfolding unescaped
unescaped-in c h =
    let p = (and-eq-true_iff _ _).0 h in
    let q = (and-eq-true_iff _ _).0 p.1 in
    (leb-true 32 c p.0, eqb-false c 34 (not-true _ q.0), eqb-false c 92 (not-true _ q.1))

chars-plain : (t u : List ℕ) (i : ℕ) → plain t ≡ true → chars (t ++ (34 ∷ u)) i ≡ Some (i + (length t + 1))
unfolding chars plain
chars-plain [] u i h = refl
chars-plain (c ∷ t) u i h =
    let p = (and-eq-true_iff (unescaped c) (plain t)).0 h in
    let q = unescaped-in c p.0 in
    rw (ne_eqb c 34 q.1, ne_eqb c 92 q.2, le-ltb c 32 q.0, chars) (chars-plain t u (i + 1) p.1 ∙ ap Some (omega arith))

pub quoted-append : (t u : List ℕ) → quoted t ++ u ≡ 34 ∷ (t ++ (34 ∷ u))
unfolding quoted
quoted-append t u = ap (λ (l : List ℕ). 34 ∷ l) (append_assoc t (34 ∷ []) u)

pub length-quoted : (t : List ℕ) → length (quoted t) ≡ length t + 2
unfolding quoted
length-quoted t = let e : length (t ++ (34 ∷ [])) ≡ length t + 1 = length-append t (34 ∷ []) in omega arith

pub string-here : (s : List ℕ) (i : ℕ) (t u : List ℕ) → plain t ≡ true → drop i s ≡ quoted t ++ u → string s i ≡ Some (i + length (quoted t))
unfolding string_rest
string-here s i t u p h =
    let q : drop i s ≡ 34 ∷ (t ++ (34 ∷ u)) = h ∙ quoted-append t u in
    let n : i + 1 + (length t + 1) ≡ i + length (quoted t) = omega (arith, length-quoted t) in
    string-yes s i (byte-here s i _ q)
    ∙ ap (λ (l : List ℕ). chars l (i + 1)) (past-byte s i 34 _ q)
    ∙ chars-plain t u (i + 1) p
    ∙ ap Some n

-- ---- whole numbers
run-digits : {w : List ℕ} → Digits w → (u : List ℕ) (i : ℕ) → is_digit (get_or u 0 0) ≡ false → skip_while is_digit (w ++ u) i ≡ i + length w
unfolding skip_while is_digit
run-digits none [] i h = omega arith
run-digits none (c ∷ u) i h = rw (h, skip_while) (omega arith)
run-digits (one {c} {s = w} e d) u i h = rw (e, skip_while) (run-digits d u (i + 1) h ∙ omega arith)

pub first-digit : {c : ℕ} {w : List ℕ} → Digits (c ∷ w) → is_digit c ≡ true
first-digit (one e k) = e

module _ (s : List ℕ) (i c : ℕ) (w u : List ℕ) (h : drop i s ≡ (c ∷ w) ++ u) (d : Digits (c ∷ w)) (z : c ≡ 48 → w ≡ []) (stop : Stops u) where
  the-first : byte_at s i ≡ c
  the-first = byte-here s i _ h

  in-digits : (48 ≤ byte_at s i) × (byte_at s i ≤ 57)
  in-digits = let e = the-first in let k : (48 ≤ c) × (c ≤ 57) = digit-in (first-digit d) in (omega arith, omega arith)

  ends_at : ℕ
  ends_at = i + length (c ∷ w)

  after : byte_at s ends_at ≡ get_or u 0 0
  unfolding ends_at
  after = byte-here s ends_at u (past s i (c ∷ w) u h)

  the-int : int s i ≡ Some ends_at
  unfolding ends_at is_digit digits
  the-int = at (eqb c 48) refl
    where
      at : (b : Bool) → eqb c 48 ≡ b → int s i ≡ Some ends_at
      at true e =
          let q : c ≡ 48 = eqb-true c 48 e in
          let n : length w ≡ 0 = ap length (z q) in
          int-zero s i (the-first ∙ q) ∙ ap Some (omega arith)
      at false e =
          int-more s i (λ q. eqb-false c 48 e (sym the-first ∙ q))
          ∙ some-yes s i (ap is_digit the-first ∙ first-digit d)
          ∙ ap Some (ap (λ (l : List ℕ). skip_while is_digit l i) h ∙ run-digits d u i (stops-is u stop).0)

  pub number-here : json_number s i ≡ Some (i + length (c ∷ w))
  unfolding ends_at
  number-here =
      number_is s i ends_at ends_at
      (ap (int s) (minus-no s i (λ e. let k = in-digits in omega arith)) ∙ the-int)
      (fraction-none s ends_at (λ e. (stops-is u stop).1 (sym after ∙ e)))
      ∙ exponent-none s ends_at (λ e. (stops-is u stop).2 (sym after ∙ e)) (λ e. (stops-is u stop).3 (sym after ∙ e))

-- a number's digits: the first, and the others; a 0 in front stands alone
pub record Numeral (t : List ℕ) : Type 0 where
  pub first : ℕ
  pub others : List ℕ
  pub is : t ≡ first ∷ others
  pub all_digits : Digits (first ∷ others)
  pub no-needless : first ≡ 48 → others ≡ []

numeral-of : (t : List ℕ) → Digits t → 0 < length t → (get_or t 0 0 ≡ 48 → ⊥) → Numeral t
numeral-of [] d l n = absurd (not-suc-le-zero l)
numeral-of (c ∷ t) d l n = record { first = c; others = t; is = refl; all_digits = d; no-needless = λ e. absurd (n e) }

some_written : (n : ℕ) → 0 < length (written n)
unfolding written
some_written n = rw (length-append (significant (n / 10)) ((48 + n % 10) ∷ [])) (omega arith)

pub written-numeral : (n : ℕ) → Numeral (written n)
unfolding written
written-numeral zero =
    let e : written 0 ≡ 48 ∷ [] = ap (λ (l : List ℕ). l ++ (48 ∷ [])) significant-zero in
    record { first = 48; others = []; is = e; all_digits = subst Digits e (written-digits 0); no-needless = λ q. refl }
written-numeral (suc n) =
    numeral-of (written (suc n)) (written-digits (suc n)) (some_written (suc n))
    (λ e. first-significant (suc n) (omega arith) (sym (ap (λ (l : List ℕ). get_or l 0 0) (written-positive (suc n) (omega arith))) ∙ e))

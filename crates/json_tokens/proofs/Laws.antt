-- The definitions of `Tokens`, one step at a time at a position: the byte at i decides, and the rest goes on at i + 1.
-- Past the end the byte is 0, and each definition does there what it does at a 0, so no step asks that i lies in the text.
-- Assumes nothing.
use Rattle.std.specs.Prelude.{None, Option, Some, ℕ}
use mathlib.Core.Path.{◌≡◌, refl, sym, ap, ◌∙◌}
use mathlib.Core.List.{List, [], ◌∷◌, ◌++◌}
use mathlib.Core.Bool.{Bool, true, false, true≢false, ◌&&◌, and-eq-true_iff}
use Prim.Native.Nat.{ℕ, zero, suc, ◌+◌, ◌≤◌, ◌<◌}
use native.Mathlib.Decide.{dec_lt}
use native.Mathlib.Numerals.{add-one}
use native.Mathlib.Omega.{arith}
use lib.ListN.{length, get_or, drop, drop_of_length-le, get_or-eq_default}
use lib.Seq.{drop-cons}
use lib.Dec.{ltb, eqb}
use borrow.Author.Tests.{eq-eqb, ne_eqb, lt-ltb, le-ltb}
use Rattle.text.specs.Text.{byte_at, is_digit}
use Rattle.json_tokens.specs.Bytes.{blank, hex_digit, escaped}
use Rattle.json_tokens.specs.Tokens.{and_then, skip_while, blanks, digits, some_digits, closing, separator, chars, escape, hexes, string_rest, string, minus, sign, int, fraction, exponent, json_number, starts_with, literal, scalar}
use Rattle.json_tokens.specs.Ends.{end_of, four_hex}

-- ---- an end as a number
pub end-at : (x : Option ℕ) (e : ℕ) → e ≡ end_of x → (e ≡ 0 → ⊥) → x ≡ Some e
unfolding end_of
end-at (Some k) e h n = ap Some (sym h)
end-at None e h n = absurd (n h)

pub end_is : {x : Option ℕ} {e : ℕ} → x ≡ Some e → e ≡ end_of x
unfolding end_of
end_is h = rw h

pub end_none : {x : Option ℕ} → x ≡ None → 0 ≡ end_of x
unfolding end_of
end_none h = rw h

pub then_at : {x : Option ℕ} {e : ℕ} (f : ℕ → Option ℕ) → x ≡ Some e → and_then x f ≡ f e
unfolding and_then
then_at f h = rw (h, and_then)

pub then-broken : {x : Option ℕ} (f : ℕ → Option ℕ) → x ≡ None → and_then x f ≡ None
unfolding and_then
then-broken f h = rw (h, and_then)

-- ---- the text from i on, where i lies in it, and where not
pub here : (s : List ℕ) (i : ℕ) → i < length s → drop i s ≡ byte_at s i ∷ drop (i + 1) s
unfolding byte_at
here s i h = rw (add-one, drop-cons s i 0)

pub past : (s : List ℕ) (i : ℕ) → length s ≤ i → byte_at s i ≡ 0
unfolding byte_at
past s i h = get_or-eq_default s 0 h

-- by where i lies
pub by_place : {A : Type 0} (s : List ℕ) (i : ℕ) → (i < length s → A) → (length s ≤ i → A) → A
by_place s i f g = elim (dec_lt i (length s)) [ yes h ↦ f h | no h ↦ g (omega arith) ]

-- a byte that is not 0 lies in the text
pub inside : (s : List ℕ) (i : ℕ) → (byte_at s i ≡ 0 → ⊥) → i < length s
inside s i h = by_place s i (λ l. l) (λ g. absurd (h (past s i g)))

pub in_some : (s : List ℕ) (i : ℕ) → 0 < byte_at s i → i < length s
in_some s i h = inside s i (λ e. omega arith)

-- a byte that passes a test which 0 does not
pub in-kind : (p : ℕ → Bool) → p 0 ≡ false → (s : List ℕ) (i : ℕ) → p (byte_at s i) ≡ true → i < length s
in-kind p none s i h = inside s i (λ e. true≢false (sym h ∙ ap p e ∙ none))

module _ (s : List ℕ) (i : ℕ) where
  pub in-blank : blank (byte_at s i) ≡ true → i < length s
  unfolding blank
  in-blank h = in-kind blank refl s i h

  pub in-digit : is_digit (byte_at s i) ≡ true → i < length s
  unfolding is_digit
  in-digit h = in-kind is_digit refl s i h

  pub in-hex : hex_digit (byte_at s i) ≡ true → i < length s
  unfolding hex_digit is_digit
  in-hex h = in-kind hex_digit refl s i h

  pub in-escaped : escaped (byte_at s i) ≡ true → i < length s
  unfolding escaped
  in-escaped h = in-kind escaped refl s i h

  pub in-byte : (c : ℕ) → 0 < c → byte_at s i ≡ c → i < length s
  in-byte c p h = inside s i (λ e. omega arith)

-- ---- runs
module _ (p : ℕ → Bool) (none : p 0 ≡ false) (s : List ℕ) (i : ℕ) where
  pub run_on : p (byte_at s i) ≡ true → skip_while p (drop i s) i ≡ skip_while p (drop (i + 1) s) (i + 1)
  unfolding skip_while
  run_on h = rw (here s i (in-kind p none s i h), h, skip_while)

  pub run-stops : p (byte_at s i) ≡ false → skip_while p (drop i s) i ≡ i
  unfolding skip_while
  run-stops h = by_place s i (λ l. rw (here s i l, h, skip_while)) (λ g. rw (drop_of_length-le s g))

module _ (s : List ℕ) (i : ℕ) where
  pub blanks-on : blank (byte_at s i) ≡ true → blanks s i ≡ blanks s (i + 1)
  unfolding blanks blank
  blanks-on h = run_on blank refl s i h

  pub blanks-stop : blank (byte_at s i) ≡ false → blanks s i ≡ i
  unfolding blanks blank
  blanks-stop h = run-stops blank refl s i h

  pub digits-on : is_digit (byte_at s i) ≡ true → digits s i ≡ digits s (i + 1)
  unfolding digits is_digit
  digits-on h = run_on is_digit refl s i h

  pub digits-stop : is_digit (byte_at s i) ≡ false → digits s i ≡ i
  unfolding digits is_digit
  digits-stop h = run-stops is_digit refl s i h

  pub some-yes : is_digit (byte_at s i) ≡ true → some_digits s i ≡ Some (digits s i)
  unfolding some_digits
  some-yes h = rw (h, some_digits)

  pub some-no : is_digit (byte_at s i) ≡ false → some_digits s i ≡ None
  unfolding some_digits
  some-no h = rw (h, some_digits)

-- ---- structural characters
module _ (c : ℕ) (s : List ℕ) (i : ℕ) where
  pub closing-yes : byte_at s (blanks s i) ≡ c → closing c s i ≡ Some (blanks s i + 1)
  unfolding closing
  closing-yes h = rw (eq-eqb _ _ h, closing)

  pub closing-no : (byte_at s (blanks s i) ≡ c → ⊥) → closing c s i ≡ None
  unfolding closing
  closing-no n = rw (ne_eqb _ _ n, closing)

  pub separator-yes : byte_at s (blanks s i) ≡ c → separator c s i ≡ Some (blanks s (blanks s i + 1))
  unfolding separator
  separator-yes h = rw (eq-eqb _ _ h, separator)

  pub separator-no : (byte_at s (blanks s i) ≡ c → ⊥) → separator c s i ≡ None
  unfolding separator
  separator-no n = rw (ne_eqb _ _ n, separator)

-- ---- strings, past the first quote: one step by the byte at i
escape_at : List ℕ → ℕ → Option ℕ
escape_at s i = escape (drop i s) i

hexes_at : List ℕ → ℕ → ℕ → Option ℕ
hexes_at s n i = hexes (drop i s) n i

module _ (s : List ℕ) (i : ℕ) where
  rest_at : string_rest s i ≡
      elim (eqb (byte_at s i) 34) [
        | true ↦ Some (i + 1)
        | false ↦ elim (eqb (byte_at s i) 92) [
          | true ↦ escape_at s (i + 1)
          | false ↦ elim (ltb (byte_at s i) 32) [ true ↦ None | false ↦ string_rest s (i + 1) ]
        ]
      ]
  unfolding string_rest chars escape_at
  rest_at = by_place s i (λ l. rw (here s i l)) (λ g. rw (drop_of_length-le s g, past s i g, past s i g, past s i g))

  escape-at : escape_at s i ≡
      elim (eqb (byte_at s i) 117) [
        | true ↦ hexes_at s 3 (i + 1)
        | false ↦ elim (escaped (byte_at s i)) [ true ↦ string_rest s (i + 1) | false ↦ None ]
      ]
  unfolding string_rest chars escape_at hexes_at escaped
  escape-at = by_place s i (λ l. rw (here s i l)) (λ g. rw (drop_of_length-le s g, past s i g, past s i g))

  hexes-at : (n : ℕ) → hexes_at s n i ≡
      elim (hex_digit (byte_at s i)) [
        | true ↦ elim n [ zero ↦ string_rest s (i + 1) | suc m ↦ hexes_at s m (i + 1) ]
        | false ↦ None
      ]
  unfolding string_rest chars hexes_at hex_digit is_digit
  hexes-at n = by_place s i (λ l. rw (here s i l)) (λ g. rw (drop_of_length-le s g, past s i g))

-- a && b, by cases
by_and : {A : Type 0} (a b : Bool) → (a && b) ≡ false → (a ≡ false → A) → (a ≡ true → b ≡ false → A) → A
by_and true b h f g = g refl h
by_and false b h f g = f refl

module _ (s : List ℕ) where
  hex-on : (i m : ℕ) → hex_digit (byte_at s i) ≡ true → hexes_at s (suc m) i ≡ hexes_at s m (i + 1)
  hex-on i m h = rw (hexes-at s i (suc m), h)

  hex-last : (i : ℕ) → hex_digit (byte_at s i) ≡ true → hexes_at s 0 i ≡ string_rest s (i + 1)
  hex-last i h = rw (hexes-at s i 0, h)

  hex-no : (i m : ℕ) → hex_digit (byte_at s i) ≡ false → hexes_at s m i ≡ None
  hex-no i m h = rw (hexes-at s i m, h)

  plus-two : (i : ℕ) → i + 1 + 1 ≡ i + 2
  plus-two i = omega arith

  hexes-four : (i : ℕ) → four_hex s i ≡ true → hexes_at s 3 i ≡ string_rest s (i + 4)
  unfolding four_hex
  hexes-four i h =
      let p = (and-eq-true_iff _ _).0 h in
      let q = (and-eq-true_iff _ _).0 p.1 in
      let r = (and-eq-true_iff _ _).0 q.1 in
      hex-on i 2 p.0
      ∙ hex-on (i + 1) 1 q.0
      ∙ ap (hexes_at s 1) (plus-two i)
      ∙ hex-on (i + 2) 0 r.0
      ∙ ap (hexes_at s 0) (omega arith)
      ∙ hex-last (i + 3) r.1
      ∙ ap (string_rest s) (omega arith)

  hexes-none : (i : ℕ) → four_hex s i ≡ false → hexes_at s 3 i ≡ None
  unfolding four_hex
  hexes-none i h =
      by_and _ _ h (λ n. hex-no i 3 n) λ a h1.
      hex-on i 2 a ∙ by_and _ _ h1 (λ n. hex-no (i + 1) 2 n) λ b h2.
      hex-on (i + 1) 1 b ∙ ap (hexes_at s 1) (plus-two i) ∙ by_and _ _ h2 (λ n. hex-no (i + 2) 1 n) λ d h3.
      hex-on (i + 2) 0 d ∙ ap (hexes_at s 0) (omega arith) ∙ hex-no (i + 3) 0 h3

  pub in-four-hex : (i : ℕ) → four_hex s i ≡ true → i + 3 < length s
  unfolding four_hex
  in-four-hex i h =
      let p = (and-eq-true_iff (hex_digit (byte_at s i)) _).0 h in
      let q = (and-eq-true_iff (hex_digit (byte_at s (i + 1))) _).0 p.1 in
      let r = (and-eq-true_iff (hex_digit (byte_at s (i + 2))) _).0 q.1 in
      in-hex s (i + 3) r.1

module _ (s : List ℕ) (i : ℕ) where
  pub rest-quote : byte_at s i ≡ 34 → string_rest s i ≡ Some (i + 1)
  rest-quote h = rw (rest_at s i, h)

  pub rest-low : (byte_at s i ≡ 34 → ⊥) → (byte_at s i ≡ 92 → ⊥) → byte_at s i < 32 → string_rest s i ≡ None
  rest-low n m h = rw (rest_at s i, ne_eqb _ _ n, ne_eqb _ _ m, lt-ltb _ _ h)

  pub rest_plain : (byte_at s i ≡ 34 → ⊥) → (byte_at s i ≡ 92 → ⊥) → 32 ≤ byte_at s i → string_rest s i ≡ string_rest s (i + 1)
  rest_plain n m h = rw (rest_at s i, ne_eqb _ _ n, ne_eqb _ _ m, le-ltb _ _ h)

  rest-escape : byte_at s i ≡ 92 → string_rest s i ≡ escape_at s (i + 1)
  rest-escape h = rw (rest_at s i, h, h)

  pub rest-two : byte_at s i ≡ 92 → (byte_at s (i + 1) ≡ 117 → ⊥) → escaped (byte_at s (i + 1)) ≡ true → string_rest s i ≡ string_rest s (i + 2)
  rest-two h n e = rw (rest-escape h, escape-at s (i + 1), ne_eqb _ _ n, e) (ap (string_rest s) (omega arith))

  pub rest-two-no : byte_at s i ≡ 92 → (byte_at s (i + 1) ≡ 117 → ⊥) → escaped (byte_at s (i + 1)) ≡ false → string_rest s i ≡ None
  rest-two-no h n e = rw (rest-escape h, escape-at s (i + 1), ne_eqb _ _ n, e)

  rest-u : byte_at s i ≡ 92 → byte_at s (i + 1) ≡ 117 → string_rest s i ≡ hexes_at s 3 (i + 2)
  rest-u h e = rw (rest-escape h, escape-at s (i + 1), e) (ap (hexes_at s 3) (omega arith))

  pub rest-six : byte_at s i ≡ 92 → byte_at s (i + 1) ≡ 117 → four_hex s (i + 2) ≡ true → string_rest s i ≡ string_rest s (i + 6)
  rest-six h e x = rest-u h e ∙ hexes-four s (i + 2) x ∙ ap (string_rest s) (omega arith)

  pub rest-six-no : byte_at s i ≡ 92 → byte_at s (i + 1) ≡ 117 → four_hex s (i + 2) ≡ false → string_rest s i ≡ None
  rest-six-no h e x = rest-u h e ∙ hexes-none s (i + 2) x

  pub string-yes : byte_at s i ≡ 34 → string s i ≡ string_rest s (i + 1)
  unfolding string
  string-yes h = rw (h, string)

  pub string-no : (byte_at s i ≡ 34 → ⊥) → string s i ≡ None
  unfolding string
  string-no n = rw (ne_eqb _ _ n, string)

-- ---- numbers
module _ (s : List ℕ) (i : ℕ) where
  pub minus-yes : byte_at s i ≡ 45 → minus s i ≡ i + 1
  unfolding minus
  minus-yes h = rw (h, minus)

  pub minus-no : (byte_at s i ≡ 45 → ⊥) → minus s i ≡ i
  unfolding minus
  minus-no n = rw (ne_eqb _ _ n, minus)

  pub sign-plus : byte_at s i ≡ 43 → sign s i ≡ i + 1
  unfolding sign
  sign-plus h = rw (h, sign)

  pub sign-minus : byte_at s i ≡ 45 → sign s i ≡ i + 1
  unfolding sign
  sign-minus h = rw (h, sign)

  pub sign-none : (byte_at s i ≡ 43 → ⊥) → (byte_at s i ≡ 45 → ⊥) → sign s i ≡ i
  unfolding sign
  sign-none n m = rw (ne_eqb _ _ n, ne_eqb _ _ m, sign)

  pub int-zero : byte_at s i ≡ 48 → int s i ≡ Some (i + 1)
  unfolding int
  int-zero h = rw (h, int)

  pub int-more : (byte_at s i ≡ 48 → ⊥) → int s i ≡ some_digits s i
  unfolding int
  int-more n = rw (ne_eqb _ _ n, int)

  pub fraction-point : byte_at s i ≡ 46 → fraction s i ≡ some_digits s (i + 1)
  unfolding fraction
  fraction-point h = rw (h, fraction)

  pub fraction-none : (byte_at s i ≡ 46 → ⊥) → fraction s i ≡ Some i
  unfolding fraction
  fraction-none n = rw (ne_eqb _ _ n, fraction)

  pub exponent-lower : byte_at s i ≡ 101 → exponent s i ≡ some_digits s (sign s (i + 1))
  unfolding exponent
  exponent-lower h = rw (h, exponent)

  pub exponent-upper : byte_at s i ≡ 69 → exponent s i ≡ some_digits s (sign s (i + 1))
  unfolding exponent
  exponent-upper h = rw (h, exponent)

  pub exponent-none : (byte_at s i ≡ 101 → ⊥) → (byte_at s i ≡ 69 → ⊥) → exponent s i ≡ Some i
  unfolding exponent
  exponent-none n m = rw (ne_eqb _ _ n, ne_eqb _ _ m, exponent)

  pub number_is : (j k : ℕ) → int s (minus s i) ≡ Some j → fraction s j ≡ Some k → json_number s i ≡ exponent s k
  unfolding json_number
  number_is j k p q = then_at (exponent s) (then_at (fraction s) p ∙ q)

  pub number-no-int : int s (minus s i) ≡ None → json_number s i ≡ None
  unfolding json_number
  number-no-int p = then-broken (exponent s) (then-broken (fraction s) p)

  pub number-no-fraction : (j : ℕ) → int s (minus s i) ≡ Some j → fraction s j ≡ None → json_number s i ≡ None
  unfolding json_number
  number-no-fraction j p q = then-broken (exponent s) (then_at (fraction s) p ∙ q)

-- ---- a step of a word
module _ (w s : List ℕ) (k i : ℕ) where
  pub word-ends : length w ≤ k → starts_with (drop k w) (drop i s) i ≡ Some i
  unfolding starts_with
  word-ends h = rw (drop_of_length-le w h)

  pub word-past : k < length w → length s ≤ i → starts_with (drop k w) (drop i s) i ≡ None
  unfolding starts_with
  word-past h g = rw (here w k h, drop_of_length-le s g)

  pub word_on : k < length w → i < length s → get_or s i 0 ≡ get_or w k 0 → starts_with (drop k w) (drop i s) i ≡ starts_with (drop (k + 1) w) (drop (i + 1) s) (i + 1)
  unfolding starts_with byte_at
  word_on h g e = rw (here w k h, here s i g, eq-eqb _ _ e, starts_with)

  pub word-off : k < length w → i < length s → (get_or s i 0 ≡ get_or w k 0 → ⊥) → starts_with (drop k w) (drop i s) i ≡ None
  unfolding starts_with byte_at
  word-off h g n = rw (here w k h, here s i g, ne_eqb _ _ n, starts_with)

-- ---- a word, by its first byte
module _ (s : List ℕ) (i : ℕ) where
  pub word-nil : literal [] s i ≡ Some i
  unfolding literal starts_with
  word-nil = refl

  pub word-cons : (c : ℕ) (w : List ℕ) → 0 < c → byte_at s i ≡ c → literal (c ∷ w) s i ≡ literal w s (i + 1)
  unfolding literal starts_with
  word-cons c w p h = rw (here s i (in-byte s i c p h), eq-eqb _ _ h, starts_with)

  pub word-other : (c : ℕ) (w : List ℕ) → (byte_at s i ≡ c → ⊥) → literal (c ∷ w) s i ≡ None
  unfolding literal starts_with
  word-other c w n = by_place s i (λ l. rw (here s i l, ne_eqb _ _ n, starts_with)) (λ g. rw (drop_of_length-le s g))

-- two words, one after the other
pub word_append : (v w s : List ℕ) (i : ℕ) → literal (v ++ w) s i ≡ and_then (literal v s i) (literal w s)
unfolding literal and_then starts_with
word_append [] w s i = refl
word_append (c ∷ v) w s i = by_place s i (λ l. rw (here s i l) (go (eqb (byte_at s i) c) (word_append v w s (i + 1)))) (λ g. rw (drop_of_length-le s g))
  where
    go : (b : Bool) → literal (v ++ w) s (i + 1) ≡ and_then (literal v s (i + 1)) (literal w s)
        → elim b [ true ↦ starts_with (v ++ w) (drop (i + 1) s) (i + 1) | false ↦ None ]
        ≡ and_then (elim b [ true ↦ starts_with v (drop (i + 1) s) (i + 1) | false ↦ None ]) (literal w s)
    go true ih = ih
    go false ih = refl

-- ---- a scalar, by its first byte
module _ (s : List ℕ) (i : ℕ) where
  pub scalar-string : byte_at s i ≡ 34 → scalar s i ≡ string s i
  unfolding scalar
  scalar-string h = rw (h, scalar)

  pub scalar-true : byte_at s i ≡ 116 → scalar s i ≡ literal (116 ∷ 114 ∷ 117 ∷ 101 ∷ []) s i
  unfolding scalar
  scalar-true h = rw (h, h, scalar)

  pub scalar-false : byte_at s i ≡ 102 → scalar s i ≡ literal (102 ∷ 97 ∷ 108 ∷ 115 ∷ 101 ∷ []) s i
  unfolding scalar
  scalar-false h = rw (h, h, h, scalar)

  pub scalar-null : byte_at s i ≡ 110 → scalar s i ≡ literal (110 ∷ 117 ∷ 108 ∷ 108 ∷ []) s i
  unfolding scalar
  scalar-null h = rw (h, h, h, h, scalar)

  pub scalar-number : (byte_at s i ≡ 34 → ⊥) → (byte_at s i ≡ 116 → ⊥) → (byte_at s i ≡ 102 → ⊥) → (byte_at s i ≡ 110 → ⊥) → scalar s i ≡ json_number s i
  unfolding scalar
  scalar-number a b c d = rw (ne_eqb _ _ a, ne_eqb _ _ b, ne_eqb _ _ c, ne_eqb _ _ d, scalar)

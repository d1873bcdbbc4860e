-- The tokens of JSON, RFC 8259: blanks, structural characters, strings, numbers, literal names. Each is a function from a text and a position
-- to the position past the token that begins there, or none where no token of its kind begins there. Its name in the RFC's grammar stands above each.
-- Assumes nothing: these are definitions.
use Rattle.std.specs.Prelude.{ℕ, zero, suc, ◌+◌, List, [], ◌∷◌, Bool, true, false, ◌||◌, drop, length, ltb, eqb, None, Option, Some}
use Rattle.text.specs.Text.{byte_at, is_digit}
use Rattle.json_tokens.specs.Bytes.{quote, backslash, blank, hex_digit, escaped}

-- one thing, and from where it ends the next
unfoldable pub and_then : Option ℕ → (ℕ → Option ℕ) → Option ℕ
and_then (Some e) next = next e
and_then None next = None

-- ---- runs of bytes of one kind. `run p t i`: the position past the bytes that pass p; t is the text from i on
unfoldable pub skip_while : (ℕ → Bool) → List ℕ → ℕ → ℕ
skip_while p [] i = i
skip_while p (c ∷ t) i = elim (p c) [ true ↦ skip_while p t (i + 1) | false ↦ i ]

-- ws
unfoldable pub blanks : List ℕ → ℕ → ℕ
blanks s i = skip_while blank (drop i s) i

-- *DIGIT
unfoldable pub digits : List ℕ → ℕ → ℕ
digits s i = skip_while is_digit (drop i s) i

-- 1*DIGIT
unfoldable pub some_digits : List ℕ → ℕ → Option ℕ
some_digits s i = elim (is_digit (byte_at s i)) [ true ↦ Some (digits s i) | false ↦ None ]

-- ---- structural characters. Blanks past a closing bracket belong to what follows, so that a value ends with its own last byte
-- end-array, end-object: ws close
unfoldable pub closing : ℕ → List ℕ → ℕ → Option ℕ
closing close s i = elim (eqb (byte_at s (blanks s i)) close) [ true ↦ Some (blanks s i + 1) | false ↦ None ]

-- name-separator, value-separator: ws separator ws
unfoldable pub separator : ℕ → List ℕ → ℕ → Option ℕ
separator byte s i = elim (eqb (byte_at s (blanks s i)) byte) [ true ↦ Some (blanks s (blanks s i + 1)) | false ↦ None ]

-- ---- strings
-- *char quotation-mark; t is the text from i on. No byte below 32; bytes of 128 and above are not examined.
-- `escape` is past a backslash; `hexes t n i` owes one hex digit, and n more
unfoldable mutual
  pub chars : List ℕ → ℕ → Option ℕ
  chars [] i = None
  chars (c ∷ t) i =
      elim (eqb c quote) [
        | true ↦ Some (i + 1)
        | false ↦ elim (eqb c backslash) [
          | true ↦ escape t (i + 1)
          | false ↦ elim (ltb c 32) [ true ↦ None | false ↦ chars t (i + 1) ]
        ]
      ]

  pub escape : List ℕ → ℕ → Option ℕ
  escape [] i = None
  escape (c ∷ t) i = elim (eqb c 117) [ true ↦ hexes t 3 (i + 1) | false ↦ elim (escaped c) [ true ↦ chars t (i + 1) | false ↦ None ] ]

  pub hexes : List ℕ → ℕ → ℕ → Option ℕ
  hexes [] n i = None
  hexes (c ∷ t) n i = elim (hex_digit c) [ true ↦ elim n [ zero ↦ chars t (i + 1) | suc m ↦ hexes t m (i + 1) ] | false ↦ None ]

-- the same at a position of a text: a string from past its first quote
unfoldable pub string_rest : List ℕ → ℕ → Option ℕ
string_rest s i = chars (drop i s) i

-- string = quotation-mark *char quotation-mark
unfoldable pub string : List ℕ → ℕ → Option ℕ
string s i = elim (eqb (byte_at s i) quote) [ true ↦ string_rest s (i + 1) | false ↦ None ]

-- ---- numbers
-- [ minus ]
unfoldable pub minus : List ℕ → ℕ → ℕ
minus s i = elim (eqb (byte_at s i) 45) [ true ↦ i + 1 | false ↦ i ]

-- [ minus / plus ]
unfoldable pub sign : List ℕ → ℕ → ℕ
sign s i = elim (eqb (byte_at s i) 43 || eqb (byte_at s i) 45) [ true ↦ i + 1 | false ↦ i ]

-- int = zero / ( digit1-9 *DIGIT )
unfoldable pub int : List ℕ → ℕ → Option ℕ
int s i = elim (eqb (byte_at s i) 48) [ true ↦ Some (i + 1) | false ↦ some_digits s i ]

-- [ frac ], frac = decimal-point 1*DIGIT
unfoldable pub fraction : List ℕ → ℕ → Option ℕ
fraction s i = elim (eqb (byte_at s i) 46) [ true ↦ some_digits s (i + 1) | false ↦ Some i ]

-- [ exp ], exp = e [ minus / plus ] 1*DIGIT, with e a lower or an upper case letter
unfoldable pub exponent : List ℕ → ℕ → Option ℕ
exponent s i = elim (eqb (byte_at s i) 101 || eqb (byte_at s i) 69) [ true ↦ some_digits s (sign s (i + 1)) | false ↦ Some i ]

-- number = [ minus ] int [ frac ] [ exp ]
unfoldable pub json_number : List ℕ → ℕ → Option ℕ
json_number s i = and_then (and_then (int s (minus s i)) (fraction s)) (exponent s)

-- ---- literal names: the bytes w stand at the front of t, the text from i on
unfoldable pub starts_with : List ℕ → List ℕ → ℕ → Option ℕ
starts_with [] t i = Some i
starts_with (c ∷ w) [] i = None
starts_with (c ∷ w) (d ∷ t) i = elim (eqb d c) [ true ↦ starts_with w t (i + 1) | false ↦ None ]

unfoldable pub literal : List ℕ → List ℕ → ℕ → Option ℕ
literal w s i = starts_with w (drop i s) i

-- ---- a value that is no array and no object: its first byte tells which
unfoldable pub scalar : List ℕ → ℕ → Option ℕ
scalar s i =
    elim (eqb (byte_at s i) quote) [
      | true ↦ string s i
      | false ↦ elim (eqb (byte_at s i) 116) [
        | true ↦ literal (116 ∷ 114 ∷ 117 ∷ 101 ∷ []) s i
        | false ↦ elim (eqb (byte_at s i) 102) [
          | true ↦ literal (102 ∷ 97 ∷ 108 ∷ 115 ∷ 101 ∷ []) s i
          | false ↦ elim (eqb (byte_at s i) 110) [ true ↦ literal (110 ∷ 117 ∷ 108 ∷ 108 ∷ []) s i | false ↦ json_number s i ]
        ]
      ]
    ]

-- ---- nothing but blanks stands from i to the end of the text
unfoldable pub ended : List ℕ → ℕ → Bool
ended s i = eqb (blanks s i) (length s)

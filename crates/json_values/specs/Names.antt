-- What a string means, and whether it is a given name. This is the only place that says so.
-- Assumes nothing: these are definitions.
use Rattle.std.specs.Prelude.{ℕ, zero, suc, ◌+◌, ◌-◌, ◌*◌, List, [], ◌∷◌, Bool, true, false, ◌&&◌, cond, take, drop, leb, eqb}
use Rattle.text.specs.Text.{byte_at, is_digit}
use Rattle.json_tokens.specs.Bytes.{quote, backslash}
use Rattle.json_values.specs.Json.{Span}

-- the bytes of a part
unfoldable pub part : List ℕ → Span → List ℕ
part s a = take (a.to - a.from) (drop a.from s)

-- ---- escapes, t being the text behind the backslash

-- the two-character escapes: b, f, n, r and t mean control characters; a quote, a backslash and a slash mean themselves
unfoldable pub short_meaning : ℕ → ℕ
short_meaning c = cond (eqb c 98) 8 (cond (eqb c 102) 12 (cond (eqb c 110) 10 (cond (eqb c 114) 13 (cond (eqb c 116) 9 c))))

-- the value of a hex digit: 0 to 9, a to f, A to F
unfoldable pub hex_value : ℕ → ℕ
hex_value c = cond (is_digit c) (c - 48) (cond (leb 97 c) (c - 87) (c - 55))

-- u and four hex digits
unfoldable pub long_meaning : List ℕ → ℕ
long_meaning t = ((hex_value (byte_at t 1) * 16 + hex_value (byte_at t 2)) * 16 + hex_value (byte_at t 3)) * 16 + hex_value (byte_at t 4)

unfoldable pub escape_meaning : List ℕ → ℕ
escape_meaning t = cond (eqb (byte_at t 0) 117) (long_meaning t) (short_meaning (byte_at t 0))

unfoldable pub escape_length : List ℕ → ℕ
escape_length t = cond (eqb (byte_at t 0) 117) 5 1

-- ---- strings

-- What the bytes between two quotes mean, character by character; the first `skip` of them belong to the escape before them.
-- Our names have bytes of 33 to 126 alone, so a string with an escape that means anything else means none of them.
unfoldable pub meaning : ℕ → List ℕ → List ℕ
meaning skip [] = []
meaning (suc k) (c ∷ t) = meaning k t
meaning zero (c ∷ t) = cond (eqb c backslash) (escape_meaning t ∷ meaning (escape_length t) t) (c ∷ meaning zero t)

-- the bytes between the quotes of a string
unfoldable pub inner : List ℕ → Span → List ℕ
inner s a = take (a.to - a.from - 2) (drop (a.from + 1) s)

abbrev pub same : List ℕ → List ℕ → Bool
same [] [] = true
same [] (d ∷ t) = false
same (c ∷ s) [] = false
same (c ∷ s) (d ∷ t) = eqb c d && same s t

-- the string at a, quotes included, means the name
unfoldable pub means : List ℕ → Span → List ℕ → Bool
means s a name = eqb (byte_at s a.from) quote && same (meaning zero (inner s a)) name

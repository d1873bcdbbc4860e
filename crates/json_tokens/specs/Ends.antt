-- What contracts say of tokens, in terms of the code. Assumes nothing: these are definitions.
use Rattle.std.specs.Prelude.{ℕ, ◌+◌, Bool, ◌&&◌, not, List, leb, eqb, None, Option, Some}
use Rattle.text.specs.Text.{byte_at}
use Rattle.json_tokens.specs.Bytes.{quote, backslash, hex_digit}

-- An end as one number: no token of a byte or more ends at 0
unfoldable pub end_of : Option ℕ → ℕ
end_of (Some e) = e
end_of None = 0

-- 4HEXDIG stand at i
unfoldable pub four_hex : List ℕ → ℕ → Bool
four_hex s i = hex_digit (byte_at s i) && (hex_digit (byte_at s (i + 1)) && (hex_digit (byte_at s (i + 2)) && hex_digit (byte_at s (i + 3))))

-- unescaped: a byte that stands for itself in a string
unfoldable pub unescaped : ℕ → Bool
unescaped c = leb 32 c && (not (eqb c quote) && not (eqb c backslash))

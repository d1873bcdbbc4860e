-- The bytes that RFC 8259 names, and the kinds of bytes that its productions are made of.
-- Past the end of a text `byte_at` gives 0, a byte that no production takes, so no rule below asks where the text ends.
-- Assumes nothing: these are definitions.
use Rattle.std.specs.Prelude.{ℕ, Bool, ◌||◌, ◌&&◌, leb, eqb}
unfoldable pub use Rattle.text.specs.Text.{byte_at, is_digit as digit}

abbrev pub quote : ℕ
quote = 34

abbrev pub backslash : ℕ
backslash = 92

abbrev pub comma : ℕ
comma = 44

abbrev pub open_array : ℕ
open_array = 91

abbrev pub close_array : ℕ
close_array = 93

abbrev pub open_object : ℕ
open_object = 123

abbrev pub close_object : ℕ
close_object = 125

-- ws: space, horizontal tab, line feed, carriage return
unfoldable pub blank : ℕ → Bool
blank c = eqb c 32 || eqb c 9 || eqb c 10 || eqb c 13

-- DIGIT is `is_digit`; HEXDIG: 0 to 9, A to F, a to f
unfoldable pub hex_digit : ℕ → Bool
hex_digit c = digit c || (leb 65 c && leb c 70) || (leb 97 c && leb c 102)

-- what stands after the backslash of a two-character escape: " \ / b f n r t
unfoldable pub escaped : ℕ → Bool
escaped c = eqb c quote || eqb c backslash || eqb c 47 || eqb c 98 || eqb c 102 || eqb c 110 || eqb c 114 || eqb c 116

-- Eight bytes of a string at once, and one character of it. The code alone leans on these: what a string is says `Tokens`.
-- Assumes nothing: these are definitions.
use Rattle.std.specs.Prelude.{◌≡◌, ℕ, ◌+◌, ◌≤◌, ◌<◌, List, length, None, Option, Some}
use Rattle.std.specs.Int.Bits.{bit_and, bit_or, bit_xor}
use Rattle.text.specs.Text.{byte_at}
use Rattle.json_tokens.specs.Bytes.{quote}
use Rattle.json_tokens.specs.Tokens.{string_rest}

-- Eight times the same byte: 127, 128, 96, a quote, a backslash.
abbrev pub low : ℕ
low = 9187201950435737471

abbrev pub high : ℕ
high = 9259542123273814144

abbrev pub gap : ℕ
gap = 6944656592455360608

abbrev pub quotes : ℕ
quotes = 2459565876494606882

abbrev pub backslashes : ℕ
backslashes = 6655295901103053916

-- A mark, the high bit, for each byte that does not stand for itself. A byte does where it is 128 or more, or where its low seven bits are at
-- least 32 and neither a quote nor a backslash: 96 more reaches 128 from 32 on, and 127 more reaches it from 1 on.
unfoldable pub special_bytes : ℕ → ℕ
special_bytes x =
    bit_xor
    (bit_and
    (bit_or
    (bit_and
    (bit_and (bit_and x low + gap) (bit_xor (bit_and x low) quotes + low))
    (bit_xor (bit_and x low) backslashes + low))
    x)
    high)
    high

-- r is where the character of a string at i ends, which is no quote, and none if none stands there.
abbrev pub CharEnd : List ℕ → ℕ → Option ℕ → Type 0
CharEnd s i (Some e) = (i < e) × (e ≤ length s) × (string_rest s i ≡ string_rest s e)
CharEnd s i None = (byte_at s i ≡ quote → ⊥) → string_rest s i ≡ None

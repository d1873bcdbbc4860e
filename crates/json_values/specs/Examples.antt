-- Worked examples: what the definitions say of some texts, by computing. The other texts are run by the crate `json_vectors`.
-- Assumes nothing.
use Rattle.std.specs.Prelude.{◌≡◌, refl, List, [], ◌∷◌, Bool, true, false, ℕ}
use Rattle.text.specs.Text.{byte_at, is_digit}
use Rattle.json_tokens.specs.Bytes.{blank, hex_digit, escaped}
use Rattle.json_tokens.specs.Tokens.{and_then, skip_while, blanks, digits, some_digits, closing, separator, chars, escape, hexes, string_rest, string, minus, sign, int, fraction, exponent, json_number, starts_with, literal, scalar, ended}
use Rattle.json_values.specs.Json.{items, next, prepended, onward, list, list_of, items_end, element, member, elements, members, value, text}

-- what `text` says of each, in order
abbrev texts : List (List ℕ)
texts =
    -- [1, {"a":"\u00e9\n"}]
    (91 ∷ 49 ∷ 44 ∷ 32 ∷ 123 ∷ 34 ∷ 97 ∷ 34 ∷ 58 ∷ 34 ∷ 92 ∷ 117 ∷ 48 ∷ 48 ∷ 101 ∷ 57 ∷ 92 ∷ 110 ∷ 34 ∷ 125 ∷ 93 ∷ []) ∷
    -- -0.5e+10
    (45 ∷ 48 ∷ 46 ∷ 53 ∷ 101 ∷ 43 ∷ 49 ∷ 48 ∷ []) ∷
    -- ""
    (34 ∷ 34 ∷ []) ∷
    --  null(line feed)
    (32 ∷ 110 ∷ 117 ∷ 108 ∷ 108 ∷ 10 ∷ []) ∷
    -- [[[[[[[[[[[[[[[[]]]]]]]]]]]]]]]]
    (91 ∷ 91 ∷ 91 ∷ 91 ∷ 91 ∷ 91 ∷ 91 ∷ 91 ∷ 91 ∷ 91 ∷ 91 ∷ 91 ∷ 91 ∷ 91 ∷ 91 ∷ 91 ∷ 93 ∷ 93 ∷ 93 ∷ 93 ∷ 93 ∷ 93 ∷ 93 ∷ 93 ∷ 93 ∷ 93 ∷ 93 ∷ 93 ∷ 93 ∷ 93 ∷ 93 ∷ 93 ∷ []) ∷
    -- [[[[[[[[[[[[[[[[[]]]]]]]]]]]]]]]]]
    (91 ∷ 91 ∷ 91 ∷ 91 ∷ 91 ∷ 91 ∷ 91 ∷ 91 ∷ 91 ∷ 91 ∷ 91 ∷ 91 ∷ 91 ∷ 91 ∷ 91 ∷ 91 ∷ 91 ∷ 93 ∷ 93 ∷ 93 ∷ 93 ∷ 93 ∷ 93 ∷ 93 ∷ 93 ∷ 93 ∷ 93 ∷ 93 ∷ 93 ∷ 93 ∷ 93 ∷ 93 ∷ 93 ∷ 93 ∷ []) ∷
    -- [1,]
    (91 ∷ 49 ∷ 44 ∷ 93 ∷ []) ∷
    -- {"a"}
    (123 ∷ 34 ∷ 97 ∷ 34 ∷ 125 ∷ []) ∷
    -- 01
    (48 ∷ 49 ∷ []) ∷
    -- "\x"
    (34 ∷ 92 ∷ 120 ∷ 34 ∷ []) ∷
    -- "(byte 31)"
    (34 ∷ 31 ∷ 34 ∷ []) ∷
    -- (the empty text)
    ([]) ∷
    []

abbrev answers : List Bool
answers = true ∷ true ∷ true ∷ true ∷ true ∷ false ∷ false ∷ false ∷ false ∷ false ∷ false ∷ false ∷ []

abbrev each : List (List ℕ) → List Bool
each [] = []
each (s ∷ l) = text s ∷ each l

all_texts : each texts ≡ answers
unfolding byte_at blank is_digit hex_digit escaped and_then skip_while blanks digits some_digits closing separator chars escape hexes string_rest string minus sign int fraction exponent json_number starts_with literal scalar ended next prepended onward list list_of items_end element member elements members value text
all_texts = refl

-- {"a":1, "as" : [2]}
abbrev object : List ℕ
object = 123 ∷ 34 ∷ 97 ∷ 34 ∷ 58 ∷ 49 ∷ 44 ∷ 32 ∷ 34 ∷ 97 ∷ 115 ∷ 34 ∷ 32 ∷ 58 ∷ 32 ∷ 91 ∷ 50 ∷ 93 ∷ 125 ∷ []

object_members : members (value 15 object) object 1 ≡
    items (record { name = record { from = 1; to = 4 }; value = record { from = 5; to = 6 } } ∷ record { name = record { from = 8; to = 12 }; value = record { from = 15; to = 18 } } ∷ []) 19
unfolding byte_at blank is_digit hex_digit escaped and_then skip_while blanks digits some_digits closing separator chars escape hexes string_rest string minus sign int fraction exponent json_number starts_with literal scalar ended next prepended onward list list_of items_end element member elements members value
object_members = refl

-- The text of a book as a snapshot without blanks, as document 01 has it under "Questions and the writer". Levels stand best first.
-- Assumes nothing: these are definitions.
use Rattle.std.specs.Prelude.{ℕ, List, [], ◌∷◌, ◌++◌, map}
use Rattle.text.specs.Text.{ascii}
use Rattle.decimal.specs.Digits.{written}
use Rattle.decimal.specs.Decimal.{text}
use Rattle.edit.specs.Edit.{PriceLevel}

-- ---- JSON without blanks

unfoldable pub quoted : List ℕ → List ℕ
quoted t = ascii "\"" ++ (t ++ ascii "\"")

unfoldable pub comma_joined : List (List ℕ) → List ℕ
comma_joined [] = []
comma_joined (t ∷ []) = t
comma_joined (t ∷ (u ∷ ts)) = t ++ (ascii "," ++ comma_joined (u ∷ ts))

unfoldable pub array : List (List ℕ) → List ℕ
array ts = ascii "[" ++ (comma_joined ts ++ ascii "]")

-- ---- K, with channel 0 and timestamp `0.000000`

unfoldable pub k_entry : PriceLevel → List ℕ
k_entry l = array (quoted (text l.price) ∷ (quoted (text l.size) ∷ (quoted (ascii "0.000000") ∷ [])))

unfoldable pub k_snapshot : ℕ → List ℕ → List PriceLevel → List PriceLevel → List ℕ
k_snapshot depth name bids asks =
    ascii "[0,{\"as\":" ++ (array (map k_entry asks)
    ++ (ascii ",\"bs\":" ++ (array (map k_entry bids)
    ++ (ascii "}," ++ (quoted (ascii "book-" ++ written depth)
    ++ (ascii "," ++ (quoted name ++ ascii "]")))))))

-- ---- M

unfoldable pub m_entry : PriceLevel → List ℕ
m_entry l = array (quoted (text l.price) ∷ (quoted (text l.size) ∷ []))

unfoldable pub m_snapshot : List ℕ → List PriceLevel → List PriceLevel → ℕ → ℕ → List ℕ
m_snapshot name bids asks checksum number =
    ascii "{\"channel\":\"book\",\"product\":" ++ (quoted name
    ++ (ascii ",\"type\":\"snapshot\",\"data\":{\"bids\":" ++ (array (map m_entry bids)
    ++ (ascii ",\"asks\":" ++ (array (map m_entry asks)
    ++ (ascii "},\"checksum\":" ++ (written checksum
    ++ (ascii ",\"gsn\":" ++ (written number ++ ascii "}")))))))))

-- Document 01's cases under "Checked by hand" that are to be proved, with document 02's of twelve decimals, as one table under one statement. Assumes nothing.
use Rattle.std.specs.Prelude.{ℕ, ◌≡◌, refl, List, [], ◌∷◌, None, Some}
use Prim.Native.String.{String}
use Rattle.text.specs.Text.{ascii, is_digit, joined}
use Rattle.decimal.specs.Digits.{leading, value_from, fixed, significant_in, significant, written}
use Rattle.decimal.specs.Decimal.{Number, is_whole, fractional, pointed, prefix, read, text, after_point, without_point, without_zeros, stripped, value}
use Rattle.decimal.specs.Limits.{order_of, order}
use Rattle.std.specs.declared.cmp.Ordering.TheVariants.{Equal}
use Rattle.crc32_spec.specs.Crc.{bit, bits, step, run, crc}
use Rattle.edit.specs.Edit.{PriceLevel}
use Rattle.level.specs.Ranked.{All}
use Rattle.checksum.specs.Text.{k_level, k_checksum_text, interleaved, colon_joined, m_level, m_checksum_text}

-- A decimal and a level from their texts.
unfoldable pub decimal : String → Number
decimal s = elim (read (ascii s)) [ Some n ↦ n | None ↦ record { digits = 0; decimals = 0 } ]

unfoldable pub level : String → String → PriceLevel
level price size = record { price = decimal price; size = decimal size }

pub data Case : Type 0 where
  -- the text is these digits with so many decimals
  is : String → ℕ → ℕ → Case
  passes : String → Case
  refuses : String → Case
  one_price : String → String → Case
  -- the K text of one ask, the M text of bids and asks, the CRC of a text
  k_text : PriceLevel → String → Case
  m_text : List PriceLevel → List PriceLevel → String → Case
  sums_to : String → ℕ → Case

abbrev pub Holds : Case → Type 0
Holds (is s digits decimals) = read (ascii s) ≡ Some (record { digits = digits; decimals = decimals })
Holds (passes s) = read (ascii s) ≡ Some (decimal s)
Holds (refuses s) = read (ascii s) ≡ None
Holds (one_price s t) = (read (ascii s) ≡ Some (decimal s)) × (read (ascii t) ≡ Some (decimal t)) × (order (decimal s) (decimal t) ≡ Equal)
Holds (k_text ask s) = k_checksum_text 10 [] (ask ∷ []) ≡ ascii s
Holds (m_text bids asks s) = m_checksum_text 100 bids asks ≡ ascii s
Holds (sums_to s n) = crc (ascii s) ≡ n

unfoldable pub table : List Case
table =
    is "0.05120" 5120 5
    ∷ refuses "05"
    ∷ refuses "5."
    ∷ refuses ".5"
    ∷ passes "9999999999"
    ∷ refuses "10000000000"
    ∷ passes "0.000000000001"
    ∷ refuses "0.0000000000001"
    ∷ passes "9999999999.999999999999"
    ∷ one_price "0.5" "0.50"
    ∷ k_text (level "0.05000" "0.00000304") "5000304"
    ∷ m_text (level "9" "2" ∷ level "8" "3" ∷ []) (level "10" "1" ∷ []) "9:2:10:1:8:3"
    ∷ sums_to "9:2:10:1" 1226559413
    ∷ sums_to "" 0
    ∷ []

pub checked_by_hand : All Holds table
unfolding table All decimal level read prefix is_whole pointed fractional leading is_digit value_from text after_point fixed written significant significant_in
    without_point without_zeros stripped value order_of order joined k_level k_checksum_text interleaved colon_joined m_level m_checksum_text bit bits step run crc
checked_by_hand = (refl, (refl, (refl, (refl, (refl, (refl, (refl, (refl, (refl, ((refl, refl, refl), (refl, (refl, (refl, (refl, tt))))))))))))))

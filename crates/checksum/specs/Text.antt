-- The checksum text of a book, as document 01 has it under "Checksum text", over the two sides best first and the number of levels a side that
-- are summed. Assumes nothing: these are definitions.
use Rattle.std.specs.Prelude.{ℕ, zero, suc, List, [], ◌∷◌, ◌++◌, map, take, drop}
use Rattle.text.specs.Text.{colon, joined}
use Rattle.decimal.specs.Decimal.{text, stripped}
use Rattle.edit.specs.Edit.{PriceLevel}

-- ---- K: the best asks, low to high, then the best bids, high to low, or as many as there are. No separators.

-- Price then size, each with the point removed, then leading zeros.
unfoldable pub k_level : PriceLevel → List ℕ
k_level level = stripped level.price ++ stripped level.size

unfoldable pub k_checksum_text : ℕ → List PriceLevel → List PriceLevel → List ℕ
k_checksum_text n bids asks = joined (map k_level (take n asks ++ take n bids))

-- ---- M: first bid, first ask, second bid, second ask and on; a missing level is skipped. Joined by colons with none at the end.

unfoldable pub m_level : PriceLevel → List ℕ
m_level level = text level.price ++ (colon ∷ text level.size)

-- The first n of two lists in turn, as long as each has any.
unfoldable pub interleaved : {A : Type 0} → ℕ → List A → List A → List A
interleaved zero xs ys = []
interleaved (suc n) xs ys = take 1 xs ++ (take 1 ys ++ interleaved n (drop 1 xs) (drop 1 ys))

unfoldable pub colon_joined : List (List ℕ) → List ℕ
colon_joined [] = []
colon_joined (t ∷ []) = t
colon_joined (t ∷ (u ∷ ts)) = t ++ (colon ∷ colon_joined (u ∷ ts))

unfoldable pub m_checksum_text : ℕ → List PriceLevel → List PriceLevel → List ℕ
m_checksum_text n bids asks = colon_joined (map m_level (interleaved n bids asks))

-- A level of the code, the words that it is kept in (the digits of the price and of the size up to the ninth decimal, and the rest), and an entry of the code. What is
-- above this crate knows a level by its price, size, sum and length alone. Assumes nothing: these are definitions.
use Rattle.std.specs.Prelude.{ℕ, ◌+◌, ◌*◌, ◌/◌, ◌%◌, ◌^◌, ◌≡◌, cond, List, drop}
use Rattle.decimal.specs.Decimal.{Number, number, number_of, is_zero}
use Rattle.decimal.specs.Words.{digits_near, code_of}
use Rattle.edit.specs.Buffer.{by_threes}
use Rattle.level.specs.declared.Level.{Level}
use Rattle.level.specs.declared.Parts.{Parts}
use Rattle.level.specs.declared.Change.{Change}
use Rattle.level.specs.declared.Change.TheVariants.{Set, Remove}
use Rattle.level.specs.declared.Entry.{Entry}
use Rattle.edit.specs.Edit.{PriceLevel, Edit, sets, removes, Numbers}

-- ---- the third word: the sum and the length of the level's piece of checksum text, the code of the price, the code of the size

-- The longest piece of checksum text that a level carries the length of.
abbrev pub max_length : ℕ
max_length = 255

unfoldable pub packed : ℕ → ℕ → ℕ → ℕ → ℕ
packed sum length price size = sum + 2 ^ 32 * (length + 2 ^ 8 * (price + 2 ^ 12 * size))

unfoldable pub price_code : ℕ → ℕ
price_code rest = rest / 2 ^ 40 % 2 ^ 12

unfoldable pub size_code : ℕ → ℕ
size_code rest = rest / 2 ^ 52

-- ---- the price and the size that a level of the code has, and the sum and the length of its piece

unfoldable pub level_price : Level → Number
level_price level = number_of level.price (price_code level.rest)

unfoldable pub level_size : Level → Number
level_size level = number_of level.size (size_code level.rest)

unfoldable pub level_sum : Level → ℕ
level_sum level = level.rest % 2 ^ 32

unfoldable pub level_length : Level → ℕ
level_length level = level.rest / 2 ^ 32 % 2 ^ 8

-- The level of a price and a size, and of the sum and the length of its piece.
unfoldable pub level_made : Number → Number → ℕ → ℕ → Level
level_made price size sum length =
    record { price = digits_near price; size = digits_near size; rest = packed sum length (code_of price) (code_of size) }

-- The level without a sum.
abbrev pub level_plain : Number → Number → Level
level_plain price size = level_made price size 0 0

-- What a level of the code shows. Its sum and length are those of its piece of checksum text, and are not shown.
unfoldable pub shown : Level → PriceLevel
shown level = record { price = level_price level; size = level_size level }

-- The level that three words hold.
abbrev pub level_of : ℕ → ℕ → ℕ → Level
level_of price size rest = record { price = price; size = size; rest = rest }

-- The words of a level.
abbrev pub parts_of : Level → Parts
parts_of level = record { price = level.price; size = level.size; rest = level.rest }

-- How many words a level takes.
abbrev pub level_words : ℕ
level_words = 3

-- The levels that a list of words holds.
unfoldable pub levels_in : List ℕ → List Level
levels_in words = by_threes level_of words

-- The words past the first n levels.
unfoldable pub words_past : ℕ → List ℕ → List ℕ
words_past n words = drop (level_words * n) words

-- What stands past the last level of a list, where a definition has to say something.
abbrev pub no_level : Level
no_level = record { price = 0; size = 0; rest = 0 }

-- What a change of the code says of its side.
unfoldable pub edit : Change → Edit Level
edit (Set level) = sets level
edit (Remove price) = removes (number price)

-- What the numbers of an entry do to a side of levels that `level` makes of a price and a size: a size of zero removes the price, any other sets a level.
unfoldable pub change_of : {A : Type 0} → (Number → Number → A) → Numbers → Edit A
change_of level e = cond (is_zero e.size) (removes e.price) (sets (level e.price e.size))

-- The code's entry of a side, a price and a size: its level has no sum yet.
pub record EntryOf (e : Numbers) (entry : Entry) : Type 0 where
  pub for_side : entry.side ≡ e.side
  pub says : edit entry.change ≡ change_of level_plain e

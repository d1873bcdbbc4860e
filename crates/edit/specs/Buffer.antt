-- Entries in a buffer, a word each for the digits of the price and of the size up to the ninth decimal, and one for the rest. Assumes nothing: these are definitions.
use Rattle.std.specs.Prelude.{ℕ, zero, suc, ◌*◌, ◌/◌, ◌%◌, ◌^◌, ◌≡◌, List, [], ◌∷◌, length, set}
use Rattle.decimal.specs.Decimal.{number, number_of}
use Rattle.edit.specs.Edit.{Numbers}
use Rattle.edit.specs.declared.Side.{Side}
use Rattle.edit.specs.declared.Side.TheVariants.{Bids, Asks}
use Rattle.edit.specs.declared.Buffered.{Buffered}

-- What is made of the words of a list, three at a time.
unfoldable pub by_threes : {A : Type 0} → (ℕ → ℕ → ℕ → A) → List ℕ → List A
by_threes f (a ∷ b ∷ c ∷ words) = f a b c ∷ by_threes f words
by_threes f [] = []
by_threes f (a ∷ []) = []
by_threes f (a ∷ b ∷ []) = []

-- How many entries a buffer holds, and in how many words.
abbrev pub max_buffered : ℕ
max_buffered = 200

abbrev pub buffer_words : ℕ
buffer_words = 3 * max_buffered

abbrev pub numbers_of : Buffered → Numbers
numbers_of e = record { side = e.side; price = number e.price; size = number e.size }

unfoldable pub side_number : Side → ℕ
side_number Bids = 0
side_number Asks = 1

unfoldable pub side_in : ℕ → Side
side_in zero = Bids
side_in (suc n) = Asks

-- The entry that three words hold.
unfoldable pub entry_of : ℕ → ℕ → ℕ → Numbers
entry_of price size rest = record {
  side = side_in (rest / 2 ^ 32);
  price = number_of price (rest % 2 ^ 16);
  size = number_of size (rest / 2 ^ 16 % 2 ^ 16);
}

-- The entries that a buffer holds.
unfoldable pub entries_in : List ℕ → List Numbers
entries_in words = by_threes entry_of words

-- What stands past the last entry, where a definition has to say something.
abbrev pub no_numbers : Numbers
no_numbers = record { side = Bids; price = record { digits = 0; decimals = 0 }; size = record { digits = 0; decimals = 0 } }

-- An entry put at a place of the buffer; none is put past its end.
pub record Put (before : List ℕ) (k : ℕ) (entry : Numbers) (after : List ℕ) : Type 0 where
  pub room : length after ≡ buffer_words
  pub entries : entries_in after ≡ set (entries_in before) k entry

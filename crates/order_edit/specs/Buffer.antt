-- Entries of single orders in a buffer, six words each: the digits of the price and of the size up to the ninth decimal, one word for the rest, and the id. Assumes
-- nothing: these are definitions.
use Rattle.std.specs.Prelude.{ℕ, zero, suc, ◌*◌, ◌/◌, ◌%◌, ◌^◌, ◌≡◌, List, [], ◌∷◌, length, set}
use Rattle.decimal.specs.Decimal.{Number, number, number_of}
use Rattle.decimal.specs.Limits.{no_number}
use Rattle.edit.specs.Buffer.{side_in}
use Rattle.edit.specs.declared.Side.{Side}
use Rattle.edit.specs.declared.Side.TheVariants.{Bids}
use Rattle.order_edit.specs.declared.Id.{Id}
use Rattle.order_edit.specs.declared.Event.{Event}
use Rattle.order_edit.specs.declared.Event.TheVariants.{Add, Modify, Delete}
use Rattle.order_edit.specs.declared.Buffered.{Buffered}

-- What an entry says: the side, the event, and the id, the price and the size of an order.
pub record OrderEntry : Type 0 where
  pub side : Side
  pub event : Event
  pub id : Id
  pub price : Number
  pub size : Number

abbrev pub entry_side : OrderEntry → Side
entry_side e = e.side

abbrev pub order_entry : Buffered → OrderEntry
order_entry e = record { side = e.side; event = e.event; id = e.id; price = number e.price; size = number e.size }

-- What is made of the words of a list, six at a time.
unfoldable pub by_sixes : {A : Type 0} → (ℕ → ℕ → ℕ → ℕ → ℕ → ℕ → A) → List ℕ → List A
by_sixes f (a ∷ b ∷ c ∷ d ∷ e ∷ g ∷ words) = f a b c d e g ∷ by_sixes f words
by_sixes f [] = []
by_sixes f (a ∷ []) = []
by_sixes f (a ∷ b ∷ []) = []
by_sixes f (a ∷ b ∷ c ∷ []) = []
by_sixes f (a ∷ b ∷ c ∷ d ∷ []) = []
by_sixes f (a ∷ b ∷ c ∷ d ∷ e ∷ []) = []

-- How many entries a buffer holds, and in how many words.
abbrev pub max_buffered : ℕ
max_buffered = 256

abbrev pub buffer_words : ℕ
buffer_words = 6 * max_buffered

unfoldable pub event_number : Event → ℕ
event_number Add = 0
event_number Modify = 1
event_number Delete = 2

unfoldable pub event_in : ℕ → Event
event_in zero = Add
event_in (suc zero) = Modify
event_in (suc (suc n)) = Delete

-- The id that three words are.
abbrev pub three_words : ℕ → ℕ → ℕ → Id
three_words first second third = record { first = first; second = second; third = third }

-- The entry that six words hold: the rest has the price's code in bits 0 to 15, the size's in bits 16 to 31, the side in bit 32 and the event above it.
unfoldable pub entry_of : ℕ → ℕ → ℕ → ℕ → ℕ → ℕ → OrderEntry
entry_of price size rest first second third = record {
  side = side_in (rest / 2 ^ 32 % 2);
  event = event_in (rest / 2 ^ 32 / 2);
  id = three_words first second third;
  price = number_of price (rest % 2 ^ 16);
  size = number_of size (rest / 2 ^ 16 % 2 ^ 16);
}

-- The entries that a buffer holds.
unfoldable pub entries_in : List ℕ → List OrderEntry
entries_in words = by_sixes entry_of words

-- What stands past the last entry, where a definition has to say something.
abbrev pub no_entry : OrderEntry
no_entry = record { side = Bids; event = Add; id = three_words 0 0 0; price = no_number; size = no_number }

-- An entry put at a place of the buffer; none is put past its end.
pub record Put (before : List ℕ) (k : ℕ) (entry : OrderEntry) (after : List ℕ) : Type 0 where
  pub room : length after ≡ buffer_words
  pub entries : entries_in after ≡ set (entries_in before) k entry

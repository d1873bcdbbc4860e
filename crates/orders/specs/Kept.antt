-- What the functions of the code promise. Assumes nothing: these are definitions.
use Rattle.std.specs.Prelude.{ℕ, suc, ◌+◌, ◌-◌, ◌*◌, ◌≤◌, ◌<◌, ◌≡◌, Bool, true, false, ◌&&◌, cond, List, ◌∷◌, ◌++◌, eqb, leb, length, get_or, take, drop, set, Option, Some, None, Result, Ok, Err}
use Rattle.edit.specs.Edit.{for_side}
use Rattle.edit.specs.declared.Side.{Side}
use Rattle.edit.specs.declared.Side.TheVariants.{Bids, Asks}
use Rattle.level.specs.Side.{nearer}
use Rattle.level.specs.Ranked.{All}
use Rattle.order_edit.specs.Ids.{same_id}
use Rattle.order_edit.specs.Buffer.{OrderEntry, entry_side, entries_in, max_buffered, buffer_words}
use Rattle.orders.specs.declared.Order.{Order}
use Rattle.orders.specs.declared.Counts.{Counts}
use Rattle.orders.specs.declared.Refusal.{Refusal}
use Rattle.orders.specs.declared.Refusal.TheVariants.{Clashed, TooMany}
use Rattle.orders.specs.Orders.{Outcome, taken, clash, Sides, both, clashed, priced, stands_at, apply_all, best_prices, summed, BestFirst}
use Rattle.orders.specs.Words.{coded, order_id, orders_in, held, words_past, no_order, Sound, EntrySound, changes_for}

-- A side in words: there are as many words, and the orders stand best first and carry their sums.
pub record Good (side : Side) (words : List ℕ) (n : ℕ) : Type 0 where
  pub room : 6 * n ≤ length words
  pub sorted : BestFirst coded side (held words n)
  pub sound : All Sound (held words n)

-- An order put at a place of the words.
pub record PutAt (words : List ℕ) (i : ℕ) (x : Order) (after : List ℕ) : Type 0 where
  pub room : length after ≡ length words
  pub orders : orders_in after ≡ set (orders_in words) i x
  pub past : drop (6 * i + 6) after ≡ drop (6 * i + 6) words

-- The first order with an id.
pub record FirstWith (s : List Order) (id : List ℕ) (at : ℕ) : Type 0 where
  pub within : at < length s
  pub ahead : All (λ x. same_id (order_id x) id ≡ false) (take at s)
  pub here : same_id (order_id (get_or s at no_order)) id ≡ true

-- Where the order with an id stands, if one does.
unfoldable pub FoundId : List Order → List ℕ → Option ℕ → Type 0
FoundId s id (Some at) = FirstWith s id at
FoundId s id None = All (λ x. same_id (order_id x) id ≡ false) s

-- Where the order with an id stands, if that is at this price by value.
unfoldable pub StandsAt : List Order → List ℕ → ℕ → Option ℕ → Type 0
StandsAt s id p (Some at) = FirstWith s id at × (eqb (priced coded (get_or s at no_order)) p ≡ true)
StandsAt s id p None = stands_at coded id p s ≡ false

-- Where an order of this price goes: behind all that it does not stand nearer the top than.
pub record PlaceFor (side : Side) (s : List Order) (p at : ℕ) : Type 0 where
  pub within : at ≤ length s
  pub ahead : All (λ x. nearer side p (priced coded x) ≡ false) (take at s)
  pub behind : All (λ x. nearer side p (priced coded x) ≡ true) (drop at s)

-- An order put in between, and one taken out.
pub record InsertedAt (words : List ℕ) (n at : ℕ) (x : Order) (after : List ℕ) : Type 0 where
  pub room : length after ≡ length words
  pub orders : held after (n + 1) ≡ take at (held words n) ++ x ∷ drop at (held words n)

pub record RemovedAt (words : List ℕ) (n at : ℕ) (after : List ℕ) : Type 0 where
  pub room : length after ≡ length words
  pub orders : held after (n - 1) ≡ take at (held words n) ++ drop (suc at) (held words n)

-- The first n orders copied: the words past them are as they were.
pub record Copied (source words : List ℕ) (n : ℕ) (after : List ℕ) : Type 0 where
  pub room : length after ≡ length words
  pub orders : held after n ≡ held source n
  pub past : words_past n after ≡ words_past n words

-- ---- entries on one side

-- What an answer says of the side that is left in the words.
unfoldable pub outcome : List ℕ → Option ℕ → Outcome Order
outcome words (Some n) = taken (held words n)
outcome words None = clash

-- How many orders an answer speaks of.
unfoldable pub count_of : Option ℕ → ℕ
count_of (Some n) = n
count_of None = 0

-- A side of n orders after one entry, which clashes or leaves these orders.
pub record AfterOne (clashed : Bool) (s : List Order) (words : List ℕ) (n : ℕ) (after : List ℕ) (applied : Option ℕ) : Type 0 where
  pub room : length after ≡ length words
  pub outcome : outcome after applied ≡ cond clashed clash (taken s)
  pub few : count_of applied ≤ n + 1

-- What the first `count` entries of a buffer must be, beside a side of n orders and another of m: there is room for each of its own to add one.
pub record Given (side : Side) (words : List ℕ) (n : ℕ) (other : List ℕ) (m : ℕ) (buffer : List ℕ) (count : ℕ) : Type 0 where
  pub room : 6 * (n + length (for_side entry_side side (take count (entries_in buffer)))) ≤ length words
  pub other_room : 6 * m ≤ length other
  pub wide : length buffer ≡ buffer_words
  pub few : count ≤ max_buffered
  pub sound : All EntrySound (take count (entries_in buffer))

-- A side with a message's entries applied, uncut. The words are working words: after a clash nothing is said of the orders in them.
pub record AfterEntries (listed : Bool) (side : Side) (other : List Order) (es : List OrderEntry) (words : List ℕ) (n : ℕ) (after : List ℕ) (applied : Option ℕ) : Type 0 where
  pub room : length after ≡ length words
  pub outcome : outcome after applied ≡ apply_all coded side other (changes_for listed side es) (held words n)
  pub good : Good side after (count_of applied)

-- The cut: how many orders are left, best first.
pub record CutTo (depth : ℕ) (s : List Order) (left : ℕ) : Type 0 where
  pub within : left ≤ length s
  pub orders : take left s ≡ best_prices coded depth s

-- How many orders the checksum text runs over.
pub record SummedTo (s : List Order) (count : ℕ) : Type 0 where
  pub within : count ≤ length s
  pub orders : take count s ≡ summed coded s

-- ---- both sides

-- How many orders a side keeps, and in how many words; how many entries a message has for one side.
abbrev pub max_orders : ℕ
max_orders = 128

abbrev pub max_words : ℕ
max_words = 6 * max_orders

-- A side that is kept.
pub record Kept (side : Side) (words : List ℕ) (n : ℕ) : Type 0 where
  pub few : n ≤ max_orders
  pub wide : length words ≡ max_words
  pub good : Good side words n

-- The first `count` entries of a buffer, as a message's: those for each side are no more than are allowed.
pub record Sent (buffer : List ℕ) (count : ℕ) : Type 0 where
  pub wide : length buffer ≡ buffer_words
  pub few : count ≤ max_buffered
  pub sound : All EntrySound (take count (entries_in buffer))
  pub bids : length (for_side entry_side Bids (take count (entries_in buffer))) ≤ max_orders
  pub asks : length (for_side entry_side Asks (take count (entries_in buffer))) ≤ max_orders

-- The answer: how many orders are left on each side, if they fit (refusal 12).
unfoldable pub answer : Sides Order → Result Counts Refusal
answer clashed = Err Clashed
answer (both bids asks) = cond (leb (length bids) max_orders && leb (length asks) max_orders) (Ok (record { bids = length bids; asks = length asks })) (Err TooMany)

-- A side left in the words that were lent: the words past it are as they were.
pub record Left (side : Side) (s : List Order) (words : List ℕ) (n : ℕ) (after : List ℕ) : Type 0 where
  pub kept : Kept side after n
  pub orders : held after n ≡ s
  pub past : words_past n after ≡ words_past n words

-- What an answer says of the words that were lent: the sides are there, or nothing has changed.
unfoldable pub LeftBy : Result Counts Refusal → Sides Order → List ℕ → List ℕ → List ℕ → List ℕ → Type 0
LeftBy (Err refusal) sides bids asks bids' asks' = (bids' ≡ bids) × (asks' ≡ asks)
LeftBy (Ok counts) clashed bids asks bids' asks' = ⊥
LeftBy (Ok counts) (both x y) bids asks bids' asks' = Left Bids x bids counts.bids bids' × Left Asks y asks counts.asks asks'

pub record AfterMessage (sides : Sides Order) (bids asks bids' asks' : List ℕ) (updated : Result Counts Refusal) : Type 0 where
  pub answer : updated ≡ answer sides
  pub left : LeftBy updated sides bids asks bids' asks'

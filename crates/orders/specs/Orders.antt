-- A book of single orders, as request c has it: on each side best price first, and earliest first within a price. Lists alone: no array, no search and no place
-- of the code. Assumes nothing: these are definitions.
use Rattle.std.specs.Prelude.{ℕ, ◌≡◌, Bool, false, ◌||◌, not, cond, List, [], ◌∷◌, ◌++◌, map, eqb, take}
use Rattle.decimal.specs.Decimal.{Number}
use Rattle.edit.specs.declared.Side.{Side}
use Rattle.edit.specs.declared.Side.TheVariants.{Bids, Asks}
use Rattle.level.specs.Side.{nearer, value_at}
use Rattle.level.specs.Ranked.{All}
use Rattle.order_edit.specs.declared.Event.{Event}
use Rattle.order_edit.specs.declared.Event.TheVariants.{Add, Modify, Delete}
use Rattle.order_edit.specs.Ids.{same_id}

-- ---- an order

-- An order as the book shows it: the bytes of its id, and its price and its size with their texts.
pub record SingleOrder : Type 0 where
  pub id : List ℕ
  pub price : Number
  pub size : Number

-- What a definition has to know of an order, so that it reads orders as shown and orders as kept alike: `resized x y` is x with the size of y.
pub record View (A : Type 0) : Type 0 where
  pub id : A → List ℕ
  pub price : A → Number
  pub resized : A → A → A

-- A modified order keeps its id and the text of its price.
abbrev pub plain : View SingleOrder
plain = record {
  id = λ x. x.id;
  price = λ x. x.price;
  resized = λ x y. record { id = x.id; price = x.price; size = y.size };
}

-- An entry of an update for one side: each names an id and a price; the size of a deleted order is unused.
pub data Entry (A : Type 0) : Type 0 where
  adds : A → Entry A
  modifies : A → Entry A
  deletes : A → Entry A

unfoldable pub entry_of : {A : Type 0} → Event → A → Entry A
entry_of Add x = adds x
entry_of Modify x = modifies x
entry_of Delete x = deletes x

-- What entries do to a side: the side after them, or that one of them clashed (refusal 20).
pub data Outcome (A : Type 0) : Type 0 where
  taken : List A → Outcome A
  clash : Outcome A

-- Both sides after a message, or that an entry clashed.
pub data Sides (A : Type 0) : Type 0 where
  both : List A → List A → Sides A
  clashed : Sides A

-- ---- lists of prices and of ids

-- Is this price one of these?
unfoldable pub among : ℕ → List ℕ → Bool
among p [] = false
among p (q ∷ ps) = eqb p q || among p ps

-- These prices but this one.
unfoldable pub except : ℕ → List ℕ → List ℕ
except p [] = []
except p (q ∷ ps) = cond (eqb p q) (except p ps) (q ∷ except p ps)

-- These ids but this one.
unfoldable pub except_id : List ℕ → List (List ℕ) → List (List ℕ)
except_id id [] = []
except_id id (i ∷ ids) = cond (same_id i id) (except_id id ids) (i ∷ except_id id ids)

module _ {A : Type 0} (v : View A) where
  -- The price of an order, by value.
  abbrev pub priced : A → ℕ
  priced x = value_at v.price x

  -- ---- what stands on a side

  -- Does an order with this id stand on the side?
  unfoldable pub stands : List ℕ → List A → Bool
  stands id [] = false
  stands id (x ∷ s) = same_id (v.id x) id || stands id s

  -- Does the order with this id stand on the side, and at this price by value?
  unfoldable pub stands_at : List ℕ → ℕ → List A → Bool
  stands_at id p [] = false
  stands_at id p (x ∷ s) = cond (same_id (v.id x) id) (eqb (priced x) p) (stands_at id p s)

  -- ---- one entry

  -- `add` puts the order last at its price: behind every order that it does not stand nearer the top than.
  unfoldable pub place : Side → A → List A → List A
  place side x [] = x ∷ []
  place side x (y ∷ s) = cond (nearer side (priced x) (priced y)) (x ∷ y ∷ s) (y ∷ place side x s)

  -- `modify` changes the size of the order with its id, and leaves its place and the text of its price.
  unfoldable pub changed : A → List A → List A
  changed x [] = []
  changed x (y ∷ s) = cond (same_id (v.id y) (v.id x)) (v.resized y x ∷ s) (y ∷ changed x s)

  -- `delete` removes the order with its id.
  unfoldable pub without : List ℕ → List A → List A
  without id [] = []
  without id (y ∷ s) = cond (same_id (v.id y) id) s (y ∷ without id s)

  unfoldable pub apply : Side → Entry A → List A → List A
  apply side (adds x) s = place side x s
  apply side (modifies x) s = changed x s
  apply side (deletes x) s = without (v.id x) s

  -- Refusal 20: an added id stands already on either side, or a modified or deleted one does not stand on this side at that price.
  unfoldable pub clashes : List A → Entry A → List A → Bool
  clashes other (adds x) s = stands (v.id x) s || stands (v.id x) other
  clashes other (modifies x) s = not (stands_at (v.id x) (priced x) s)
  clashes other (deletes x) s = not (stands_at (v.id x) (priced x) s)

  -- ---- a whole message

  -- Entries in their written order, each tried as it applies, beside the other side as it then stands.
  unfoldable pub apply_all : Side → List A → List (Entry A) → List A → Outcome A
  apply_all side other [] s = taken s
  apply_all side other (e ∷ es) s = cond (clashes other e s) clash (apply_all side other es (apply side e s))

  -- The different prices of a side, best first.
  unfoldable pub prices : List A → List ℕ
  prices [] = []
  prices (x ∷ s) = priced x ∷ except (priced x) (prices s)

  -- The orders at these prices.
  unfoldable pub at_prices : List ℕ → List A → List A
  at_prices ps [] = []
  at_prices ps (x ∷ s) = cond (among (priced x) ps) (x ∷ at_prices ps s) (at_prices ps s)

  -- The cut, after the whole message: the best `depth` prices with all their orders.
  unfoldable pub best_prices : ℕ → List A → List A
  best_prices depth s = at_prices (take depth (prices s)) s

  -- The orders that the checksum text runs over: those at the ten best prices.
  unfoldable pub summed : List A → List A
  summed s = best_prices 10 s

  -- Bids apply before asks, and asks are tried beside the bids as those then stand.
  unfoldable pub beside : List A → Outcome A → Sides A
  beside bids (taken asks) = both bids asks
  beside bids clash = clashed

  unfoldable pub then_asks : List (Entry A) → List A → Outcome A → Sides A
  then_asks es asks (taken bids) = beside bids (apply_all Asks bids es asks)
  then_asks es asks clash = clashed

  unfoldable pub apply_both : List (Entry A) → List (Entry A) → List A → List A → Sides A
  apply_both bid_entries ask_entries bids asks = then_asks ask_entries asks (apply_all Bids asks bid_entries bids)

  unfoldable pub cut_both : ℕ → Sides A → Sides A
  cut_both depth (both bids asks) = both (best_prices depth bids) (best_prices depth asks)
  cut_both depth clashed = clashed

  -- An update: the entries of both sides, and then the cut.
  unfoldable pub after_update : ℕ → List (Entry A) → List (Entry A) → List A → List A → Sides A
  after_update depth bid_entries ask_entries bids asks = cut_both depth (apply_both bid_entries ask_entries bids asks)

  -- ---- a snapshot

  -- Refusal 9: an id that stands twice anywhere, on either side.
  unfoldable pub id_twice : List A → Bool
  id_twice [] = false
  id_twice (x ∷ s) = stands (v.id x) s || id_twice s

  unfoldable pub snapshot_repeats : List A → List A → Bool
  snapshot_repeats bids asks = id_twice (bids ++ asks)

  -- A side of a snapshot: its orders put in one after the other, so in written order within a price.
  unfoldable pub place_all : Side → List A → List A → List A
  place_all side [] s = s
  place_all side (x ∷ xs) s = place_all side xs (place side x s)

  -- A snapshot replaces both sides, unless an id stands twice.
  unfoldable pub after_snapshot : ℕ → List A → List A → Sides A
  after_snapshot depth bids asks =
      cond (snapshot_repeats bids asks) clashed (cut_both depth (both (place_all Bids bids []) (place_all Asks asks [])))

  -- ---- what holds of every side

  -- The ids that stand at a price, earliest first.
  unfoldable pub queue : ℕ → List A → List (List ℕ)
  queue p [] = []
  queue p (x ∷ s) = cond (eqb (priced x) p) (v.id x ∷ queue p s) (queue p s)

  -- Best price first: no order stands nearer the top than one ahead of it.
  unfoldable pub BestFirst : Side → List A → Type 0
  BestFirst side [] = Unit
  BestFirst side (x ∷ s) = All (λ y. nearer side (priced y) (priced x) ≡ false) s × BestFirst side s

  -- One id never stands for two orders, on one side or on both.
  unfoldable pub IdsOnce : List A → Type 0
  IdsOnce [] = Unit
  IdsOnce (x ∷ s) = (stands (v.id x) s ≡ false) × IdsOnce s

  abbrev pub Apart : List A → List A → Type 0
  Apart s other = All (λ x. stands (v.id x) other ≡ false) s

  pub record Once (bids asks : List A) : Type 0 where
    pub in_bids : IdsOnce bids
    pub in_asks : IdsOnce asks
    pub apart : Apart bids asks

  -- A message that is taken leaves it so: an update where it was so before, and any snapshot.
  pub record KeepsOnce (depth : ℕ) : Type 0 where
    pub update : (bid_entries ask_entries : List (Entry A)) (bids asks : List A) → Once bids asks
        → (bids' asks' : List A) → after_update depth bid_entries ask_entries bids asks ≡ both bids' asks' → Once bids' asks'
    pub snapshot : (bids asks bids' asks' : List A) → after_snapshot depth bids asks ≡ both bids' asks' → Once bids' asks'

  -- What each step does to the queue at a price: `modify` moves none, `add` goes last at its own price and touches no other, `delete` takes its own id out,
  -- and the cut keeps a price's orders whole or none.
  pub record QueueOrder (side : Side) (p : ℕ) : Type 0 where
    pub modified : (x : A) (s : List A) → queue p (changed x s) ≡ queue p s
    pub added : (x : A) (s : List A) → BestFirst side s → queue p (place side x s) ≡ cond (eqb (priced x) p) (queue p s ++ v.id x ∷ []) (queue p s)
    pub deleted : (id : List ℕ) (s : List A) → IdsOnce s → queue p (without id s) ≡ except_id id (queue p s)
    pub cut : (depth : ℕ) (s : List A) → queue p (best_prices depth s) ≡ cond (among p (take depth (prices s))) (queue p s) []

-- ---- orders seen in another way

unfoldable pub map_entry : {A B : Type 0} → (A → B) → Entry A → Entry B
map_entry f (adds x) = adds (f x)
map_entry f (modifies x) = modifies (f x)
map_entry f (deletes x) = deletes (f x)

unfoldable pub map_outcome : {A B : Type 0} → (A → B) → Outcome A → Outcome B
map_outcome f (taken s) = taken (map f s)
map_outcome f clash = clash

unfoldable pub map_sides : {A B : Type 0} → (A → B) → Sides A → Sides B
map_sides f (both bids asks) = both (map f bids) (map f asks)
map_sides f clashed = clashed

-- What holds of the order that an entry names.
unfoldable pub OfEntry : {A : Type 0} → (A → Type 0) → Entry A → Type 0
OfEntry P (adds x) = P x
OfEntry P (modifies x) = P x
OfEntry P (deletes x) = P x

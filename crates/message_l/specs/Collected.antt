-- What one walk over `data` collects of the one object in it, member by member. Assumes nothing: these are definitions.
use Rattle.std.specs.Prelude.{ℕ, ◌≤◌, ◌≡◌, false, ◌&&◌, ◌||◌, cond, List, map, eqb, length, take, None, Option, Some}
use Rattle.text.specs.Text.{ascii, byte_at}
use Rattle.edit.specs.declared.Side.TheVariants.{Bids, Asks}
use Rattle.json_tokens.specs.Bytes.{open_object}
use Rattle.json_tokens.specs.Ends.{end_of}
use Rattle.json_values.specs.Json.{Span, Pair, value}
use Rattle.json_values.specs.Names.{means}
use Rattle.json_values.specs.Fold.{fold_from}
use Rattle.entries.specs.Places.{and_then, and_also, array_at, object_at, only}
use Rattle.layout.specs.Depths.{item_depth}
use Rattle.layout.specs.MemberSpans.{few_more, no_member_span, with_member_span, on_member}
use Rattle.order_edit.specs.Buffer.{max_buffered, buffer_words, entries_in}
use Rattle.order_arrays.specs.Tally.{none_yet, met as count, tallied, orders_at}
use Rattle.order_arrays.specs.declared.OrderTally.{OrderTally}
use Rattle.message_l.specs.Orders.{object_depth, orders_depth, SidedOrder, member_orders, orders_in, entry_of, tally_of}
use Rattle.message_l.specs.declared.Sides.{Sides}
use Rattle.message_l.specs.declared.Listing.{Listing}
use Rattle.message_l.specs.declared.Data.{Data}

-- ---- the sides

unfoldable pub tally_with : List ℕ → OrderTally → Pair → OrderTally
tally_with s t m =
    cond (means s m.name (ascii "bids")) (tallied s Bids t (orders_at orders_depth s m.value))
    (cond (means s m.name (ascii "asks")) (tallied s Asks t (orders_at orders_depth s m.value)) t)

-- No side was met in a value that ends at `end`.
abbrev pub no_sides : ℕ → Sides
no_sides end = record { end = end; bids = 0; asks = 0; tally = none_yet }

unfoldable pub more_sides : List ℕ → Sides → Pair → Sides
more_sides s d m =
    record {
      end = m.value.to;
      bids = on_member s (ascii "bids") (λ n a. few_more n) d.bids m;
      asks = on_member s (ascii "asks") (λ n a. few_more n) d.asks m;
      tally = tally_with s d.tally m;
    }

-- t tells what was read of the orders so far, and the buffer has what they say, up to its end.
pub record Holds (s : List ℕ) (x : Option (List SidedOrder)) (t : OrderTally) (buffer : List ℕ) : Type 0 where
  pub all : (os : List SidedOrder) → x ≡ Some os → t ≡ tally_of s os
  pub none : x ≡ None → t.well_formed ≡ false
  pub front : (os : List SidedOrder) → x ≡ Some os → take (length os) (entries_in buffer) ≡ take max_buffered (map (entry_of s) os)

-- A reader of the member m promises that its value, if it is JSON, is told, and that the buffer has the orders that it holds.
pub record Added (s : List ℕ) (m : Pair) (t u : OrderTally) (before after : List ℕ) : Type 0 where
  pub few : (m.value.to ≡ 0 → ⊥) → count u ≤ m.value.to
  pub room : length after ≡ buffer_words
  pub kept : (m.value.to ≡ 0 → ⊥) → (x : Option (List SidedOrder)) → Holds s x t before → Holds s (and_also x (member_orders s m)) u after

pub record MoreSides (s : List ℕ) (d : Sides) (m : Pair) (before after : List ℕ) (r : Sides) : Type 0 where
  pub told : r ≡ more_sides s d m
  pub added : Added s m d.tally r.tally before after

-- ---- all members

abbrev pub no_listing : ℕ → Listing
no_listing end = record { sides = no_sides end; symbol = no_member_span; checksum = no_member_span; named = false }

-- An object that ends at `end`, with the members that were met in it.
abbrev pub listing_end : ℕ → Listing → Listing
listing_end end l =
    record {
      sides = record { end = end; bids = l.sides.bids; asks = l.sides.asks; tally = l.sides.tally };
      symbol = l.symbol;
      checksum = l.checksum;
      named = l.named;
    }

-- One member more of the object; name is the book's.
unfoldable pub more_listing : List ℕ → List ℕ → Listing → Pair → Listing
more_listing name s l m =
    record {
      sides = more_sides s l.sides m;
      symbol = on_member s (ascii "symbol") with_member_span l.symbol m;
      checksum = on_member s (ascii "checksum") with_member_span l.checksum m;
      named = l.named || (means s m.name (ascii "symbol") && means s m.value name);
    }

pub record MoreListing (name s : List ℕ) (l : Listing) (m : Pair) (before after : List ℕ) (r : Listing) : Type 0 where
  pub told : r ≡ more_listing name s l m
  pub added : Added s m l.sides.tally r.sides.tally before after

unfoldable pub listing_from : List ℕ → List ℕ → ℕ → Option (List Pair) → Listing
listing_from name s end (Some ms) = listing_end end (fold_from (more_listing name s) (no_listing 0) ms)
listing_from name s end None = no_listing end

-- The value at a position as the object in `data`.
unfoldable pub listing_at : List ℕ → List ℕ → ℕ → Listing
listing_at name s at =
    listing_from name s (end_of (value object_depth s at)) (object_at object_depth s (record { from = at; to = end_of (value object_depth s at) }))

-- What is told of the value, and that the buffer has the orders of it, if it is an object and its sides are arrays of orders.
pub record ObjectRead (name s : List ℕ) (at : ℕ) (after : List ℕ) (r : Listing) : Type 0 where
  pub told : r ≡ listing_at name s at
  pub room : length after ≡ buffer_words
  pub holds : (ms : List Pair) → object_at object_depth s (record { from = at; to = end_of (value object_depth s at) }) ≡ Some ms
      → Holds s (orders_in s ms) r.sides.tally after

-- ---- the value of a member `data`

-- The one element of the array that a value is.
unfoldable pub one_in : List ℕ → Span → Option Span
one_in s a = and_then (array_at item_depth s a) only

-- A value that ends at `end` and is no array of one.
abbrev pub not_one : ℕ → Data
not_one end = record { end = end; one = false; listing = no_listing 0 }

unfoldable pub data_from : List ℕ → List ℕ → ℕ → Option Span → Data
data_from name s end (Some a) = record { end = end; one = eqb (byte_at s a.from) open_object; listing = listing_at name s a.from }
data_from name s end None = not_one end

abbrev pub data_span : List ℕ → ℕ → Span
data_span s at = record { from = at; to = end_of (value item_depth s at) }

unfoldable pub data_at : List ℕ → List ℕ → ℕ → Data
data_at name s at = data_from name s (end_of (value item_depth s at)) (one_in s (data_span s at))

-- What is told of the value, and that the buffer has the orders of the one object in it.
pub record DataRead (name s : List ℕ) (at : ℕ) (after : List ℕ) (r : Data) : Type 0 where
  pub told : r ≡ data_at name s at
  pub room : length after ≡ buffer_words
  pub holds : (a : Span) → one_in s (data_span s at) ≡ Some a → (ms : List Pair) → object_at object_depth s a ≡ Some ms
      → Holds s (orders_in s ms) r.listing.sides.tally after

-- The same of an array of one, and of nothing else.
pub record OneRead (name s : List ℕ) (at : ℕ) (after : List ℕ) (r : Option Data) : Type 0 where
  pub some : (d : Data) → r ≡ Some d → DataRead name s at after d
  pub none : r ≡ None → one_in s (data_span s at) ≡ None
  pub room : length after ≡ buffer_words
